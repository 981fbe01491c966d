-- Where the heads of two texts differ, they are in the order of the texts.
use Rattle.std.proofs.Common.{◌≡◌, ◌≢◌, ◌+◌, ◌*◌, ◌<◌, ◌≤◌, ◌-◌, ℕ, zero, suc, List, [], ◌∷◌, refl, sym, ◌∙◌, ap, subst, arith, rules, ◌⊎◌}
use Rattle.std.proofs.Common.{inl, inr}
use Rattle.std.specs.Prelude.{slice_index, drop}
use Rattle.std.specs.Ordering.{nat_cmp, ordering_then, ordering_reverse, MatchOrdering}
use Rattle.std.specs.declared.cmp.Ordering.{Ordering}
use Rattle.std.specs.declared.cmp.Ordering.TheVariants.{Less, Equal, Greater}
use Rattle.std.specs.Cmp.{nat_cmp_is}
use Rattle.std.specs.Cmp.Lexicographic.{slice_cmp, nat_list_cmp_total}
use Rattle.std.proofs.lemmas.Cmp.{ranked}
use Rattle.itip_todo.specs.Heads.{head_from, head_of, AreOctets}

-- a number is below another, the same, or above it
three : (x y : ℕ) → (x < y) ⊎ ((x ≡ y) ⊎ (y < x))
three x y = by (nat_cmp x y) (ranked x y (nat_cmp x y) refl)
  where
    by : (o : Ordering) → MatchOrdering o (x < y) (x ≡ y) (y < x) → (x < y) ⊎ ((x ≡ y) ⊎ (y < x))
    by Less l = inl l
    by Equal e = inr (inl e)
    by Greater g = inr (inr g)

-- what is less stays less, whatever octets follow
stays_less : (left n m : ℕ) (xs ys : List ℕ) → AreOctets xs → n < m → head_from n left xs < head_from m left ys
stays_less zero n m xs ys octets less = less
stays_less (suc left) n m [] [] octets less = stays_less left (n * 256) (m * 256) [] [] octets (omega arith)
stays_less (suc left) n m [] (y ∷ ys) octets less = stays_less left (n * 256) (m * 256 + y) [] ys octets (omega arith)
stays_less (suc left) n m (x ∷ xs) [] octets less = let small : x < 256 = octets 0 in
    stays_less left (n * 256 + x) (m * 256) xs [] (λ place. octets (suc place)) (omega arith)
stays_less (suc left) n m (x ∷ xs) (y ∷ ys) octets less = let small : x < 256 = octets 0 in
    stays_less left (n * 256 + x) (m * 256 + y) xs ys (λ place. octets (suc place)) (omega arith)

no_octets : AreOctets []
no_octets place = search rules

-- nothing is below what has ended
none_below : (left n : ℕ) (xs : List ℕ) → head_from n left xs < head_from n left [] → ⊥
none_below zero n xs less = omega arith
none_below (suc left) n [] less = none_below left (n * 256) [] less
none_below (suc left) n (x ∷ xs) less = elim (three 0 x) [
  | inl more ↦ let back : head_from (n * 256) left [] < head_from (n * 256 + x) left xs =
      stays_less left (n * 256) (n * 256 + x) [] xs no_octets (omega arith) in omega arith
  | inr (inl nought) ↦ let same : n * 256 + x ≡ n * 256 = omega arith in
      none_below left (n * 256) xs (subst (λ (m : ℕ). head_from m left xs < head_from (n * 256) left []) same less)
  | inr (inr under) ↦ absurd (omega arith)
]

-- of two texts that go on from one number, the one with the lesser head is the lesser
lesser : (left n : ℕ) (xs ys : List ℕ) → AreOctets ys → head_from n left xs < head_from n left ys → slice_cmp nat_cmp xs ys ≡ Less
lesser zero n xs ys octets less = absurd (omega arith)
lesser (suc left) n [] [] octets less = absurd (none_below left (n * 256) [] less)
lesser (suc left) n [] (y ∷ ys) octets less = refl
lesser (suc left) n (x ∷ xs) [] octets less = absurd (none_below (suc left) n (x ∷ xs) less)
lesser (suc left) n (x ∷ xs) (y ∷ ys) octets less = elim (three x y) [
  | inl under ↦ ap (λ (o : Ordering). ordering_then o (slice_cmp nat_cmp xs ys)) (sym (nat_cmp_is x y Less under))
  | inr (inl same) ↦ ap (λ (o : Ordering). ordering_then o (slice_cmp nat_cmp xs ys)) (sym (nat_cmp_is x y Equal same))
      ∙ lesser left (n * 256 + y) xs ys (λ place. octets (suc place))
      (subst (λ (m : ℕ). head_from (n * 256 + m) left xs < head_from (n * 256 + y) left ys) same less)
  | inr (inr over) ↦ let back : head_from (n * 256 + y) left ys < head_from (n * 256 + x) left xs =
      stays_less left (n * 256 + y) (n * 256 + x) ys xs (λ place. octets (suc place)) (omega arith) in absurd (omega arith)
]

-- where the heads differ, they decide
pub heads_decide : (xs ys : List ℕ) → AreOctets xs → AreOctets ys → head_of xs ≢ head_of ys →
    nat_cmp (head_of xs) (head_of ys) ≡ slice_cmp nat_cmp xs ys
heads_decide xs ys are_xs are_ys apart = elim (three (head_of xs) (head_of ys)) [
  | inl under ↦ sym (nat_cmp_is (head_of xs) (head_of ys) Less under) ∙ sym (lesser 16 0 xs ys are_ys under)
  | inr (inl same) ↦ absurd (apart same)
  | inr (inr over) ↦ sym (nat_cmp_is (head_of xs) (head_of ys) Greater over) ∙
      sym (nat_list_cmp_total.antisymm xs ys ∙ ap ordering_reverse (lesser 16 0 ys xs are_xs over))
]

-- the number stays one of 128 bits, whatever octets follow
abbrev pub HasRoom : ℕ → ℕ → Type 0
HasRoom n zero = n < 340282366920938463463374607431768211456
HasRoom n (suc left) = HasRoom (n * 256 + 255) left

room_less : (left n m : ℕ) → n ≤ m → HasRoom m left → HasRoom n left
room_less zero n m le room = omega arith
room_less (suc left) n m le room = room_less left (n * 256 + 255) (m * 256 + 255) (omega arith) room

pub room_now : (left n : ℕ) → HasRoom n left → n < 340282366920938463463374607431768211456
room_now zero n room = room
room_now (suc left) n room = let later : n * 256 + 255 < 340282366920938463463374607431768211456 = room_now left (n * 256 + 255) room in
    omega arith

before : (left : ℕ) → left ≡ suc left - 1
before left = omega arith

pub room_next : (left n octet : ℕ) → 0 < left → octet < 256 → HasRoom n left → HasRoom (n * 256 + octet) (left - 1)
room_next zero n octet some small room = absurd (omega arith)
room_next (suc left) n octet some small room =
    subst (λ (m : ℕ). HasRoom (n * 256 + octet) m) (before left) (room_less left (n * 256 + octet) (n * 256 + 255) (omega arith) room)

pub room_for : (left n octet : ℕ) → 0 < left → octet < 256 → HasRoom n left → n * 256 + octet < 340282366920938463463374607431768211456
room_for left n octet some small room = room_now (left - 1) (n * 256 + octet) (room_next left n octet some small room)

pub head_next : (left n : ℕ) (text : List ℕ) → 0 < left →
    head_from n left text ≡ head_from (n * 256 + slice_index text 0) (left - 1) (drop 1 text)
head_next zero n text some = absurd (omega arith)
head_next (suc left) n [] some = let same : n * 256 ≡ n * 256 + 0 = omega arith in ap (λ (m : ℕ). head_from m left []) same ∙
    ap (λ (m : ℕ). head_from (n * 256 + 0) m []) (before left)
head_next (suc left) n (octet ∷ text) some = ap (λ (m : ℕ). head_from (n * 256 + octet) m text) (before left)
