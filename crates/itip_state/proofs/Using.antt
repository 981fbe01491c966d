-- The greatest sequence that organizers have used.
use Rattle.std.proofs.Common.{◌≡◌, ℕ, ◌≤◌, List, [], ◌∷◌, refl, sym, ◌∙◌, ap, subst, ◌⊎◌, inl, inr, true, false, Option, Some, None, max}
use Rattle.std.proofs.Common.{arith}
use Rattle.std.specs.Prelude.{if◌then◌else◌}
use Rattle.std.specs.List.{Contains}
use Rattle.itip_items.specs.declared.item.Item.{Item}
use Rattle.itip_state.specs.Kept.{ArePart}
use Rattle.itip_state.specs.Order.{IsState}
use Rattle.itip_state.specs.Organizers.{is_organizers, used_by, greater, greatest, IsOrganizers, IsUsed, IsLastUsed}
use Rattle.itip_state.proofs.Members.{none_in, cons_cases, cons_first, cons_later}

-- a missing sequence is up to any
abbrev IsUpTo : Option ℕ → Option ℕ → Type 0
IsUpTo None b = Unit {0}
IsUpTo (Some a) None = ⊥
IsUpTo (Some a) (Some b) = a ≤ b

up_itself : (a : Option ℕ) → IsUpTo a a
up_itself None = tt
up_itself (Some a) = omega arith

up_through : (a b c : Option ℕ) → IsUpTo a b → IsUpTo b c → IsUpTo a c
up_through None b c p q = tt
up_through (Some a) None c p q = absurd p
up_through (Some a) (Some b) None p q = absurd q
up_through (Some a) (Some b) (Some c) p q = omega (arith, p, q)

first_up : (a b : Option ℕ) → IsUpTo a (greater a b)
first_up None b = tt
first_up (Some a) None = omega arith
first_up (Some a) (Some b) = omega arith

second_up : (a b : Option ℕ) → IsUpTo b (greater a b)
second_up None b = up_itself b
second_up (Some a) None = tt
second_up (Some a) (Some b) = omega arith

max_cases : (a b : ℕ) → (max a b ≡ a) ⊎ (max a b ≡ b)
max_cases a b = grind arith

either : (a b : Option ℕ) → (greater a b ≡ a) ⊎ (greater a b ≡ b)
either None b = inr refl
either (Some a) None = inl refl
either (Some a) (Some b) = elim (max_cases a b) [ inl p ↦ inl (ap Some p) | inr q ↦ inr (ap Some q) ]

last_up : (last : Option ℕ) (items : List Item) → IsUpTo last (greatest last items)
last_up last [] = up_itself last
last_up last (i ∷ is) =
    up_through last (greater last (used_by i)) (greatest (greater last (used_by i)) is) (first_up last (used_by i))
    (last_up (greater last (used_by i)) is)

each_up : (last : Option ℕ) (items : List Item) (i : Item) → Contains items i → IsUpTo (used_by i) (greatest last items)
each_up last [] i h = absurd (none_in i h)
each_up last (j ∷ js) i h = elim (cons_cases j js i h) [
  | inl same ↦ up_through (used_by i) (greater last (used_by j)) (greatest (greater last (used_by j)) js)
      (subst (λ (k : Item). IsUpTo (used_by k) (greater last (used_by j))) same (second_up last (used_by j)))
      (last_up (greater last (used_by j)) js)
  | inr rest ↦ each_up (greater last (used_by j)) js i rest
]

-- an item that uses the sequence
abbrev IsUsedIn : List Item → Option ℕ → Type 0
IsUsedIn items used = (i : Item) × Contains items i × (used_by i ≡ used)

reached : (last : Option ℕ) (items : List Item) → (greatest last items ≡ last) ⊎ IsUsedIn items (greatest last items)
reached last [] = inl refl
reached last (j ∷ js) = elim (reached (greater last (used_by j)) js) [
  | inl same ↦ elim (either last (used_by j)) [
    | inl before ↦ inl (same ∙ before)
    | inr now ↦ inr (j, cons_first j js, sym now ∙ sym same)
  ]
  | inr later ↦ inr (later.0, cons_later j js later.0 later.1, later.2)
]

sent_uses : (i : Item) → is_organizers i.kind ≡ true → used_by i ≡ Some i.eff
sent_uses i e = ap (λ b. if b then Some i.eff else None) e

used_sent : (i : Item) (n : ℕ) → used_by i ≡ Some n → (is_organizers i.kind ≡ true) × (i.eff ≡ n)
used_sent i n e = elim (is_organizers i.kind) as (λ b. (if b then Some i.eff else None) ≡ Some n → (b ≡ true) × (i.eff ≡ n)) [
  | true ↦ λ h. (refl, value i.eff n h)
  | false ↦ λ h. let x : None ≡ Some n = h in absurd (cc)
] e
  where
    value : (a b : ℕ) → Some a ≡ Some b → a ≡ b
    value a b h = cc

-- the greatest sequence among the items of a UID is the last used of it
pub last_is : (uid : List ℕ) (items whole : List Item) → ArePart uid items whole → IsState whole →
    IsLastUsed whole uid (greatest None items)
last_is uid items whole part is_state = by (greatest None items) refl
  where
    among : (i : Item) → IsOrganizers whole uid i → Contains items i
    among i o = (part i).1 ((is_state i).1 o.kept, o.about)

    up : (o : Option ℕ) → greatest None items ≡ o → (i : Item) → IsOrganizers whole uid i → IsUpTo (Some i.eff) o
    up o e i sent = subst (λ (a : Option ℕ). IsUpTo a o) (sent_uses i sent.sent)
        (subst (λ (b : Option ℕ). IsUpTo (used_by i) b) e (each_up None items i (among i sent)))

    used : (n : ℕ) → greatest None items ≡ Some n → IsUsedIn items (greatest None items) → IsUsed whole uid n
    used n e (i, h, u) =
        let sent = used_sent i n (u ∙ e) in
        let there = (part i).0 h in
        record { item = i; of_organizer = record { kept = (is_state i).0 there.0; about = there.1; sent = sent.0 }; eff_is = sent.1 }

    by : (o : Option ℕ) → greatest None items ≡ o → IsLastUsed whole uid o
    by None e = up None e
    by (Some n) e = (
      elim (reached None items) [ inl none ↦ let x : None ≡ Some n = sym none ∙ e in absurd (cc) | inr found ↦ used n e found ],
      up (Some n) e,
    )
