-- Desks that each take what the others keep: they keep what is kept of all that they heard.
use Rattle.std.proofs.Common.{◌≡◌, ℕ, ◌+◌, ◌<◌, List, [], ◌∷◌, ◌++◌, length, take, get_or, All, zero, suc, arith, ◌↔◌, inl, inr, refl, sym}
use Rattle.std.proofs.Common.{ap, subst, ◌∙◌, append_assoc, append-nil}
use Rattle.std.specs.List.{Contains, AllZip}
use Rattle.std.proofs.lemmas.List.{take_more}
use Rattle.std.proofs.lemmas.List.Elements.{All-nil, All-cons, Contains-append_cases, Contains-append_left, Contains-append_right}
use Rattle.itip_items.specs.declared.item.Item.{Item}
use Rattle.itip_state.specs.Kept.{AreKept, IsKept}
use Rattle.itip_state.proofs.Members.{none_in, cons_cases, cons_first, cons_later}
use Rattle.itip_state.proofs.Keeping.{Covers, covers_kept, covers_itself, kept_part, kept_of_parts, kept_iff, same_absorbed, are_kept_by}
use Rattle.itip_desk.specs.Desk.{Shown, IsDeskOf, IsDeltaOf}
use Rattle.itip_desk.specs.HeardSteps.{heard}
use Rattle.itip_office.specs.Ended.{all_heard, IsSomeDesk}
use Rattle.itip_office.proofs.Taking.{heard_both}
use Rattle.itip_office.proofs.Whole.{whole_delta}

-- the batches that a desk heard
abbrev pub History : Type 0
History = List (List Item)

abbrev pub AreDesksOf : List History → List Shown → Type 0
AreDesksOf = AllZip (λ (h : History) (d : Shown). IsDeskOf h 0 d)

abbrev pub AreDeltasOf : List Shown → List (List Item) → Type 0
AreDeltasOf = AllZip (λ (d : Shown) (b : List Item). IsDeltaOf d 0 b)

pub zip_push : {A B : Type 0} (R : A → B → Type 0) (xs : List A) (ys : List B) (x : A) (y : B) → AllZip R xs ys → R x y →
    AllZip R (xs ++ x ∷ []) (ys ++ y ∷ [])
zip_push R [] [] x y are one = (one, tt)
zip_push R [] (b ∷ ys) x y are one = absurd are
zip_push R (a ∷ xs) [] x y are one = absurd are
zip_push R (a ∷ xs) (b ∷ ys) x y are one = (are.0, zip_push R xs ys x y are.1 one)

pub zip_length : {A B : Type 0} (R : A → B → Type 0) (xs : List A) (ys : List B) → AllZip R xs ys → length ys ≡ length xs
zip_length R [] [] are = refl
zip_length R [] (b ∷ ys) are = absurd are
zip_length R (a ∷ xs) [] are = absurd are
zip_length R (a ∷ xs) (b ∷ ys) are = ap suc (zip_length R xs ys are.1)

-- a desk takes these batches, one after another
abbrev pub Carries : List (List Item) → Shown → Shown → Type 0
Carries batches old new = (steps : History) (start : ℕ) → IsDeskOf steps start old → IsDeskOf (steps ++ batches) start new

pub carries_none : (desk : Shown) → Carries [] desk desk
carries_none desk steps start is = subst (λ (l : History). IsDeskOf l start desk) (sym (append-nil steps)) is

pub carries_more : (batches : List (List Item)) (i : ℕ) (b : List Item) (old mid new : Shown) → i < length batches →
    b ≡ get_or batches i b → Carries (take i batches) old mid → Carries (b ∷ []) mid new
    → Carries (take (i + 1) batches) old new
carries_more batches i b old mid new within at first one steps start is =
    let more : take (i + 1) batches ≡ take i batches ++ b ∷ [] = take_more batches i b within ∙
    ap (λ (x : List Item). take i batches ++ x ∷ []) (sym at) in
    subst (λ (l : History). IsDeskOf l start new) (append_assoc steps (take i batches) (b ∷ []) ∙
    ap (λ (l : History). steps ++ l) (sym more)) (one (steps ++ take i batches) start (first steps start is))

-- parts that cover sets cover them together
covers_append : (p x q y : List Item) → Covers p x → Covers q y → Covers (p ++ q) (x ++ y)
covers_append p x q y hx hy i = (
  λ h. elim (Contains-append_cases p q i h) [
    | inl left ↦ Contains-append_left x y i ((hx i).0 left)
    | inr right ↦ Contains-append_right x y
        i ((hy i).0 right)
  ],
  λ kept. elim (Contains-append_cases x y i ((covers_itself (x ++ y) i).1 kept)) [
    | inl left ↦ Contains-append_left p q i ((hx i).1 (kept_part (x ++ y) x i (λ j h. Contains-append_left x y j h) kept left))
    | inr right ↦ Contains-append_right p q i ((hy i).1 (kept_part (x ++ y) y i (λ j h. Contains-append_right x y j h) kept right))
  ],
)

all_kept : List Shown → List Item
all_kept [] = []
all_kept (desk ∷ desks) = desk.kept ++ all_kept desks

covers_heard : (hs : List History) (desks : List Shown) → AreDesksOf hs desks → Covers (all_kept desks) (all_heard hs)
unfolding all_kept
covers_heard [] [] are = covers_itself []
covers_heard [] (d ∷ desks) are = absurd are
covers_heard (h ∷ hs) [] are = absurd are
covers_heard (h ∷ hs) (d ∷ desks) are =
    covers_append d.kept (heard h) (all_kept desks) (all_heard hs) (covers_kept d.kept (heard h) are.0.kept) (covers_heard hs desks are.1)

covers_deltas : (hs : List History) (desks : List Shown) (deltas : List (List Item)) → AreDesksOf hs desks → AreDeltasOf desks deltas →
    Covers (all_kept desks) (heard deltas)
unfolding all_kept
covers_deltas hs [] [] are gives = covers_itself []
covers_deltas hs [] (b ∷ deltas) are gives = absurd gives
covers_deltas hs (d ∷ desks) [] are gives = absurd gives
covers_deltas [] (d ∷ desks) (b ∷ deltas) are gives = absurd are
covers_deltas (h ∷ hs) (d ∷ desks) (b ∷ deltas) are gives =
    covers_append d.kept b (all_kept desks) (heard deltas) (covers_kept d.kept b (whole_delta h d b are.0 gives.0))
    (covers_deltas hs desks deltas are.1 gives.1)

among_heard : (hs : List History) (h : History) → Contains hs h → (i : Item) → Contains (heard h) i → Contains (all_heard hs) i
among_heard [] h there i is = absurd (none_in h there)
among_heard (x ∷ hs) h there i is = elim (cons_cases x hs h there) [
  | inl same ↦ Contains-append_left (heard x) (all_heard hs) i (subst (λ (l : History). Contains (heard l) i) (sym same) is)
  | inr later ↦ Contains-append_right (heard x) (all_heard hs) i (among_heard hs h later i is)
]

-- a desk that took all deltas keeps what is kept of all that was heard
pub shared : (hs : List History) (desks : List Shown) (deltas : List (List Item)) → AreDesksOf hs desks → AreDeltasOf desks deltas →
    (h : History) → Contains hs h → (kept : List Item)
    → AreKept kept (heard (h ++ deltas)) → AreKept kept (all_heard hs)
shared hs desks deltas are gives h there kept is =
    are_kept_by kept (heard h ++ heard deltas) (all_heard hs) alike (subst (AreKept kept) (heard_both h deltas) is)
  where
    alike : (i : Item) → IsKept (heard h ++ heard deltas) i ↔ IsKept (all_heard hs) i
    alike i =
        let a = kept_of_parts (heard h) (heard deltas) (heard h) (all_kept desks) (covers_itself (heard h))
        (covers_deltas hs desks deltas are gives) i in
        let b = kept_of_parts (heard h) (all_heard hs) (heard h) (all_kept desks) (covers_itself (heard h)) (covers_heard hs desks are) i in
        let c = kept_iff (heard h ++ all_heard hs) (all_heard hs) (same_absorbed (heard h) (all_heard hs) (among_heard hs h there)) i in
        (λ k. c.0 (b.0 (a.1 k)), λ k. a.0 (b.1 (c.1 k)))

-- the desks that are left, each with what it heard
pub record AreLeft (hs : List History) (desks : List Shown) : Type 0 where
  pub left : List History
  pub are : AreDesksOf left desks
  pub within : (h : History) → Contains left h → Contains hs h

-- the first `n` desks
pub left_some : (hs : List History) (desks : List Shown) (n : ℕ) → AreDesksOf hs desks → AreLeft hs (take n desks)
left_some hs desks zero are = record { left = []; are = tt; within = λ h there. absurd (none_in h there) }
left_some [] [] (suc n) are = record { left = []; are = tt; within = λ h there. there }
left_some [] (d ∷ desks) (suc n) are = absurd are
left_some (h ∷ hs) [] (suc n) are = absurd are
left_some (h ∷ hs) (d ∷ desks) (suc n) are =
    let rest = left_some hs desks n are.1 in
    record {
      left = h ∷ rest.left;
      are = (are.0, rest.are);
      within = λ x there. elim (cons_cases h rest.left x there) [
        | inl same ↦ subst (λ (y : History). Contains (h ∷ hs) y) same (cons_first h hs)
        | inr later ↦ cons_later h hs x (rest.within x later)
      ];
    }

pub record IsNext (hs : List History) (d : Shown) (desks : List Shown) : Type 0 where
  pub history : History
  pub there : Contains hs history
  pub is : IsDeskOf history 0 d
  pub rest : AreLeft hs desks

pub left_next : (hs : List History) (d : Shown) (desks : List Shown) → AreLeft hs (d ∷ desks) → IsNext hs d desks
left_next hs d desks l = by l.left l.are l.within
  where
    by : (left : List History) → AreDesksOf left (d ∷ desks) → ((h : History) → Contains left h → Contains hs h) → IsNext hs d desks
    by [] are within = absurd are
    by (h ∷ left) are within = record {
      history = h;
      there = within h (cons_first h left);
      is = are.0;
      rest = record { left = left; are = are.1; within = λ x there. within x (cons_later h left x there) };
    }

-- desks that each heard a history
pub some_desks : (hs : List History) (desks : List Shown) → AreDesksOf hs desks → All IsSomeDesk desks
some_desks [] [] are = All-nil IsSomeDesk
some_desks [] (d ∷ desks) are = absurd are
some_desks (h ∷ hs) [] are = absurd are
some_desks (h ∷ hs) (d ∷ desks) are = All-cons IsSomeDesk d desks (record { batches = h; is = are.0 }) (some_desks hs desks are.1)

-- a single desk keeps what is kept of all that was heard
pub alone_kept : (hs : List History) (desks : List Shown) → length desks < 2 → AreDesksOf hs desks →
    All (λ (d : Shown). AreKept d.kept (all_heard hs)) desks
alone_kept [] [] few are = All-nil (λ (d : Shown). AreKept d.kept (all_heard []))
alone_kept [] (d ∷ desks) few are = absurd are
alone_kept (h ∷ hs) [] few are = absurd are
alone_kept (h ∷ []) (d ∷ []) few are =
    let P : Shown → Type 0 = λ d. AreKept d.kept (all_heard (h ∷ [])) in
    All-cons P d [] (subst (AreKept d.kept) (sym (append-nil (heard h))) are.0.kept) (All-nil P)
alone_kept (h ∷ []) (d ∷ e ∷ desks) few are = absurd (omega (arith, few))
alone_kept (h ∷ g ∷ hs) (d ∷ []) few are = absurd are.1
alone_kept (h ∷ g ∷ hs) (d ∷ e ∷ desks) few are = absurd (omega (arith, few))
