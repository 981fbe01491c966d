-- Two lists of the same items, each item once, have the same length.
use Rattle.std.proofs.Common.{◌≡◌, ◌≢◌, suc, ◌≤◌, List, [], ◌∷◌, length, refl, sym, ap, ◌∙◌, arith, inl, inr}
use Rattle.std.specs.Prelude.{◌⊎◌}
use Rattle.std.specs.List.{AllByRecursion}
use Rattle.itip_items.specs.declared.item.Item.{Item}
use Rattle.itip_state.specs.Kept.{SameItems, HasEachOnce}
use Rattle.itip_world.proofs.Ascending.{IsIn, in_contained, contained_in, Ascends, ascends_by_pairs}

abbrev Apart : Item → Item → Type 0
Apart a b = a ≢ b

-- one of a list, and the others
record TakenOut (ys : List Item) (x : Item) : Type 0 where
  others : List Item
  count : length ys ≡ suc (length others)
  stay : (y : Item) → IsIn ys y → (x ≡ y) ⊎ IsIn others y

take_out : (ys : List Item) (x : Item) → IsIn ys x → TakenOut ys x
take_out [] x h = absurd h
take_out (y ∷ ys) x (inl e) =
    record { others = ys; count = refl; stay = λ z h. elim h [ inl same ↦ inl (sym e ∙ same) | inr rest ↦ inr rest ] }
take_out (y ∷ ys) x (inr h) =
    let rest = take_out ys x h in
    record {
      others = y ∷ rest.others;
      count = ap suc rest.count;
      stay = λ z k. elim k [
        | inl same ↦ inr (inl same)
        | inr later ↦ elim (rest.stay z later)
            [ inl same ↦ inl same | inr there ↦ inr (inr there) ]
      ];
    }

not_later : (x : Item) (xs : List Item) (y : Item) → AllByRecursion (Apart x) xs → IsIn xs y → x ≡ y → ⊥
not_later x [] y apart h same = h
not_later x (z ∷ zs) y apart (inl e) same = apart.0 (same ∙ sym e)
not_later x (z ∷ zs) y apart (inr h) same = not_later x zs y apart.1 h same

-- a list with each item once is no longer than one that has its items
no_longer : (xs ys : List Item) → Ascends Apart xs → ((y : Item) → IsIn xs y → IsIn ys y) → length xs ≤ length ys
no_longer [] ys once within = omega arith
no_longer (x ∷ xs) ys once within =
    let out = take_out ys x (within x (inl refl)) in
    let rest : length xs ≤ length out.others = no_longer xs out.others once.1
    (λ y h. elim (out.stay y (within y (inr h))) [ inl same ↦ absurd (not_later x xs y once.0 h same) | inr there ↦ there ]) in
    let count = out.count in
    omega (arith, rest, count)

pub same_count : (xs ys : List Item) → HasEachOnce xs → HasEachOnce ys → SameItems xs ys → length xs ≡ length ys
same_count xs ys once once' same =
    let one = no_longer xs ys (ascends_by_pairs Apart xs once) (λ y h. in_contained ys y ((same y).0 (contained_in xs y h))) in
    let two = no_longer ys xs (ascends_by_pairs Apart ys once') (λ y h. in_contained xs y ((same y).1 (contained_in ys y h))) in
    omega (arith, one, two)
