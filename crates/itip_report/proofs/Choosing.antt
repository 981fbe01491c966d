-- The items of one UID that are looked for, in the order of their keys.
use Rattle.std.proofs.Common.{◌≡◌, ◌+◌, ◌<◌, ℕ, List, [], ◌∷◌, ◌++◌, map, take, length, sym, ◌∙◌, ap, subst, inl, inr, get_or, Bor}
use Rattle.std.specs.List.{Contains}
use Rattle.std.proofs.Math.ListN.{get_or-map}
use Rattle.std.proofs.lemmas.List.{length-map, take_more}
use Rattle.std.proofs.lemmas.List.Elements.{Contains-get_or, Contains-append_left, Contains-push, Contains-push_cases}
use Rattle.std.proofs.lemmas.List.Quantifiers.{all_pairs_push}
use Rattle.itip_items.specs.declared.item.Item.{Item}
use Rattle.itip_state.specs.Kept.{AscendKeys, SameItems}
use Rattle.itip_state.proofs.Members.{none_in, no_pairs}
use Rattle.itip_state.proofs.Ordered.{IsBefore}
use Rattle.itip_view.proofs.Collecting.{earlier_before}
use Rattle.itip_report.specs.Lines.{AscendPlaces, AreReported}

-- of the items that were looked at, those that are looked for
pub record Chosen (Is : Item → Type 0) (done found : List Item) : Type 0 where
  pub ascend : AscendKeys found
  pub each : (item : Item) → Contains found item → Contains done item × Is item
  pub all : (item : Item) → Contains done item → Is item → Contains found item

module _ (Is : Item → Type 0) where
  pub chosen_none : Chosen Is [] []
  chosen_none = record { ascend = no_pairs IsBefore; each = λ item h. absurd (none_in item h); all = λ item h is. absurd (none_in item h) }

  module _ (done found : List Item) (so : Chosen Is done found) (item : Item) where
    pub chosen_pass : (Is item → ⊥) → Chosen Is (done ++ item ∷ []) found
    chosen_pass not = record {
      ascend = so.ascend;
      each = λ i h. let r = so.each i h in (Contains-append_left done (item ∷ []) i r.0, r.1);
      all = λ i h is. elim (Contains-push_cases done item i h) [
        | inl earlier ↦ so.all i earlier is
        | inr same ↦ absurd (not (subst Is (sym same) is))
      ];
    }

    pub chosen_more : ((i : Item) → Contains done i → IsBefore i item) → Is item → Chosen Is (done ++ item ∷ []) (found ++ item ∷ [])
    chosen_more later is = record {
      ascend = all_pairs_push IsBefore found item so.ascend
          (λ k d below. later (get_or found k d) (so.each (get_or found k d) (Contains-get_or found k d below)).0);
      each = λ i h. elim (Contains-push_cases found item i h) [
        | inl earlier ↦ let r = so.each i earlier in (Contains-append_left done (item ∷ []) i r.0, r.1)
        | inr same ↦ (subst (Contains (done ++ item ∷ [])) same (Contains-push done item), subst Is same is)
      ];
      all = λ i h also. elim (Contains-push_cases done item i h) [
        | inl earlier ↦ Contains-append_left found (item ∷ []) i (so.all i earlier also)
        | inr same ↦ subst (Contains (found ++ item ∷ [])) same (Contains-push found item)
      ];
    }

  -- by place they are the reported ones
  pub chosen_by_place : (items found sorted : List Item) → ((item : Item) → Is item → Contains items item) → Chosen Is items found →
      AscendPlaces sorted → SameItems sorted found → AreReported Is sorted
  chosen_by_place items found sorted heard so ascend same = record {
    ascend = ascend;
    each = λ i h. (so.each i ((same i).0 h)).1;
    all = λ i is. (same i).1 (so.all i (heard i is) is);
  }

-- one more of the items is looked at
module _ (Is : Item → Type 0) (refs : List (Bor Item)) (ordered : AscendKeys (map (λ item. item.now) refs)) (i : ℕ) (ref : Bor Item)
    (below : i < length refs) (here : ref ≡ get_or refs i ref)
    (found : List Item) (so : Chosen Is (take i (map (λ item. item.now) refs)) found) where
  inside : i < length (map (λ (item : Bor Item). item.now) refs)
  inside = rw (length-map refs (λ (item : Bor Item). item.now)) below

  at_i : get_or (map (λ item. item.now) refs) i ref.now ≡ ref.now
  at_i = get_or-map (λ item. item.now) refs i ref ∙ ap (λ (item : Bor Item). item.now) (sym here)

  done : take (i + 1) (map (λ item. item.now) refs) ≡ take i (map (λ item. item.now) refs) ++ ref.now ∷ []
  done = take_more (map (λ item. item.now) refs) i ref.now inside ∙ ap (λ (x : Item). take i (map (λ item. item.now) refs) ++ x ∷ []) at_i

  pub looked_pass : (Is ref.now → ⊥) → Chosen Is (take (i + 1) (map (λ item. item.now) refs)) found
  looked_pass not = subst (λ (xs : List Item). Chosen Is xs found) (sym done)
      (chosen_pass Is (take i (map (λ item. item.now) refs)) found so ref.now not)

  pub looked_more : Is ref.now → Chosen Is (take (i + 1) (map (λ item. item.now) refs)) (found ++ ref.now ∷ [])
  looked_more is = subst (λ (xs : List Item). Chosen Is xs (found ++ ref.now ∷ [])) (sym done)
      (chosen_more Is (take i (map (λ item. item.now) refs)) found so ref.now
      (earlier_before IsBefore (map (λ item. item.now) refs) i ref.now ordered inside (sym at_i)) is)
