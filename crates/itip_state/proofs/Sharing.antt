-- The items of a state, shared.
use Rattle.std.proofs.Common.{◌≡◌, ℕ, List, [], ◌∷◌, ◌++◌, refl, sym, ◌∙◌, ap, subst, inl, inr, true, Some}
use Rattle.std.specs.List.{Contains, AllByRecursion}
use Rattle.std.proofs.lemmas.List.Elements.{Contains-append_cases, Contains-append_left, Contains-append_right, Contains-push}
use Rattle.std.proofs.lemmas.List.Elements.{Contains-push_cases}
use Rattle.itip_join.specs.declared.lift.Lift.{Lift}
use Rattle.itip_join.specs.declared.lift.Lift.TheVariants.{Nothing, Known}
use Rattle.itip_items.specs.KeyParts.{uid_of}
use Rattle.itip_items.specs.declared.item.Item.{Item}
use Rattle.itip_items.specs.declared.key.Key.{Key}
use Rattle.itip_state.specs.Kept.{ArePart, ArePartOf}
use Rattle.itip_state.specs.Held.{Best, is_series, series_items, IsPlaceOf, IsSeriesAt, IsEntryAt}
use Rattle.itip_state.proofs.Members.{none_in}

-- the series item of a UID has no place of its own
pub at_no_place : (uid : List ℕ) (s : _) (b : Best) → s ≡ Known b → IsSeriesAt uid s → is_series b.value.key ≡ true
at_no_place uid s b is at = ap is_series (subst (IsSeriesAt uid) is at)

pub placed_first : (uid : List ℕ) (es rest : List (Key × Best)) (k : Key) (b : Best) → es ≡ (k, b) ∷ rest →
    AllByRecursion (λ e. IsEntryAt uid e.0 e.1) es → IsPlaceOf (Some k) b.value.key
placed_first uid es rest k b e all =
    let first : IsEntryAt uid k b = (subst (AllByRecursion (λ e. IsEntryAt uid e.0 e.1)) e all).0 in
    (sym first.in_place, ap is_series first.in_place ∙ first.other)

pub placed_rest : (uid : List ℕ) (es rest : List (Key × Best)) (k : Key) (b : Best) → es ≡ (k, b) ∷ rest →
    AllByRecursion (λ e. IsEntryAt uid e.0 e.1) es
    → AllByRecursion (λ e. IsEntryAt uid e.0 e.1) rest
placed_rest uid es rest k b e all = (subst (AllByRecursion (λ e. IsEntryAt uid e.0 e.1)) e all).1

pub no_series_items : (s : Lift Best) → ((b : Best) → s ≡ Known b → ⊥) → series_items s ≡ []
no_series_items Nothing not = refl
no_series_items (Known b) not = absurd (not b refl)

-- ---- the items of some UIDs
pub of_none : (set : List Item) → ArePartOf [] set []
of_none set i = (λ h. absurd (none_in i h), λ h. absurd (none_in (uid_of i.key) h.1))

module _ (set items more : List Item) (us now : List (List ℕ)) (uid : List ℕ) (is : now ≡ us ++ uid ∷ []) (part : ArePartOf items set us)
  where
    -- with the items of one more UID
    pub of_more : ArePart uid more set → ArePartOf (items ++ more) set now
    of_more of i = (
      λ h. elim (Contains-append_cases items more i h) [
        | inl earlier ↦ let p = (part i).0 earlier in (
          p.0,
          subst (λ (xs : List (List ℕ)). Contains xs (uid_of i.key)) (sym is)
              (Contains-append_left us (uid ∷ []) (uid_of i.key) p.1),
        )
        | inr new ↦ let p = (of i).0 new in (
          p.0,
          subst (λ (xs : List (List ℕ)). Contains xs (uid_of i.key)) (sym is)
              (subst (Contains (us ++ uid ∷ [])) (sym p.1) (Contains-push us uid)),
        )
      ],
      λ h. elim (Contains-push_cases us uid (uid_of i.key) (subst (λ (xs : List (List ℕ)). Contains xs (uid_of i.key)) is h.1)) [
        | inl earlier ↦ Contains-append_left items more i ((part i).1 (h.0, earlier))
        | inr same ↦ Contains-append_right items more i ((of i).1 (h.0, sym same))
      ],
    )

    -- of a UID that has none
    pub of_no_more : ArePart uid [] set → ArePartOf items set now
    of_no_more of i = (
      λ h. let p = (part i).0 h in (
        p.0,
        subst (λ (xs : List (List ℕ)). Contains xs (uid_of i.key)) (sym is)
            (Contains-append_left us (uid ∷ []) (uid_of i.key) p.1),
      ),
      λ h. elim (Contains-push_cases us uid (uid_of i.key) (subst (λ (xs : List (List ℕ)). Contains xs (uid_of i.key)) is h.1)) [
        | inl earlier ↦ (part i).1 (h.0, earlier)
        | inr same ↦ absurd (none_in i ((of i).1 (h.0, sym same)))
      ],
    )
