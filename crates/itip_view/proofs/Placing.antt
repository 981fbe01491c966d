-- The moments at which rows may stand.
use Rattle.std.proofs.Common.{◌≡◌, ◌↔◌, ℕ, List, [], ◌∷◌, ◌++◌, sym, ◌∙◌, ap, subst, ◌⊎◌, inl, inr, Option}
use Rattle.std.specs.List.{Contains}
use Rattle.std.specs.List.Sorted.{IsStrictlySortedBy}
use Rattle.std.proofs.lemmas.List.Elements.{Contains-append_left, Contains-push, Contains-push_cases}
use Rattle.itip_moment.specs.Order.{moment_cmp}
use Rattle.itip_moment.specs.declared.moment.Moment.{Moment}
use Rattle.itip_items.specs.KeyParts.{uid_of}
use Rattle.itip_items.specs.declared.item.Item.{Item}
use Rattle.itip_items.specs.declared.key.Key.{Key}
use Rattle.itip_items.specs.declared.key.Key.TheVariants as key
use Rattle.itip_state.specs.Kept.{AscendKeys}
use Rattle.itip_state.proofs.Members.{none_in}
use Rattle.itip_state.specs.Kept.{AreOf}
use Rattle.itip_view.specs.RowsOfUid.{IsSeriesItem, StandsBesideOf, AreOccurrencesOf, ArePlaces}
use Rattle.itip_view.specs.declared.window.Window.{Window}
use Rattle.itip_view.proofs.Beside.{stands_from, beside_from}
use Rattle.itip_state.proofs.OfKey.{best_in}

-- the item names an instance at the moment, and stands beside the series item
pub record IsPlacedBy (series : Option Item) (at : Moment) (item : Item) : Type 0 where
  pub uid : List ℕ
  pub about : item.key ≡ key.Instance uid at
  pub beside : StandsBesideOf series item

-- the places so far: those before, and those of the items that were looked at
pub record Places (series : Option Item) (before : List Moment) (done : List Item) (places : List Moment) : Type 0 where
  pub old : (at : Moment) → Contains before at → Contains places at
  pub of_items : (at : Moment) (item : Item) → Contains done item → IsPlacedBy series at item → Contains places at
  pub each : (at : Moment) → Contains places at → Contains before at ⊎ ((item : Item) × Contains done item × IsPlacedBy series at item)

module _ (series : Option Item) (before : List Moment) where
  pub places_none : Places series before [] before
  places_none = record { old = λ at h. h; of_items = λ at item h. absurd (none_in item h); each = λ at h. inl h }

  module _ (done : List Item) (places : List Moment) (so : Places series before done places) (item : Item) where
    -- an item that names no place
    pub places_pass : ((at : Moment) → IsPlacedBy series at item → ⊥) → Places series before (done ++ item ∷ []) places
    places_pass not = record {
      old = so.old;
      of_items = λ at i h is. elim (Contains-push_cases done item i h) [
        | inl earlier ↦ so.of_items at i earlier is
        | inr same ↦ absurd (not at (subst (IsPlacedBy series at) (sym same) is))
      ];
      each = λ at h. elim (so.each at h) [ inl old ↦ inl old | inr by ↦ inr (by.0, Contains-append_left done (item ∷ []) by.0 by.1, by.2) ];
    }

    pub places_more : (at : Moment) → IsPlacedBy series at item → Places series before (done ++ item ∷ []) (places ++ at ∷ [])
    places_more at is = record {
      old = λ a h. Contains-append_left places (at ∷ []) a (so.old a h);
      of_items = λ a i h by. elim (Contains-push_cases done item i h) [
        | inl earlier ↦ Contains-append_left places (at ∷ []) a (so.of_items a i earlier by)
        | inr same ↦ subst (Contains (places ++ at ∷ []))
            (one_place (key.Instance is.uid at) a at by.uid is.uid (sym by.about ∙ ap (λ (x : Item). x.key) (sym same) ∙ is.about))
            (Contains-push places at)
      ];
      each = λ a h. elim (Contains-push_cases places at a h) [
        | inl earlier ↦ elim (so.each a earlier)
            [ inl old ↦ inl old | inr by ↦ inr (by.0, Contains-append_left done (item ∷ []) by.0 by.1, by.2) ]
        | inr same ↦ inr (item, Contains-push done item, subst (λ (m : Moment). IsPlacedBy series m item) same is)
      ];
    }
      where
        one_place : (k : Key) (a b : Moment) (u v : List ℕ) → key.Instance u a ≡ key.Instance v b → b ≡ a
        one_place k a b u v e = cc

-- the places in order are those of the UID
pub places_are : (items : List Item) (window : Window) (uid : List ℕ) (series : Option Item) (occurrences places sorted : List Moment) →
    AscendKeys items → AreOf uid items → IsSeriesItem items uid series
    → AreOccurrencesOf items window uid occurrences → Places series occurrences items places → IsStrictlySortedBy moment_cmp sorted →
    ((at : Moment) → Contains sorted at ↔ Contains places at) → ArePlaces items window uid sorted
places_are items window uid series occurrences places sorted ordered about of are so ascend same = record {
  ascend = ascend;
  instances = λ at item stands. (same at).1 (so.of_items at item stands.best.is_heard
      (record { uid = uid; about = stands.best.about; beside = beside_from items uid (key.Instance uid at) series item of stands }));
  occurrences = λ at is. (same at).1 (so.old at ((are at).1 is));
  each = λ at h none. elim (so.each at ((same at).0 h)) [
    | inl old ↦ (are at).0 old
    | inr by ↦
        let here : by.2.uid ≡ uid = sym (ap uid_of by.2.about) ∙ about by.0 by.1 in
        let key_is : by.0.key ≡ key.Instance uid at = by.2.about ∙ ap (λ (u : List ℕ). key.Instance u at) here in
        absurd (none by.0 (stands_from items uid (key.Instance uid at) series by.0 of (best_in
        items ordered (key.Instance uid at) by.0 by.1 key_is) by.2.beside))
  ];
}
