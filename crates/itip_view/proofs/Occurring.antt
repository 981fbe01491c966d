-- The occurrences of a to-do as a whole.
use Rattle.std.proofs.Common.{◌≡◌, ◌↔◌, ℕ, List, [], subst, sym, refl, Option, Some, None}
use Rattle.std.specs.List.{Contains}
use Rattle.itip_moment.specs.declared.moment.Moment.{Moment}
use Rattle.itip_recur.specs.Members.{Occurs}
use Rattle.itip_recur.specs.Occurrences.{OccursIn, AreOccurrences}
use Rattle.itip_recur.specs.ToDoShape.{Recurs, IsShape, IsSeriesOf}
use Rattle.itip_recur.specs.declared.series.Series.{Series}
use Rattle.itip_recur.specs.declared.series.Shape.TheVariants as shape
use Rattle.itip_recur.specs.declared.series.Shape.{Shape}
use Rattle.itip_recur.proofs.OneSeries.{series_one}
use Rattle.itip_items.specs.declared.item.Item.{Item}
use Rattle.itip_items.specs.declared.key.Key.TheVariants as key
use Rattle.itip_state.proofs.Members.{none_in}
use Rattle.itip_view.specs.OccurringWhole.{AreOccurring, IsOccurringOf}
use Rattle.itip_view.specs.InQuestion.{OccursAt}
use Rattle.itip_view.specs.RowsOfUid.{IsWhole, IsOccurrence, AreOccurrencesOf}
use Rattle.itip_view.specs.declared.whole.Whole.{Whole}
use Rattle.itip_view.specs.declared.window.Window.{Window}
use Rattle.itip_view.proofs.OneRow.{one_best}
use Rattle.itip_view.proofs.PlaceRows.{single_has_none, opaque_has_none}

module _ (heard : List Item) (window : Window) (uid : List ℕ) where
  pub occurrences_are : (whole : Whole) (series : Series) (moments : List Moment) → whole.shape ≡ shape.Repeats series →
      IsWhole heard uid (Some whole)
      → AreOccurrences series window.from window.to moments → AreOccurrencesOf heard window uid moments
  occurrences_are whole series moments e (live, is) are at =
      let repeats : IsSeriesOf whole.item.now.todo series = subst (IsShape whole.item.now.todo) e is in (
        λ h. record { item = whole.item.now; series = series; live = live; repeats = repeats; occurs = (are.exactly at).0 h },
        λ o. (are.exactly at).1 (subst (λ (s : Series). OccursIn s window.from window.to at)
            (series_one whole.item.now.todo o.series series
            (subst (λ (i : Item). IsSeriesOf i.todo o.series) (one_best heard (key.Series uid) o.item whole.item.now o.live.best live.best)
            o.repeats) repeats) o.occurs),
      )

  none_occur : (moments : List Moment) → moments ≡ [] → ((at : Moment) → IsOccurrence heard window uid at → ⊥) →
      AreOccurrencesOf heard window uid moments
  none_occur moments e none at = (λ h. absurd (none_in at (subst (λ (ms : List Moment). Contains ms at) e h)), λ o. absurd (none at o))

  pub absent_occurs : (moments : List Moment) → moments ≡ [] → IsWhole heard uid None → AreOccurrencesOf heard window uid moments
  absent_occurs moments e none = none_occur moments e (λ at o. none o.item o.live)

  pub single_occurs : (whole : Whole) (moments : List Moment) → moments ≡ [] → whole.shape ≡ shape.Single →
      IsWhole heard uid (Some whole) → AreOccurrencesOf heard window uid moments
  single_occurs whole moments e s (live, is) =
      none_occur moments e (λ at. single_has_none heard window uid whole.item.now live at (subst (IsShape whole.item.now.todo) s is))

  pub opaque_occurs : (whole : Whole) (moments : List Moment) → moments ≡ [] → whole.shape ≡ shape.Opaque →
      IsWhole heard uid (Some whole) → AreOccurrencesOf heard window uid moments
  opaque_occurs whole moments e s (live, is) =
      none_occur moments e (λ at. opaque_has_none heard window uid whole.item.now live at (subst (IsShape whole.item.now.todo) s is))

module _ (heard : List Item) (uid : List ℕ) (at : Moment) where
  -- a to-do that repeats occurs where its series does
  pub whole_occurs : (whole : Whole) (series : Series) → whole.shape ≡ shape.Repeats series → IsWhole heard uid (Some whole) →
      Occurs series at ↔ OccursAt heard uid at
  whole_occurs whole series e (live, is) =
      let repeats : IsSeriesOf whole.item.now.todo series = subst (IsShape whole.item.now.todo) e is in (
        λ o. record { item = whole.item.now; series = series; live = live; repeats = repeats; occurs = o },
        λ o. subst (λ (s : Series). Occurs s at)
            (series_one whole.item.now.todo o.series series
            (subst (λ (i : Item). IsSeriesOf i.todo o.series) (one_best heard (key.Series uid) o.item whole.item.now o.live.best live.best)
            o.repeats) repeats) o.occurs,
      )

  pub absent_not : IsWhole heard uid None → OccursAt heard uid at → ⊥
  absent_not none o = none o.item o.live

  pub single_not : (whole : Whole) → whole.shape ≡ shape.Single → IsWhole heard uid (Some whole) → OccursAt heard uid at → ⊥
  single_not whole s (live, is) o =
      let single : Recurs whole.item.now.todo → ⊥ = subst (IsShape whole.item.now.todo) s is in
      single (subst (λ (i : Item). Recurs i.todo) (one_best heard (key.Series uid) o.item whole.item.now o.live.best live.best)
      o.repeats.recurs)

  pub opaque_not : (whole : Whole) → whole.shape ≡ shape.Opaque → IsWhole heard uid (Some whole) → OccursAt heard uid at → ⊥
  opaque_not whole s (live, is) o =
      let opaque : IsShape whole.item.now.todo shape.Opaque = subst (IsShape whole.item.now.todo) s is in
      opaque.1 o.series (subst (λ (i : Item). IsSeriesOf i.todo o.series)
      (one_best heard (key.Series uid) o.item whole.item.now o.live.best live.best) o.repeats)

module _ (heard : List Item) (uid : List ℕ) (whole : Whole) where
  -- a to-do occurs where the series of its shape does
  pub shape_occurs : (found : Option Series) → IsOccurringOf whole.shape found → IsWhole heard uid (Some whole) →
      AreOccurring heard uid found
  shape_occurs found of is = by_shape whole.shape refl found of
    where
      by_shape : (s : Shape) → whole.shape ≡ s → (found : Option Series) → IsOccurringOf s found → AreOccurring heard uid found
      by_shape shape.Single e None of = λ at. single_not heard uid at whole e is
      by_shape shape.Single e (Some series) of = absurd (cc)
      by_shape shape.Opaque e None of = λ at. opaque_not heard uid at whole e is
      by_shape shape.Opaque e (Some series) of = absurd (cc)
      by_shape (shape.Repeats series) e found of =
          subst (AreOccurring heard uid) (sym of) (λ at. whole_occurs heard uid at whole series e is)
