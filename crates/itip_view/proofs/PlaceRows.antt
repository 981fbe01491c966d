-- Which row is at a place, and where there is none.
use Rattle.std.proofs.Common.{◌≡◌, ℕ, List, refl, sym, ◌∙◌, ap, subst, ◌⊎◌, inl, inr, Option, Some, None}
use Rattle.itip_moment.specs.declared.moment.Moment.{Moment}
use Rattle.itip_todo.specs.Properties.{Property}
use Rattle.itip_recur.specs.ToDoShape.{Recurs, IsShape, IsSeriesOf}
use Rattle.itip_recur.specs.declared.series.Series.{Series}
use Rattle.itip_recur.specs.declared.series.Shape.TheVariants as shape
use Rattle.itip_items.specs.declared.item.Item.{Item}
use Rattle.itip_items.specs.declared.key.Key.TheVariants as key
use Rattle.itip_state.specs.OfUid.{UidPart}
use Rattle.itip_view.specs.Answers.{Asked, AreShown}
use Rattle.itip_view.specs.RowsOfUid.{IsRowOf, IsRowAt, IsOccurrence}
use Rattle.itip_view.specs.UnmadeRows.{HasOwn}
use Rattle.itip_view.specs.Rows.{
  IsInstanceRow,
  IsOccurrenceRow,
  IsRangeRow,
  IsSingleRow,
  IsOpaqueRow,
  IsRow,
  IsDueOf,
  IsStartFrom,
  IsDueFrom,
  NoneStandsAtStart,
  moment_of,
  instance_day,
  day_of,
  instance_answers,
  occurrence_answers,
  range_answers,
  series_answers,
}
use Rattle.itip_view.specs.Standing.{Stands, NoneStands, Rules, NoneRules, IsLive, IsLiveSeries, IsLiveInstance}
use Rattle.itip_view.specs.Window.{IsInWindow}
use Rattle.itip_view.specs.declared.row.Row.{Row}
use Rattle.itip_view.specs.declared.row.RowId.{RowId}
use Rattle.itip_view.specs.declared.row.RowId.TheVariants as id
use Rattle.itip_view.specs.declared.window.Window.{Window}
use Rattle.itip_view.proofs.OneRow.{one_best, one_rules}

some_one : (m n : Moment) → Some m ≡ Some n → m ≡ n
some_one m n e = cc

not_none : (m : Moment) → Some m ≡ None → ⊥
not_none m e = cc

-- a row with the dates of its item
pub own_row : (part : UidPart) (item : Item) (name : RowId) (start due : Option Moment) (asked : Property → List Asked) (row : Row) →
    HasOwn item start due → IsRowOf part.items item part.uid name start due asked row →
    IsRowOf part.items item part.uid name item.todo.start item.todo.due asked row
own_row part item name start due asked row dates of =
    subst (λ (s : Option Moment). IsRowOf part.items item part.uid name s item.todo.due asked row) dates.start_is
    (subst (λ (d : Option Moment). IsRowOf part.items item part.uid name start d asked row) dates.due_is of)

module _ (items : List Item) (window : Window) (uid : List ℕ) where
  pub instance_is : (at : Moment) (item : Item) (row : Row) → Stands items uid at item → IsLive item →
      IsInWindow window.from window.to (instance_day at item.todo.start)
      → IsRowOf items item uid (id.At at) item.todo.start item.todo.due (instance_answers uid at item) row →
      IsRowAt items window uid (Some at) row
  instance_is at item row stands live within of = record {
    is_row = inl (record {
      item = item;
      at = at;
      live = subst (λ (u : List ℕ). IsLiveInstance items u at item) (sym of.uid_is) (record { stands = stands; live = live });
      in_window = within;
      id = of.id_is;
      fields = of.fields;
      dates = record { start = of.start_is; due = of.due_is };
      attendees = subst (λ (u : List ℕ). AreShown items (instance_answers u at item) item.todo.attendees row.attendees) (sym of.uid_is)
          of.attendees;
      progress = of.progress;
    });
    uid_is = of.uid_is;
    at_is = ap moment_of of.id_is;
  }

  -- the item of a row without a moment is the live series item
  series_of_whole : (item other : Item) (u : List ℕ) → u ≡ uid → IsLiveSeries items uid item → IsLiveSeries items u other → other ≡ item
  series_of_whole item other u same live also =
      one_best items (key.Series uid) other item (subst (λ (v : List ℕ). IsLiveSeries items v other) same also).best live.best

  pub occurrence_is : (at : Moment) (item : Item) (series : Series) (due : Option Moment) (row : Row) → IsLiveSeries items uid item →
      IsSeriesOf item.todo series → IsOccurrence items window uid at → NoneStands items uid at
      → NoneRules items uid at → IsDueOf item.todo.due series.start at due →
      IsRowOf items item uid (id.At at) (Some at) due (occurrence_answers uid at item) row → IsRowAt items window uid (Some at) row
  occurrence_is at item series due row live repeats is none none_rules due_is of =
      let again : IsSeriesOf item.todo is.series =
      subst (λ (i : Item). IsSeriesOf i.todo is.series) (series_of_whole item is.item uid refl live is.live) is.repeats in
      let start : series.start ≡ is.series.start = some_one series.start is.series.start (sym repeats.start ∙ again.start) in
      record {
        is_row = inr (inl (record {
          item = item;
          at = at;
          series = is.series;
          live = subst (λ (u : List ℕ). IsLiveSeries items u item) (sym of.uid_is) live;
          repeats = again;
          occurs = is.occurs;
          none_stands = subst (λ (u : List ℕ). NoneStands items u at) (sym of.uid_is) none;
          none_rules = subst (λ (u : List ℕ). NoneRules items u at) (sym of.uid_is) none_rules;
          id = of.id_is;
          fields = of.fields;
          start = of.start_is;
          due = subst (λ (d : Option Moment). IsDueOf item.todo.due is.series.start at d) (sym of.due_is)
              (subst (λ (from : Moment). IsDueOf item.todo.due from at due) start due_is);
          attendees = subst (λ (u : List ℕ). AreShown items (occurrence_answers u at item) item.todo.attendees row.attendees)
              (sym of.uid_is) of.attendees;
          progress = of.progress;
        }));
        uid_is = of.uid_is;
        at_is = ap moment_of of.id_is;
      }

  pub range_is : (at from : Moment) (item : Item) (start due : Option Moment) (row : Row) (is : IsOccurrence items window uid at) →
      NoneStands items uid at → Rules items uid at from item → IsLive item
      → IsStartFrom item.todo.start from at start → IsDueFrom item.todo.due from at due
      → IsRowOf items item uid (id.At at) start due (range_answers uid at item is.item) row → IsRowAt items window uid (Some at) row
  range_is at from item start due row is none rules live start_is due_is of = record {
    is_row = inr (inr (inl (record {
      whole = is.item;
      item = item;
      from = from;
      at = at;
      series = is.series;
      live_series = subst (λ (u : List ℕ). IsLiveSeries items u is.item) (sym of.uid_is) is.live;
      repeats = is.repeats;
      occurs = is.occurs;
      none_stands = subst (λ (u : List ℕ). NoneStands items u at) (sym of.uid_is) none;
      rules = subst (λ (u : List ℕ). Rules items u at from item) (sym of.uid_is) rules;
      live = live;
      id = of.id_is;
      fields = of.fields;
      start = subst (IsStartFrom item.todo.start from at) (sym of.start_is) start_is;
      due = subst (IsDueFrom item.todo.due from at) (sym of.due_is) due_is;
      attendees = subst (λ (u : List ℕ). AreShown items (range_answers u at item is.item) item.todo.attendees row.attendees)
          (sym of.uid_is) of.attendees;
      progress = of.progress;
    })));
    uid_is = of.uid_is;
    at_is = ap moment_of of.id_is;
  }

  pub single_is : (item : Item) (row : Row) → IsLiveSeries items uid item → IsShape item.todo shape.Single →
      NoneStandsAtStart items uid item.todo.start
      → IsInWindow window.from window.to (day_of item.todo.start item.todo.due) →
      IsRowOf items item uid id.Single item.todo.start item.todo.due (series_answers uid item) row → IsRowAt items window uid None row
  single_is item row live single none within of = record {
    is_row = inr (inr (inr (inl (record {
      item = item;
      live = subst (λ (u : List ℕ). IsLiveSeries items u item) (sym of.uid_is) live;
      single = single;
      none_stands = subst (λ (u : List ℕ). NoneStandsAtStart items u item.todo.start) (sym of.uid_is) none;
      in_window = within;
      id = of.id_is;
      fields = of.fields;
      dates = record { start = of.start_is; due = of.due_is };
      attendees = subst (λ (u : List ℕ). AreShown items (series_answers u item) item.todo.attendees row.attendees) (sym of.uid_is)
          of.attendees;
      progress = of.progress;
    }))));
    uid_is = of.uid_is;
    at_is = ap moment_of of.id_is;
  }

  pub opaque_is : (item : Item) (row : Row) → IsLiveSeries items uid item → IsShape item.todo shape.Opaque →
      IsRowOf items item uid id.Opaque item.todo.start item.todo.due (series_answers uid item) row → IsRowAt items window uid None row
  opaque_is item row live opaque of = record {
    is_row = inr (inr (inr (inr (record {
      item = item;
      live = subst (λ (u : List ℕ). IsLiveSeries items u item) (sym of.uid_is) live;
      opaque = opaque;
      id = of.id_is;
      fields = of.fields;
      dates = record { start = of.start_is; due = of.due_is };
      attendees = subst (λ (u : List ℕ). AreShown items (series_answers u item) item.todo.attendees row.attendees) (sym of.uid_is)
          of.attendees;
      progress = of.progress;
    }))));
    uid_is = of.uid_is;
    at_is = ap moment_of of.id_is;
  }

  -- a row without a moment is that of a to-do that doesn't recur, or isn't expanded
  pub whole_kind : (row : Row) → IsRowAt items window uid None row → IsSingleRow items window row ⊎ IsOpaqueRow items window row
  whole_kind row at = by at.is_row
    where
      by : IsRow items window row → IsSingleRow items window row ⊎ IsOpaqueRow items window row
      by (inl p) = absurd (not_none p.at (sym (ap moment_of p.id) ∙ at.at_is))
      by (inr (inl p)) = absurd (not_none p.at (sym (ap moment_of p.id) ∙ at.at_is))
      by (inr (inr (inl p))) = absurd (not_none p.at (sym (ap moment_of p.id) ∙ at.at_is))
      by (inr (inr (inr rest))) = rest

  -- a row at a moment is that of an instance, or of an occurrence that a range item rules or none
  pub at_kind : (at : Moment) (row : Row) → IsRowAt items window uid (Some at) row → IsInstanceRow items window row ⊎
      (IsOccurrenceRow items window row ⊎ IsRangeRow items window row)
  at_kind m row at = by at.is_row
    where
      by : IsRow items window row → IsInstanceRow items window row ⊎ (IsOccurrenceRow items window row ⊎ IsRangeRow items window row)
      by (inl p) = inl p
      by (inr (inl p)) = inr (inl p)
      by (inr (inr (inl p))) = inr (inr p)
      by (inr (inr (inr (inl p)))) = absurd (not_none m (sym at.at_is ∙ ap moment_of p.id))
      by (inr (inr (inr (inr p)))) = absurd (not_none m (sym at.at_is ∙ ap moment_of p.id))

  -- the moment and the item of a row at a moment
  instance_at : (at : Moment) (row : Row) → IsRowAt items window uid (Some at) row → (p : IsInstanceRow items window row) →
      IsLiveInstance items uid at p.item × (p.at ≡ at)
  instance_at m row at p =
      let same : p.at ≡ m = some_one p.at m (sym (ap moment_of p.id) ∙ at.at_is) in (
        subst (λ (n : Moment). IsLiveInstance items uid n p.item) same
            (subst (λ (u : List ℕ). IsLiveInstance items u p.at p.item) at.uid_is p.live),
        same,
      )

  -- what holds for the moment of a row at a moment
  there : (at : Moment) (row : Row) → IsRowAt items window uid (Some at) row → (m : Moment) → row.id ≡ id.At m →
      (P : List ℕ → Moment → Type 0) → P row.uid m → P uid at
  there at row is m name P h =
      let same : m ≡ at = some_one m at (sym (ap moment_of name) ∙ is.at_is) in
      subst (λ (n : Moment). P uid n) same (subst (λ (u : List ℕ). P u m) is.uid_is h)

  -- an instance that is not live, or not in the window, has no row
  pub no_instance : (at : Moment) (item : Item) → Stands items uid at item →
      (IsLive item → IsInWindow window.from window.to (instance_day at item.todo.start) → ⊥) → (row : Row) →
      IsRowAt items window uid (Some at) row → ⊥
  no_instance m item stands not row at = elim (at_kind m row at) [
    | inl p ↦
        let here = instance_at m row at p in
        let same : p.item ≡ item = one_best items (key.Instance uid m) p.item item here.0.stands.best stands.best in
        not (subst IsLive same here.0.live) (subst (λ (i : Item). IsInWindow window.from window.to (instance_day m i.todo.start)) same
        (subst (λ (n : Moment). IsInWindow window.from window.to (instance_day n p.item.todo.start)) here.1 p.in_window))
    | inr (inl p) ↦ there m row at p.at p.id (NoneStands items) p.none_stands item stands
    | inr (inr p) ↦ there m row at p.at p.id (NoneStands items) p.none_stands item stands
  ]

  -- an occurrence that a cancelled range item rules has no row
  pub no_range : (at from : Moment) (item : Item) → NoneStands items uid at → Rules items uid at from item → (IsLive item → ⊥) →
      (row : Row) → IsRowAt items window uid (Some at) row → ⊥
  no_range m from item none rules not row at = elim (at_kind m row at) [
    | inl p ↦ none p.item (instance_at m row at p).0.stands
    | inr (inl p) ↦ there m row at p.at p.id (NoneRules items) p.none_rules from item rules.stands rules.reaches
    | inr (inr p) ↦
        let here : Rules items uid m p.from p.item = there m row at p.at p.id (λ u n. Rules items u n p.from p.item) p.rules in
        not (subst IsLive (one_rules items uid m p.from from p.item item here rules) p.live)
  ]

  pub no_whole : ((item : Item) → ¬ IsLiveSeries items uid item) → (row : Row) → IsRowAt items window uid None row → ⊥
  no_whole none row at = elim (whole_kind row at) [
    | inl p ↦ none p.item (subst (λ (u : List ℕ). IsLiveSeries items u p.item) at.uid_is p.live)
    | inr p ↦ none p.item (subst (λ (u : List ℕ). IsLiveSeries items u p.item) at.uid_is p.live)
  ]

  module _ (item : Item) (live : IsLiveSeries items uid item) where
    pub no_whole_repeats : (series : Series) → IsSeriesOf item.todo series → (row : Row) → IsRowAt items window uid None row → ⊥
    no_whole_repeats series repeats row at = elim (whole_kind row at) [
      | inl p ↦ p.single (subst (λ (i : Item). Recurs i.todo) (sym (series_of_whole item p.item row.uid at.uid_is live p.live))
          repeats.recurs)
      | inr p ↦ p.opaque.1 series (subst (λ (i : Item). IsSeriesOf i.todo series)
          (sym (series_of_whole item p.item row.uid at.uid_is live p.live)) repeats)
    ]

    pub no_single : IsShape item.todo shape.Single →
        (NoneStandsAtStart items uid item.todo.start → IsInWindow window.from window.to (day_of item.todo.start item.todo.due) → ⊥) →
        (row : Row) → IsRowAt items window uid None row → ⊥
    no_single single not row at = elim (whole_kind row at) [
      | inl p ↦
          let same : p.item ≡ item = series_of_whole item p.item row.uid at.uid_is live p.live in
          not (subst (λ (i : Item). NoneStandsAtStart items uid i.todo.start) same
          (subst (λ (u : List ℕ). NoneStandsAtStart items u p.item.todo.start) at.uid_is p.none_stands))
          (subst (λ (i : Item). IsInWindow window.from window.to (day_of i.todo.start i.todo.due)) same p.in_window)
      | inr p ↦ single (subst (λ (i : Item). Recurs i.todo) (series_of_whole item p.item row.uid at.uid_is live p.live) p.opaque.0)
    ]

    -- only a to-do that repeats has occurrences
    pub single_has_none : (at : Moment) → IsShape item.todo shape.Single → IsOccurrence items window uid at → ⊥
    single_has_none at single is =
        single (subst (λ (i : Item). Recurs i.todo) (series_of_whole item is.item uid refl live is.live) is.repeats.recurs)

    pub opaque_has_none : (at : Moment) → IsShape item.todo shape.Opaque → IsOccurrence items window uid at → ⊥
    opaque_has_none at opaque is =
        opaque.1 is.series (subst (λ (i : Item). IsSeriesOf i.todo is.series) (series_of_whole item is.item uid refl live is.live)
        is.repeats)
