-- Which items a row needs: one whose rows can fall in the window, and one that names each attendee that it shows.
use Rattle.std.proofs.Common.{◌≡◌, ◌∙◌, ℕ, ℤ, List, [], ◌∷◌, refl, ap, subst, ◌⊎◌, inl, inr, Bool, true, false, cond, Some, None}
use Rattle.std.proofs.Common.{Option, ◌↔◌, IsTrue}
use Rattle.std.specs.List.{Contains}
use Rattle.std.specs.Option.{option_map}
use Rattle.itip_moment.specs.Moment.{moment_day}
use Rattle.itip_moment.specs.declared.moment.Moment.{Moment}
use Rattle.itip_todo.specs.Table.{attendee_key}
use Rattle.itip_todo.specs.Properties.{Property}
use Rattle.itip_todo.specs.declared.todo.Todo.{Todo}
use Rattle.itip_recur.specs.Given.{are_given}
use Rattle.itip_recur.specs.ToDoShape.{Recurs}
use Rattle.itip_recur.proofs.RuleTexts.{given_is}
use Rattle.itip_items.specs.KeyParts.{uid_of}
use Rattle.itip_items.specs.declared.item.Item.{Item}
use Rattle.itip_items.specs.declared.key.Key.{Key}
use Rattle.itip_items.specs.declared.key.Key.TheVariants as key
use Rattle.itip_items.specs.declared.kind.Kind.{Kind}
use Rattle.itip_items.specs.declared.kind.Kind.TheVariants as kind
use Rattle.itip_state.specs.Kept.{IsBest}
use Rattle.itip_state.proofs.Members.{none_in, cons_cases, cons_first, cons_later}
use Rattle.itip_view.specs.Answers.{Asked, AreShown, in_front, shown_line, unless_removed}
use Rattle.itip_view.specs.RowDays.{is_of_rows, days_from, whole_days, days_at, row_days, Meets, HasRowsIn, NamesIn}
use Rattle.itip_view.specs.Rows.{IsInstanceRow, IsOccurrenceRow, IsRangeRow, IsSingleRow, IsOpaqueRow, day_of, instance_day}
use Rattle.itip_view.specs.Rows.{instance_answers, occurrence_answers, range_answers, series_answers}
use Rattle.itip_view.specs.Showing.{Shows}
use Rattle.itip_view.specs.Standing.{is_live, IsLive, IsLiveSeries}
use Rattle.itip_view.specs.Window.{IsInWindow}
use Rattle.itip_view.specs.declared.row.Row.{Row}
use Rattle.itip_view.specs.declared.row.ShownAttendee.{ShownAttendee}
use Rattle.itip_view.specs.declared.days.RowDays.{RowDays}
use Rattle.itip_view.specs.declared.days.RowDays.TheVariants.{One}
use Rattle.itip_view.specs.declared.window.Window.{Window}

-- two tests of one fact
pub same_test : (a b : Bool) (P : Type 0) → (IsTrue a ↔ P) → (IsTrue b ↔ P) → a ≡ b
same_test true true P p q = refl
same_test false false P p q = refl
same_test true false P p q = absurd (let h : IsTrue false = q.1 (p.0 refl) in cc)
same_test false true P p q = absurd (let h : IsTrue false = p.1 (q.0 refl) in cc)

days_of_live : (item : Item) (k : Key) → IsLive item → item.key ≡ k → row_days item ≡ days_at k item
days_of_live item k live about = ap (λ b. cond b (days_at item.key item) None) live ∙ ap (λ (k : Key). days_at k item) about

instance_meets : (window : Window) (at : Moment) (start : Option Moment) → IsInWindow window.from window.to (instance_day at start) →
    (days : RowDays) × (option_map One (instance_day at start) ≡ Some days) × Meets window days
instance_meets window at None inside = (One (moment_day at), refl, inside)
instance_meets window at (Some start) inside = (One (moment_day start), refl, inside)

whole_meets : (window : Window) (recurs : Bool) (day : Option ℤ) → (recurs ≡ false → IsInWindow window.from window.to day) →
    Meets window (days_from recurs day)
whole_meets window true day inside = tt
whole_meets window false None inside = tt
whole_meets window false (Some day) inside = inside refl

recurs_is : (todo : Todo) → Recurs todo → are_given todo.rule todo.rdates todo.exdates todo.others ≡ false → ⊥
recurs_is todo recurs isnt = let is : are_given todo.rule todo.rdates todo.exdates todo.others ≡ true =
    (given_is todo.rule todo.rdates todo.exdates todo.others).1 recurs in cc

module _ (heard : List Item) (window : Window) where
  whole_rows : (uid : List ℕ) (item : Item) → IsLiveSeries heard uid item →
      (are_given item.todo.rule item.todo.rdates item.todo.exdates item.todo.others ≡ false →
      IsInWindow window.from window.to (day_of item.todo.start item.todo.due)) → HasRowsIn heard window uid
  whole_rows uid item live inside = record {
    item = item;
    is_heard = live.best.is_heard;
    about = ap uid_of live.best.about;
    days = whole_days item.todo;
    days_are = days_of_live item (key.Series uid) live.live live.best.about;
    meets = whole_meets window (are_given item.todo.rule item.todo.rdates item.todo.exdates item.todo.others)
        (day_of item.todo.start item.todo.due) inside;
  }

  pub row_needs_days : (row : Row) → IsInstanceRow heard window row ⊎
      (IsOccurrenceRow heard window row ⊎ (IsRangeRow heard window row ⊎ (IsSingleRow heard window row ⊎ IsOpaqueRow heard window row))) →
      HasRowsIn heard window row.uid
  row_needs_days row (inl p) =
      let days = instance_meets window p.at p.item.todo.start p.in_window in
      record {
        item = p.item;
        is_heard = p.live.stands.best.is_heard;
        about = ap uid_of p.live.stands.best.about;
        days = days.0;
        days_are = days_of_live p.item (key.Instance row.uid p.at) p.live.live p.live.stands.best.about ∙ days.1;
        meets = days.2;
      }
  row_needs_days row (inr (inl p)) = whole_rows row.uid p.item p.live (λ no. absurd (recurs_is p.item.todo p.repeats.recurs no))
  row_needs_days row (inr (inr (inl p))) =
      whole_rows row.uid p.whole p.live_series (λ no. absurd (recurs_is p.whole.todo p.repeats.recurs no))
  row_needs_days row (inr (inr (inr (inl p)))) = whole_rows row.uid p.item p.live (λ no. p.in_window)
  row_needs_days row (inr (inr (inr (inr p)))) = whole_rows row.uid p.item p.live (λ no. absurd (recurs_is p.item.todo p.opaque.0 no))

abbrev address_of : Option ShownAttendee → List ℕ
address_of None = []
address_of (Some attendee) = attendee.address

address_kept : (k : Kind) (b a : ShownAttendee) → unless_removed k b ≡ Some a → b.address ≡ a.address
address_kept kind.Remove b a e = cc
address_kept kind.Reply b a e = ap address_of e
address_kept kind.Request b a e = ap address_of e
address_kept kind.Add b a e = ap address_of e
address_kept kind.Cancel b a e = ap address_of e
address_kept kind.Refresh b a e = ap address_of e

shown_address : (line : Property) (answer : Option Item) (a : ShownAttendee) → shown_line line answer ≡ Some a → line.value ≡ a.address
shown_address line None a e = ap address_of e
shown_address line (Some answer) a e = address_kept answer.kind _ a e

in_front_cases : (first : Option ShownAttendee) (others : List ShownAttendee) (a : ShownAttendee) → Contains (in_front first others) a →
    (first ≡ Some a) ⊎ Contains others a
in_front_cases None others a h = inr h
in_front_cases (Some b) others a h = elim (cons_cases b others a h) [ inl same ↦ inl (ap Some same) | inr rest ↦ inr rest ]

shown_named : (heard : List Item) (asked : Property → List Asked) (lines : List Property) (shown : List ShownAttendee) →
    AreShown heard asked lines shown →
    (a : ShownAttendee) → Contains shown a → (line : Property) × Contains lines line × (line.value ≡ a.address)
shown_named heard asked [] shown is a h = absurd (none_in a (subst (λ (s : List ShownAttendee). Contains s a) is h))
shown_named heard asked (line ∷ lines) shown (answer, others, decides, rest, is) a h =
    elim (in_front_cases (shown_line line answer) others a (subst (λ (s : List ShownAttendee). Contains s a) is h)) [
      | inl first ↦ (line, cons_first line lines, shown_address line answer a first)
      | inr later ↦ let found = shown_named heard asked lines others rest a later in
          (found.0, cons_later line lines found.0 found.1, found.2)
    ]

module _ (heard : List Item) (address : List ℕ) where
  named_by : (uid : List ℕ) (k : Key) (item : Item) (asked : Property → List Asked) (row : Row) → IsBest heard k item → uid_of k ≡ uid →
      is_of_rows k ≡ true → IsLive item →
      AreShown heard asked item.todo.attendees row.attendees → Shows address row → NamesIn heard (attendee_key address) uid
  named_by uid k item asked row best about of_rows live shown shows =
      let line = shown_named heard asked item.todo.attendees row.attendees shown shows.attendee shows.there in
      record {
        item = item;
        is_heard = best.is_heard;
        about = ap uid_of best.about ∙ about;
        names = record {
          rows = ap (λ (k : Key). cond (is_of_rows k) (is_live item.kind) false) best.about ∙
              ap (λ b. cond b (is_live item.kind) false) of_rows ∙ live;
          line = line.0;
          there = line.1;
          named = ap attendee_key line.2 ∙ shows.same;
        };
      }

  pub row_needs_name : (window : Window) (row : Row) → IsInstanceRow heard window row ⊎
      (IsOccurrenceRow heard window row ⊎ (IsRangeRow heard window row ⊎ (IsSingleRow heard window row ⊎ IsOpaqueRow heard window row))) →
      Shows address row → NamesIn heard (attendee_key address) row.uid
  row_needs_name window row (inl p) s =
      named_by row.uid (key.Instance row.uid p.at) p.item (instance_answers row.uid p.at p.item) row p.live.stands.best refl refl
      p.live.live p.attendees s
  row_needs_name window row (inr (inl p)) s =
      named_by row.uid (key.Series row.uid) p.item (occurrence_answers row.uid p.at p.item) row p.live.best refl refl p.live.live
      p.attendees s
  row_needs_name window row (inr (inr (inl p))) s =
      named_by row.uid (key.Range row.uid p.from) p.item (range_answers row.uid p.at p.item p.whole) row p.rules.stands.best refl refl
      p.live p.attendees s
  row_needs_name window row (inr (inr (inr (inl p)))) s =
      named_by row.uid (key.Series row.uid) p.item (series_answers row.uid p.item) row p.live.best refl refl p.live.live p.attendees s
  row_needs_name window row (inr (inr (inr (inr p)))) s =
      named_by row.uid (key.Series row.uid) p.item (series_answers row.uid p.item) row p.live.best refl refl p.live.live p.attendees s
