-- Each place has a row: what was heard determines which attendees it shows. And whether it is asked for.
use Rattle.std.proofs.Common.{◌≡◌, ◌∙◌, List, [], ◌∷◌, refl, ap, subst, sym, inl, inr, Option, Some, None, Bool, true, false, ◌&&◌, not}
use Rattle.std.specs.Option.{option_copied, option_map}
use Rattle.std.proofs.lemmas.Bool.{cases_lt}
use Rattle.itip_moment.specs.declared.moment.Moment.{Moment}
use Rattle.itip_todo.specs.Properties.{Property}
use Rattle.itip_items.specs.declared.item.Item.{Item}
use Rattle.itip_state.proofs.Best.{has_best}
use Rattle.itip_state.specs.OfUid.{UidPart}
use Rattle.itip_view.specs.Answers.{Asked, Decides, AreShown, shown_line, in_front}
use Rattle.itip_view.specs.RowsOfUid.{IsAnswerAt, asked_by}
use Rattle.itip_view.specs.UnmadeRows.{governing_item, id_of, questions_of, HasDates, IsShownAt, IsPlaceAt, IsMade, IsWanted}
use Rattle.itip_view.specs.Progress.{progress_of}
use Rattle.itip_view.specs.Wanted.{shows_named, is_due_before, is_over, takes, wants}
use Rattle.itip_view.specs.declared.row.Row.{Row}
use Rattle.itip_view.specs.declared.row.ShownAttendee.{ShownAttendee}
use Rattle.itip_view.specs.declared.unmade_row.UnmadeRow.{UnmadeRow}
use Rattle.itip_view.specs.declared.wanted.Wanted.{Wanted}
use Rattle.itip_view.specs.declared.window.Window.{Window}
use Rattle.itip_view.proofs.Beside.{none_counts, too_early}
use Rattle.itip_view.proofs.Deciding.{decides_later, shows_more}

module _ (heard : List Item) where
  -- whatever is asked, an answer decides or none counts
  some_decides : (all : List Asked) → (answer : Option Item) × Decides heard all answer
  some_decides [] = (None, tt)
  some_decides (asked ∷ rest) =
      let after : (answer : Option Item) × Decides heard rest answer = some_decides rest in
      elim (has_best heard asked.key) [
        | inl none ↦ (after.0, decides_later heard asked rest (none_counts heard asked none) after.0 after.1)
        | inr best ↦ elim (cases_lt best.0.own asked.since) [
          | inl early ↦ (after.0, decides_later heard asked rest (too_early heard asked best.0 best.1 early) after.0 after.1)
          | inr since ↦ (Some best.0, inl (record { best = best.1; since = since }))
        ]
      ]

  -- so lines show some attendees
  some_shown : (asked_of : Property → List Asked) (lines : List Property) → (shown : List ShownAttendee) ×
      AreShown heard asked_of lines shown
  some_shown asked_of [] = ([], refl)
  some_shown asked_of (line ∷ lines) =
      let first : (answer : Option Item) × Decides heard (asked_of line) answer = some_decides (asked_of line) in
      let rest : (shown : List ShownAttendee) × AreShown heard asked_of lines shown = some_shown asked_of lines in
      (in_front (shown_line line first.0) rest.0, shows_more heard asked_of line lines first.0 rest.0 first.1 rest.1)

-- a test of three, the last two first
last_first : (shows due over : Bool) → (shows && due && over) ≡ (shows && (due && over))
last_first true due over = refl
last_first false due over = refl

and_false : (b : Bool) → (b && false) ≡ false
and_false true = refl
and_false false = refl

and_true : (b : Bool) → (b && true) ≡ b
and_true true = refl
and_true false = refl

module _ (part : UidPart) (place : UnmadeRow) (start due : Option Moment)
    (dates : HasDates (governing_item place.governing) place.kind start due) where
  -- the row of the place, with these dates and attendees
  abbrev pub row_at_place : List ShownAttendee → Row
  row_at_place shown = record {
    uid = part.uid;
    id = id_of place.kind;
    seq = (governing_item place.governing).own;
    status = (governing_item place.governing).todo.status;
    percent = (governing_item place.governing).todo.percent;
    priority = (governing_item place.governing).todo.priority;
    start = start;
    due = due;
    summary = option_map (λ (p : Property). p.value) (governing_item place.governing).todo.summary;
    attendees = shown;
    progress = progress_of shown;
  }

  pub is_row_at_place : (shown : List ShownAttendee) →
      AreShown part.items (asked_by part.uid (questions_of (governing_item place.governing) place.kind))
      (governing_item place.governing).todo.attendees shown → IsShownAt part place (row_at_place shown)
  is_row_at_place shown are = record {
    start = start;
    due = due;
    dates = dates;
    row_is = record {
      uid_is = refl;
      id_is = refl;
      fields = record { seq = refl; status = refl; percent = refl; priority = refl; summary = refl };
      start_is = refl;
      due_is = refl;
      attendees = are;
      progress = refl;
    };
  }

  module _ (wanted : Wanted) where
    -- its row isn't asked for if DUE or STATUS is not what is wanted
    pub not_taken : takes wanted due (governing_item place.governing).todo.status ≡ false → IsWanted wanted part (Some place) false
    not_taken off =
        let shown = some_shown part.items (asked_by part.uid (questions_of (governing_item place.governing) place.kind))
        (governing_item place.governing).todo.attendees in
        let shows : Bool = shows_named wanted.is_open (option_copied wanted.attendee) shown.0 in (
          row_at_place shown.0,
          is_row_at_place shown.0 shown.1,
          last_first shows (is_due_before wanted.due_before due)
              (not (wanted.is_open && is_over (governing_item place.governing).todo.status)) ∙ ap (λ b. shows && b) off ∙ and_false shows,
        )

    -- else if it shows the attendee who is named
    pub taken : takes wanted due (governing_item place.governing).todo.status ≡ true → (yes : Bool) →
        ((shown : List ShownAttendee) →
        AreShown part.items (asked_by part.uid (questions_of (governing_item place.governing) place.kind))
        (governing_item place.governing).todo.attendees shown →
        shows_named wanted.is_open (option_copied wanted.attendee) shown ≡ yes) → IsWanted wanted part (Some place) yes
    taken on is told =
        let shown = some_shown part.items (asked_by part.uid (questions_of (governing_item place.governing) place.kind))
        (governing_item place.governing).todo.attendees in
        let shows : Bool = shows_named wanted.is_open (option_copied wanted.attendee) shown.0 in (
          row_at_place shown.0,
          is_row_at_place shown.0 shown.1,
          last_first shows (is_due_before wanted.due_before due)
              (not (wanted.is_open && is_over (governing_item place.governing).todo.status)) ∙ ap (λ b. shows && b) on ∙ and_true shows ∙
              told shown.0 shown.1,
        )

-- whether a row is there, and passes a test
abbrev pub passes_if : (Row → Bool) → Option Row → Bool
passes_if p None = false
passes_if p (Some row) = p row

module _ (part : UidPart) (window : Window) (at : Option Moment) where
  -- what is made of a place is the row there, or there is none
  pub made_at : (place : Option UnmadeRow) → IsPlaceAt part window at place → (row : Option Row) → IsMade part place row →
      IsAnswerAt part.items window part.uid at row
  made_at None none row made = subst (IsAnswerAt part.items window part.uid at) (sym made) none
  made_at (Some place) is row made = subst (IsAnswerAt part.items window part.uid at) (sym made.1) (is made.0 made.2)

  -- and whether it is asked for
  pub wanted_at : (wanted : Wanted) (place : Option UnmadeRow) → IsPlaceAt part window at place → (yes : Bool) →
      IsWanted wanted part place yes →
      (row : Option Row) × IsAnswerAt part.items window part.uid at row × (passes_if (wants wanted) row ≡ yes)
  wanted_at wanted None none out is = (None, none, sym is)
  wanted_at wanted (Some place) is out told = (Some told.0, is told.0 told.1, told.2)
