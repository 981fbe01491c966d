-- The test of a row says whether it is asked for.
use Rattle.std.proofs.Common.{◌≡◌, ◌≢◌, ◌↔◌, ◌∙◌, ℕ, ℤ, ◌<ℤ◌, List, refl, sym, ap, subst, Bool, true, false, ◌&&◌, not, Option, Some, None}
use Rattle.std.specs.Prelude.{int_lt}
use Rattle.std.specs.Cmp.Lexicographic.{bytes_decides}
use Rattle.std.specs.Option.{option_copied}
use Rattle.std.proofs.lemmas.Bool.{false≢true}
use lib.Signed.{lt_z_yes}
use Rattle.itip_moment.specs.Moment.{moment_day}
use Rattle.itip_moment.specs.declared.moment.Moment.{Moment}
use Rattle.itip_todo.specs.Table.{attendee_key}
use Rattle.itip_todo.specs.declared.attendee.PartStat.{PartStat}
use Rattle.itip_todo.specs.declared.attendee.PartStat.TheVariants as part
use Rattle.itip_todo.specs.declared.status.Status.{Status}
use Rattle.itip_todo.specs.declared.status.Status.TheVariants as status
use Rattle.itip_state.proofs.Tests.{both, and_true}
use Rattle.itip_view.specs.Showing.{ShowsNamed}
use Rattle.itip_view.specs.Wanted.{is_named, is_done, is_asked, shows_named, is_over, is_due_before, wants}
use Rattle.itip_view.specs.Wanting.{IsOpen, HasLeft, IsLeftTo, IsLeftToNamed, IsDueBeforeNamed, Wants}
use Rattle.itip_view.specs.declared.row.Row.{Row}
use Rattle.itip_view.specs.declared.row.ShownAttendee.{ShownAttendee}
use Rattle.itip_view.specs.declared.wanted.Wanted.{Wanted}
use Rattle.itip_view.proofs.InDays.{truth, int_lt-true}
use Rattle.itip_view.proofs.Showing.{found, finds}

-- if only some are asked for, the test fails
not_both : (only b : Bool) → not (only && b) ≡ true → only ≡ true → b ≡ false
not_both true true e o = absurd (false≢true e)
not_both true false e o = refl
not_both false b e o = absurd (false≢true o)

not_both_from : (only b : Bool) → (only ≡ true → b ≡ false) → not (only && b) ≡ true
not_both_from true b h = ap not (h refl)
not_both_from false b h = refl

left_is : (p : PartStat) → is_done p ≡ false → HasLeft p
left_is p left = record {
  not_completed = λ is. false≢true (sym left ∙ ap is_done is);
  not_declined = λ is. false≢true (sym left ∙ ap is_done is);
  not_delegated = λ is. false≢true (sym left ∙ ap is_done is);
}

left_from : (p : PartStat) → HasLeft p → is_done p ≡ false
left_from part.NeedsAction h = refl
left_from part.Accepted h = refl
left_from part.Declined h = absurd (h.not_declined refl)
left_from part.Tentative h = refl
left_from part.Delegated h = absurd (h.not_delegated refl)
left_from part.Completed h = absurd (h.not_completed refl)
left_from part.InProcess h = refl

over_from : (s : Option Status) → s ≢ Some status.Completed → s ≢ Some status.Cancelled → is_over s ≡ false
over_from None p q = refl
over_from (Some status.NeedsAction) p q = refl
over_from (Some status.Completed) p q = absurd (p refl)
over_from (Some status.InProcess) p q = refl
over_from (Some status.Cancelled) p q = absurd (q refl)

open_is : (row : Row) → is_over row.status ≡ false → IsOpen row
open_is row closed = record {
  not_completed = λ is. false≢true (sym closed ∙ ap is_over is);
  not_cancelled = λ is. false≢true (sym closed ∙ ap is_over is);
}

module _ (only : Bool) (address : List ℕ) (a : ShownAttendee) where
  asked_is : is_asked only address a ≡ true → (attendee_key a.address ≡ attendee_key address) × (only ≡ true → HasLeft a.partstat)
  asked_is e =
      let parts = both (is_named address a) (not (only && is_done a.partstat)) e in (
        (bytes_decides (attendee_key a.address) (attendee_key address)).0 parts.0,
        λ o. left_is a.partstat (not_both only (is_done a.partstat) parts.1 o),
      )

  asked_from : attendee_key a.address ≡ attendee_key address → (only ≡ true → HasLeft a.partstat) → is_asked only address a ≡ true
  asked_from same left =
      and_true (is_named address a) (not (only && is_done a.partstat))
      ((bytes_decides (attendee_key a.address) (attendee_key address)).1 same)
      (not_both_from only (is_done a.partstat) (λ o. left_from a.partstat (left o)))

named_is : (named : Option (List ℕ)) (only : Bool) (row : Row) → shows_named only named row.attendees ≡ true →
    ShowsNamed named row × (only ≡ true → IsLeftToNamed named row)
named_is None only row e = (tt, λ o. tt)
named_is (Some address) only row e =
    let one = found (is_asked only address) row.attendees e in
    let is = asked_is only address one.0 one.2 in (
      record { attendee = one.0; there = one.1; same = is.0 },
      λ o. record { attendee = one.0; there = one.1; same = is.0; left = is.1 o },
    )

named_from : (named : Option (List ℕ)) (only : Bool) (row : Row) → ShowsNamed named row → (only ≡ true → IsLeftToNamed named row) →
    shows_named only named row.attendees ≡ true
named_from None only row shows left = refl
named_from (Some address) true row shows left =
    let one : IsLeftTo address row = left refl in
    finds (is_asked true address) row.attendees one.attendee one.there (asked_from true address one.attendee one.same (λ o. one.left))
named_from (Some address) false row shows left =
    finds (is_asked false address) row.attendees shows.attendee shows.there
    (asked_from false address shows.attendee shows.same (λ o. absurd (false≢true o)))

due_on : (day : ℤ) (due : Option Moment) → is_due_before (Some day) due ≡ true → (at : Moment) × (due ≡ Some at) × (moment_day at <ℤ day)
due_on day None e = absurd (false≢true e)
due_on day (Some at) e = (at, refl, lt_z_yes (truth (int_lt (moment_day at) day) e))

is_due : (day : Option ℤ) (row : Row) → is_due_before day row.due ≡ true → IsDueBeforeNamed day row
is_due None row e = tt
is_due (Some day) row e = let at = due_on day row.due e in record { due = at.0; due_is = at.1; before = at.2 }

due_from : (day : Option ℤ) (row : Row) → IsDueBeforeNamed day row → is_due_before day row.due ≡ true
due_from None row h = refl
due_from (Some day) row h = ap (is_due_before (Some day)) h.due_is ∙ int_lt-true (moment_day h.due) day h.before

module _ (wanted : Wanted) (row : Row) where
  is_wanted : wants wanted row ≡ true → Wants wanted row
  is_wanted e =
      let named : Option (List ℕ) = option_copied wanted.attendee in
      let outer = both (shows_named wanted.is_open named row.attendees && is_due_before wanted.due_before row.due)
      (not (wanted.is_open && is_over row.status)) e in
      let inner = both (shows_named wanted.is_open named row.attendees) (is_due_before wanted.due_before row.due) outer.0 in
      let shows = named_is named wanted.is_open row inner.0 in
      record {
        shows = shows.0;
        open_only = λ o. record { is_open = open_is row (not_both wanted.is_open (is_over row.status) outer.1 o); left = shows.1 o };
        due = is_due wanted.due_before row inner.1;
      }

  wanted_from : Wants wanted row → wants wanted row ≡ true
  wanted_from w =
      let named : Option (List ℕ) = option_copied wanted.attendee in
      and_true (shows_named wanted.is_open named row.attendees && is_due_before wanted.due_before row.due)
      (not (wanted.is_open && is_over row.status))
      (and_true (shows_named wanted.is_open named row.attendees) (is_due_before wanted.due_before row.due)
      (named_from named wanted.is_open row w.shows (λ o. (w.open_only o).left)) (due_from wanted.due_before row w.due))
      (not_both_from wanted.is_open (is_over row.status)
      (λ o. over_from row.status (w.open_only o).is_open.not_completed (w.open_only o).is_open.not_cancelled))

  pub wants_decides : (wants wanted row ≡ true) ↔ Wants wanted row
  wants_decides = (is_wanted, wanted_from)

-- where nothing is asked but that the attendee is shown
pub shows_alone : (wanted : Wanted) → wanted.is_open ≡ false → wanted.due_before ≡ None → (row : Row) →
    Wants wanted row ↔ ShowsNamed (option_copied wanted.attendee) row
shows_alone wanted any_status any_day row = (
  λ w. w.shows,
  λ shows. record {
    shows = shows;
    open_only = λ o. absurd (false≢true (sym any_status ∙ o));
    due = subst (λ (day : Option ℤ). IsDueBeforeNamed day row) (sym any_day) tt;
  },
)
