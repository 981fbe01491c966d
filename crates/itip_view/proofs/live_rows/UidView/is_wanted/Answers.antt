use Rattle.std.proofs.Common.{◌≡◌, ◌∙◌, List, Bool, true, false, Option, ap, refl, sym, subst, rules}
use Rattle.std.specs.Option.{option_copied}
use Rattle.itip_items.specs.declared.item.Item.{Item}
use Rattle.itip_state.proofs.Members.{if_ok_then}
use Rattle.itip_state.specs.OfUid.{UidPart}
use Rattle.itip_view.specs.Answers.{AreShown}
use Rattle.itip_view.specs.RowsOfUid.{asked_by}
use Rattle.itip_view.specs.UnmadeRows.{IsWanted, governing_item, questions_of}
use Rattle.itip_view.specs.Wanted.{shows_named, takes}
use Rattle.itip_view.specs.declared.row.ShownAttendee.{ShownAttendee}
use Rattle.itip_view.specs.declared.unmade_row.UnmadeRow.{UnmadeRow}
use Rattle.itip_view.specs.declared.wanted.Wanted.{Wanted}
use Rattle.itip_view.proofs.Made.{not_taken, taken}
use Rattle.itip_view.proofs.live_rows.UidView.is_wanted.Goals as goal

pub returns-in_default : goal.returns-in_default
returns-in_default c =
    subst (λ (place : Option UnmadeRow). IsWanted c.args.wanted.now c.args.self.now.items.now place false) (sym c.in_default.is) refl

pub returns-then-not-takes : goal.returns-then-not-takes
returns-then-not-takes c =
    let part : UidPart = c.args.self.now.items.now in
    let place : UnmadeRow = c.in-Some.place in
    let wanted : Wanted = c.args.wanted.now in
    let off : c.takes.result ≡ false = search rules in
    subst (λ (place : Option UnmadeRow). IsWanted wanted part place false) (sym c.in-Some.is)
    (not_taken part place c.in_ok-dates.dates.start c.in_ok-dates.dates.due c.in_ok-dates.ensures wanted
    (ap (λ (item : Item). takes wanted c.in_ok-dates.dates.due item.todo.status) (sym c.item.ensures) ∙ sym c.takes.ensures ∙ off))

pub returns : goal.returns
returns c =
    let part : UidPart = c.args.self.now.items.now in
    let place : UnmadeRow = c.in-Some.place in
    let wanted : Wanted = c.args.wanted.now in
    let on : c.takes.result ≡ true = search rules in
    let item : Item = governing_item place.governing in
    if_ok_then (λ (yes : Bool). (shown : List ShownAttendee) →
    AreShown part.items (asked_by part.uid (questions_of item place.kind)) item.todo.attendees shown →
    shows_named wanted.is_open (option_copied wanted.attendee) shown ≡ yes) (IsWanted wanted part c.args.place.now) c.shows_named.result
    (λ yes told. subst (λ (place : Option UnmadeRow). IsWanted wanted part place yes) (sym c.in-Some.is)
    (taken part place c.in_ok-dates.dates.start c.in_ok-dates.dates.due c.in_ok-dates.ensures wanted
    (ap (λ (item : Item). takes wanted c.in_ok-dates.dates.due item.todo.status) (sym c.item.ensures) ∙ sym c.takes.ensures ∙ on) yes told))
    c.shows_named.ensures
