use Rattle.std.proofs.Common.{List, sym, subst}
use Rattle.std.specs.List.{Contains}
use Rattle.std.specs.Option.{option_copied}
use Rattle.std.proofs.lemmas.Result.{err_from_is_err_and}
use Rattle.itip_items.specs.declared.item.Item.{Item}
use Rattle.itip_view.specs.InQuestion.{ShowsInQuestion}
use Rattle.itip_view.specs.declared.row.ShownAttendee.{ShownAttendee}
use Rattle.itip_writing.proofs.Faults.{nothing_asked}
use Rattle.itip_writing.proofs.asked.asked_attendee.Goals as goal

pub returns-in_err-row-clause-fault : goal.returns-in_err-row-clause-fault
returns-in_err-row-clause-fault c =
    let p = err_from_is_err_and c.from_residual.result c.from_residual.ensures.1 in
    rw (p.1, p.2) (nothing_asked c.args.items.now.items c.args.items.now.uid (option_copied c.args.id) c.args.address.now
    c.in_err-row.field-0.0 c.in_err-row.ensures.none)

pub returns-in-Some-clause-found : goal.returns-in-Some-clause-found
returns-in-Some-clause-found c = record {
  shown = c.in_ok-row.row.attendees;
  shows = subst
      (λ (i : Item). ShowsInQuestion c.args.items.now.items c.args.items.now.uid (option_copied c.args.id) i c.in_ok-row.row.attendees)
      (sym c.in_ok-asked_of-in-Some.ensures.item) c.in_ok-row.ensures.row;
  attendee = c.in-Some.attendee.now;
  there = subst (λ (s : List ShownAttendee). Contains s c.in-Some.attendee.now) c.as_slice.ensures c.in-Some.ensures.0;
  same = c.in-Some.ensures.1;
  named_is = c.in_ok-asked_of-in-Some.ensures.address;
}

pub returns-clause-fault : goal.returns-clause-fault
returns-clause-fault c = record {
  item = c.in_ok-row.row.item.now;
  shown = c.in_ok-row.row.attendees;
  shows = c.in_ok-row.ensures.row;
  none = λ attendee there of.
      c.in-None.ensures attendee (subst (λ (s : List ShownAttendee). Contains s attendee) (sym c.as_slice.ensures) there) of;
}
