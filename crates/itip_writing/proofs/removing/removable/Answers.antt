use Rattle.std.proofs.Common.{◌≡◌, ◌∙◌, List, map, sym, subst, true, false}
use Rattle.std.specs.Option.{option_copied}
use Rattle.std.specs.String.{string_bytes}
use Rattle.std.proofs.lemmas.Result.{err_from_is_err_and}
use Rattle.itip_view.specs.declared.row.ShownAttendee.{ShownAttendee}
use Rattle.itip_writing.specs.Removing.{ShowsEach}
use Rattle.itip_writing.proofs.CancelCauses.{none_removable}
use Rattle.itip_writing.proofs.removing.removable.Goals as goal

pub returns-in_err-row-clause-fault : goal.returns-in_err-row-clause-fault
returns-in_err-row-clause-fault c =
    let p = err_from_is_err_and c.from_residual.result c.from_residual.ensures.1 in
    rw (p.1, p.2) (none_removable c.args.items.now.items c.args.items.now.uid (option_copied c.args.id)
    (map string_bytes c.args.attendees.now) c.in_err-row.field-0.0 c.in_err-row.ensures.none)

pub returns-then-each-clause-found : goal.returns-then-each-clause-found
returns-then-each-clause-found c = record {
  shown = c.in_ok-row.row.attendees;
  shows = c.in_ok-row.ensures.row;
  each = subst (λ (shown : List ShownAttendee). ShowsEach shown (map string_bytes c.args.attendees.now)) c.as_slice.ensures
      (c.in_ok-each.ensures.0 c.if-each.true);
}

pub returns-clause-fault : goal.returns-clause-fault
returns-clause-fault c = record {
  item = c.in_ok-row.row.item.now;
  shown = c.in_ok-row.row.attendees;
  shows = c.in_ok-row.ensures.row;
  not_each = λ each.
      let x : true ≡ false = sym (c.in_ok-each.ensures.1
      (subst (λ (shown : List ShownAttendee). ShowsEach shown (map string_bytes c.args.attendees.now)) (sym c.as_slice.ensures) each))
      ∙ c.if-each.false in cc;
}
