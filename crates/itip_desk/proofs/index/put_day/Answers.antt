use Rattle.std.proofs.Common.{◌≡◌, ◌||◌, ◌∙◌, Some, ap, sym, inl}
use Rattle.itip_view.specs.RowDays.{row_days}
use Rattle.itip_state.proofs.Members.{on_ok_then}
use Rattle.itip_desk.specs.Entries.{same_entry, day_entry}
use Rattle.itip_desk.specs.Index.{has}
use Rattle.itip_desk.specs.declared.entry.Mark.{Mark}
use Rattle.itip_desk.proofs.Noting.{day_in}
use Rattle.itip_desk.proofs.index.put_day.Goals as goal

pub returns-in-Some-clause-ok : goal.returns-in-Some-clause-ok
returns-in-Some-clause-ok c =
    let days : row_days c.args.item.now ≡ Some c.in-Some.days = sym (c.row_days.ensures ∙ ap row_days c.item.ensures) ∙ c.in-Some.is in
    on_ok_then c.put_mark.result
    (λ is e. is e ∙ ap (λ b. has c.args.index.now e || b)
    (ap (λ (m : Mark). same_entry e (inl (day_entry c.args.item.now m))) c.of.ensures ∙ sym (day_in c.args.item.now e c.in-Some.days days)))
    c.put_mark.ensures.ok
