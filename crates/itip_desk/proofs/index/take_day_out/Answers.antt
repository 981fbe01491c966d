use Rattle.std.proofs.Common.{◌≡◌, ◌&&◌, ◌∙◌, not, Some, ap, sym, inl}
use Rattle.itip_view.specs.RowDays.{row_days}
use Rattle.itip_desk.specs.Entries.{same_entry}
use Rattle.itip_desk.specs.Index.{has}
use Rattle.itip_desk.specs.declared.entry.DayEntry.{DayEntry}
use Rattle.itip_desk.proofs.Noting.{day_in}
use Rattle.itip_desk.proofs.index.take_day_out.Goals as goal

pub returns-clause-out : goal.returns-clause-out
returns-clause-out c = λ e.
    let days : row_days c.args.item.now ≡ Some c.in-Some.days = sym c.row_days.ensures ∙ c.in-Some.is in
    c.drop_day.ensures e ∙
    ap (λ (k : DayEntry). has c.args.index.now e && not (same_entry e (inl k)))
    (λ i. record { mark = c.of.ensures i; owner = c.requires i }) ∙
    ap (λ b. has c.args.index.now e && not b) (sym (day_in c.args.item.now e c.in-Some.days days))
