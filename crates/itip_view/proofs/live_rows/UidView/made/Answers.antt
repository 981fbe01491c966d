use Rattle.std.proofs.Common.{refl, sym, subst, Option, Some, None}
use Rattle.itip_view.specs.UnmadeRows.{IsMade}
use Rattle.itip_view.specs.declared.unmade_row.UnmadeRow.{UnmadeRow}
use Rattle.itip_view.proofs.live_rows.UidView.made.Goals as goal

pub returns-in_default : goal.returns-in_default
returns-in_default c =
    subst (λ (place : Option UnmadeRow). IsMade c.args.self.now.items.now place None) (sym c.in_default.is) refl

pub returns : goal.returns
returns c =
    subst (λ (place : Option UnmadeRow). IsMade c.args.self.now.items.now place (Some c.in_ok-row.row)) (sym c.in-Some.is)
    (c.in_ok-row.row, refl, c.in_ok-row.ensures)
