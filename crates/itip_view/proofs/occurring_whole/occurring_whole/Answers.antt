use Rattle.std.proofs.Common.{ℕ, List, Option, Some, subst}
use Rattle.itip_items.specs.declared.item.Item.{Item}
use Rattle.itip_view.specs.RowsOfUid.{IsWhole}
use Rattle.itip_view.specs.declared.whole.Whole.{Whole}
use Rattle.itip_view.proofs.occurring_whole.occurring_whole.Goals as goal

pub returns-in_ok-ready-in-Some : goal.returns-in_ok-ready-in-Some
returns-in_ok-ready-in-Some c =
    let items : List Item = c.args.items.now.items in
    let uid : List ℕ = c.args.items.now.uid in
    c.in_ok-ready-in-Some.ensures items uid (subst (λ (w : Option Whole). IsWhole items uid w) c.in-Some.is c.in_ok-whole.ensures)
