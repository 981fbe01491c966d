use Rattle.std.proofs.Common.{List}
use Rattle.std.proofs.lemmas.Result.{IfOk-at_ok}
use Rattle.std.specs.Global.{Vec}
use Rattle.itip_items.specs.declared.item.Item.{Item}
use Rattle.itip_state.specs.Kept.{IsItemsOf}
use Rattle.itip_inbox.specs.Ranges.{items_in}
use Rattle.itip_inbox.proofs.Ranges.{side_by_side}
use Rattle.itip_inbox.proofs.merged_ranges.+merges.Goals as goal

pub returns : goal.returns
returns g t c =
    let fronts : List (Vec Item) = c.in_ok-fronts.field-0.fronts.items in
    let backs : List (Vec Item) = c.in_ok-fronts.field-0.backs.items in
    let halves = c.in_ok-fronts.ensures in
    rw c.in_ok-append.ensures.items (side_by_side halves.0 c.args.lists.items fronts backs halves.1 c.in_ok-items.items.items
    c.in_ok-others.others.items (IfOk-at_ok (λ items. IsItemsOf items.items (items_in fronts)) c.in_ok-items.was c.join-first.ensures.first)
    (IfOk-at_ok (λ items. IsItemsOf items.items (items_in backs)) c.in_ok-others.was c.join-first.ensures.second))
