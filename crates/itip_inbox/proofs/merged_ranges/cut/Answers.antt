use Rattle.std.proofs.Common.{rules, subst, sym, List, length}
use Rattle.std.proofs.lemmas.Iterator.Adapters.{YieldsList-from_vec}
use Rattle.std.proofs.lemmas.Iterator.Consumers.{YieldsList-turn}
use Rattle.std.specs.Global.{Vec}
use Rattle.itip_items.specs.declared.item.Item.{Item}
use Rattle.itip_desk.specs.Octets.{AscendOctets}
use Rattle.itip_inbox.proofs.Ranges.{cut_more}
use Rattle.itip_inbox.proofs.merged_ranges.cut.Goals as goal

pub loop-list-preserved : goal.loop-list-preserved
loop-list-preserved c =
    let lists : List (Vec Item) = c.args.lists.items in
    let list : Vec Item = c.in-Some.list in
    let before : List (Vec Item) = c.loop-list.yielded in
    let turn = YieldsList-turn (YieldsList-from_vec {s = c.into_iter-list-iterator.result} lists (search rules) (search rules))
    before c.loop-list.list-iterator c.loop-list.yielded_by c.next.result c.next.new.self list c.in-Some.is c.next.ensures.steps in
    let up = subst (λ (v : Vec Item). AscendOctets v.items) (sym turn.1) (c.requires (length before) list turn.0) in
    rw (c.in_ok-push.ensures.items, c.in_ok-push-2.ensures.items) (cut_more c.args.pivot.now before c.loop-list.fronts.items
    c.loop-list.backs.items c.loop-list.invariant list c.cut_off.new.list c.in_ok-back.back up c.in_ok-back.ensures)
