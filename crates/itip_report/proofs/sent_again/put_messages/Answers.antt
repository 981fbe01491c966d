use Rattle.std.proofs.Common.{◌++◌, ap, sym, ◌∙◌, take, append_assoc}
use Rattle.std.specs.List.{flat_map}
use Rattle.itip_view.proofs.FlatMap.{flat_map_more}
use Rattle.itip_report.proofs.sent_again.put_messages.Goals as goal

pub loop-item-preserved : goal.loop-item-preserved
loop-item-preserved c =
    let more = flat_map_more (λ item. item.now.bytes) c.args.items.now c.loop-item.item-index c.item-item.result c.loop-item-test.true
    c.item-item.is in
    c.in_ok-append_to.ensures.ok ∙ ap (λ front. front ++ c.item-item.result.now.bytes) c.loop-item.invariant
    ∙ append_assoc c.args.out.now.items (flat_map (λ item. item.now.bytes) (take c.loop-item.item-index c.args.items.now))
    c.item-item.result.now.bytes
    ∙ ap (λ rest. c.args.out.now.items ++ rest) (sym more)
