use Rattle.std.proofs.Common.{List}
use Rattle.itip_items.specs.declared.item.Item.{Item}
use Rattle.itip_report.proofs.Telling.{not_orphan, orphan_where}
use Rattle.itip_report.proofs.sought.is_orphan.Goals as goal

pub returns-in-Some-series : goal.returns-in-Some-series
returns-in-Some-series c =
    let part = c.requires.part_is in (
      λ e. cc,
      λ orphan. absurd (not_orphan c.args.items.now.items part.ascend part.state c.args.item.now c.requires.there c.args.items.now.uid
          (part.about c.args.item.now c.requires.there) c.in-Some.id.now c.in-Some.ensures.1
          c.in-Some-series.field-0.now (rw c.in-Some-series.is at c.series.ensures) orphan),
    )

pub returns-in-None : goal.returns-in-None
returns-in-None c =
    let items : List Item = c.args.items.now.items in
    let part = c.requires.part_is in
    (orphan_where items part.ascend part.state c.args.item.now c.requires.there c.args.items.now.uid
    (part.about c.args.item.now c.requires.there) c.in-Some.id.now c.in-Some.ensures.1 c.in-Some.ensures.0
    (rw c.in-None.is at c.series.ensures)) c.none_at_instance.result c.none_at_instance.ensures
