use Rattle.std.proofs.Common.{List, ap, ◌∙◌}
use Rattle.std.specs.Ordering.{is_lt}
use Rattle.itip_items.specs.declared.item.Item.{Item}
use Rattle.itip_report.proofs.Telling.{wanted_where, not_wanted}
use Rattle.itip_report.proofs.sought.is_wanted.Goals as goal

pub returns-in-Some-governing : goal.returns-in-Some-governing
returns-in-Some-governing c =
    let items : List Item = c.args.items.now.items in
    let part = c.requires.among.part_is in
    wanted_where items part.ascend part.state c.args.item.now c.requires.among.there c.args.items.now.uid
    (part.about c.args.item.now c.requires.among.there) c.in-Some.id.now c.in-Some.ensures.1 c.in-Some.ensures.0
    c.in-Some-governing.governing.now c.in-Some-governing.ensures c.is_lt.result (c.is_lt.ensures ∙ ap is_lt c.cmp.ensures)

pub returns-in-None : goal.returns-in-None
returns-in-None c =
    let items : List Item = c.args.items.now.items in
    let part = c.requires.among.part_is in (
      λ e. cc,
      λ wanted. absurd (not_wanted items part.ascend part.state c.args.item.now c.requires.among.there c.args.items.now.uid
          (part.about c.args.item.now c.requires.among.there) c.in-Some.id.now c.in-Some.ensures.1
          c.in-None.ensures wanted),
    )
