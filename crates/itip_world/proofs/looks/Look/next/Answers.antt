use Rattle.std.proofs.Common.{List, subst}
use Rattle.itip_items.specs.declared.item.Item.{Item}
use Rattle.itip_report.specs.NextSequence.{IsNext}
use Rattle.itip_world.specs.Looking.Looks.{tells_next, tells_no_desk}
use Rattle.itip_world.proofs.looks.Look.next.Goals as goal

pub returns-in_default-clause-answers : goal.returns-in_default-clause-answers
returns-in_default-clause-answers c = tells_no_desk c.args.desk c.args.uid.now c.in_default.ensures

pub returns-clause-answers : goal.returns-clause-answers
returns-clause-answers c =
    tells_next c.args.desk c.args.uid.now c.in-Some.asked.now c.in_ok-sequence.sequence c.in-Some.ensures
    (subst (λ (items : List Item). IsNext items c.args.uid.now c.in_ok-sequence.sequence) c.state.ensures c.in_ok-sequence.ensures)
