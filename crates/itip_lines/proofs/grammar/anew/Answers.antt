use Rattle.std.proofs.Common.{◌∙◌, sym}
use Rattle.itip_lines.proofs.Finding.{as_it_stands}
use Rattle.itip_lines.proofs.grammar.anew.Goals as goal

pub returns-then-is_tail : goal.returns-then-is_tail
returns-then-is_tail c =
    as_it_stands c.args.name.now c.args.tail.now c.args.params.now c.args.value.now (sym c.is_upper.ensures ∙ c.if-is_upper.true)
    (c.is_tail.ensures c.if-is_tail.true)
