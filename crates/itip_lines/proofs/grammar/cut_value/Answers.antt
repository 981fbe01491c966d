use Rattle.itip_lines.proofs.Values.{lacks_quote}
use Rattle.itip_lines.proofs.grammar.cut_value.Goals as goal

pub returns-in_default-strip : goal.returns-in_default-strip
returns-in_default-strip c = lacks_quote _ _ _ _ c.in-Some.ensures c.cut_run-2.ensures c.in_default-strip.ensures
