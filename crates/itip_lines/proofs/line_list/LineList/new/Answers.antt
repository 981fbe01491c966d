use Rattle.std.proofs.Common.{[]}
use Rattle.itip_lines.proofs.LineLists.{are_line_texts, lines_are}
use Rattle.itip_lines.proofs.line_list.LineList.new.Goals as goal

pub invariant_of-result : goal.invariant_of-result
invariant_of-result c = (are_line_texts c.new.result [] c.new.ensures, tt)

pub returns : goal.returns
returns c = lines_are c.new.result _ [] c.new.ensures
