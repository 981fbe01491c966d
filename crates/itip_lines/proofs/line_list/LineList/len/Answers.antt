use Rattle.std.proofs.Common.{◌∙◌, length, ap}
use Rattle.itip_lines.proofs.LineLists.{count_is}
use Rattle.itip_lines.proofs.line_list.LineList.len.Goals as goal

pub returns : goal.returns
returns c = c.len.ensures ∙ count_is c.self.inside.texts _ ∙ ap length c.self.view_is
