use Rattle.std.proofs.Common.{◌∙◌, ap, map}
use Rattle.itip_lines.specs.Writing.{unfolded_text}
use Rattle.itip_lines.proofs.LineLists.{texts_of_lines}
use Rattle.itip_lines.proofs.line_list.LineList.texts.Goals as goal

pub returns : goal.returns
returns c = c.iter.ensures ∙ texts_of_lines c.self.inside.texts _ ∙ ap (map unfolded_text) c.self.view_is
