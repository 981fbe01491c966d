use Rattle.std.proofs.Common.{◌∙◌, ap, map}
use Rattle.itip_lines.specs.Writing.{unfolded_text}
use Rattle.itip_lines.proofs.LineLists.{are_line_texts, lines_are, texts_of_lines}
use Rattle.itip_lines.proofs.line_list.LineList.exact.Goals as goal

pub invariant_of-result : goal.invariant_of-result
invariant_of-result c = (
  are_line_texts c.exact.result c.args.self
      (c.exact.ensures ∙ texts_of_lines c.self.inside.texts _ ∙ ap (map unfolded_text) c.self.view_is),
  tt,
)

pub returns : goal.returns
returns c =
    lines_are c.exact.result _ c.args.self
    (c.exact.ensures ∙ texts_of_lines c.self.inside.texts _ ∙ ap (map unfolded_text) c.self.view_is)
