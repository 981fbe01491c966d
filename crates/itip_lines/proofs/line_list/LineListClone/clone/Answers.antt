use Rattle.std.proofs.Common.{◌∙◌, ap, map}
use Rattle.itip_lines.specs.Writing.{unfolded_text}
use Rattle.itip_lines.proofs.LineLists.{lines_are, texts_of_lines}
use Rattle.itip_lines.proofs.line_list.LineListClone.clone.Goals as goal

pub returns : goal.returns
returns c = record {
  cases = lines_are c.in_ok-texts.texts _ c.args.self.now
      (c.in_ok-texts.ensures.cases ∙ texts_of_lines c.self.inside.texts _ ∙ ap (map unfolded_text) c.self.view_is);
}
