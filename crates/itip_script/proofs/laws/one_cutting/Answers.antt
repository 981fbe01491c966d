use Rattle.std.proofs.Common.{sym, ap, ◌∙◌}
use Rattle.itip_script.specs.Lines.{lines_of}
use Rattle.itip_script.proofs.Cuttings.{lines_are, concat-lines_of, lines_of-concat}
use Rattle.itip_script.proofs.laws.one_cutting.Goals as goal

pub returns : goal.returns
returns c = record {
  cut = λ bytes. (lines_are bytes, concat-lines_of bytes);
  only = λ bytes lines cutting. sym (lines_of-concat lines cutting.0) ∙ ap lines_of cutting.1;
}
