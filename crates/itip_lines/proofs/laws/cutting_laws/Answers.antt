use Rattle.itip_lines.proofs.Cuttings.{cutting_of, one_cutting}
use Rattle.itip_lines.proofs.Numbers.{lines_plain}
use Rattle.itip_lines.proofs.laws.cutting_laws.Goals as goal

pub returns-clause-some : goal.returns-clause-some
returns-clause-some c = λ bytes. let cutting = cutting_of bytes in (cutting.pieces, cutting.last, cutting.cut)

pub returns-clause-one : goal.returns-clause-one
returns-clause-one c = one_cutting

pub returns-clause-numbered : goal.returns-clause-numbered
returns-clause-numbered c = lines_plain
