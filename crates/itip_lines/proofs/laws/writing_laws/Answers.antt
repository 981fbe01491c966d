use Rattle.std.proofs.Common.{[]}
use Rattle.itip_lines.proofs.Folds.{written_pieces}
use Rattle.itip_lines.proofs.OneFolding.{one_folding}
use Rattle.itip_lines.proofs.Roundtrip.{reads_written, one_written}
use Rattle.itip_lines.proofs.laws.writing_laws.Goals as goal

pub returns-clause-read_again : goal.returns-clause-read_again
returns-clause-read_again c = reads_written

pub returns-clause-pieces : goal.returns-clause-pieces
returns-clause-pieces c = written_pieces

pub returns-clause-one_folding : goal.returns-clause-one_folding
returns-clause-one_folding c = λ text pieces others. one_folding [] text pieces others

pub returns-clause-one_line : goal.returns-clause-one_line
returns-clause-one_line c = one_written
