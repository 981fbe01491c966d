use Rattle.itip_todo.proofs.WritingLaws.{read_again}
use Rattle.itip_todo.proofs.laws.writing_laws.Goals as goal

pub returns : goal.returns
returns c = record { read_again = read_again }
