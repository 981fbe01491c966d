use Rattle.itip_writing.proofs.ErrandLaws.{cannot_of_kept, lacks_of_kept, written_of_kept}
use Rattle.itip_writing.proofs.laws.writing_of_kept.Goals as goal

pub returns : goal.returns
returns c = record {
  written = λ errand at octets kept heard are. written_of_kept kept heard are errand at octets;
  lacking = λ errand lacking kept heard are. lacks_of_kept kept heard are errand lacking;
  fault = λ errand at error kept heard are. cannot_of_kept kept heard are errand at error;
}
