use Rattle.itip_writing.proofs.CancelLaws.{question_gone, series_gone}
use Rattle.itip_writing.proofs.cancel_laws.removed_are_gone.Goals as goal

pub returns : goal.returns
returns c = record { question = question_gone; series = series_gone }
