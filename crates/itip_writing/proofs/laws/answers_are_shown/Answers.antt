use Rattle.itip_writing.proofs.ErrandLaws.{question_shown, series_shown}
use Rattle.itip_writing.proofs.laws.answers_are_shown.Goals as goal

pub returns : goal.returns
returns c = record { question = question_shown; series = series_shown }
