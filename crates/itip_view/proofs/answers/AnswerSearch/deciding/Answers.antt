use Rattle.std.proofs.Common.{inl}
use Rattle.itip_view.proofs.answers.AnswerSearch.deciding.Goals as goal

pub returns-in-Some : goal.returns-in-Some
returns-in-Some c = inl c.in-Some.ensures
