use Rattle.std.proofs.Common.{◌≡◌, List, [], All, sym, subst}
use Rattle.std.proofs.lemmas.List.Elements.{All-nil}
use Rattle.itip_office.specs.Answers.{Answer}
use Rattle.itip_office.specs.LooksAndCarries.{IsOneOf, IsAnswered}
use Rattle.itip_office.proofs.job_loop.worker_loop.Goals as goal

pub returns-clause-answered : goal.returns-clause-answered
returns-clause-answered g c =
    let none : c.new-answers.result.items ≡ [] = c.new-answers.ensures.items in
    let P : Answer → Type 0 = IsAnswered c.args.desks (IsOneOf c.new-sources.result.items) in
    c.in_ok-answer_all.ensures.answered (subst (λ (l : List Answer). All P l) (sym none) (All-nil P))
