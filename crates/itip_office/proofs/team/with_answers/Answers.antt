use Rattle.std.proofs.Common.{All}
use Rattle.std.proofs.lemmas.Result.{IfOk-at_ok}
use Rattle.itip_office.specs.LooksAndCarries.{IsOneOf, IsAnswered}
use Rattle.itip_office.proofs.Seeing.{answered_together}
use Rattle.itip_office.proofs.team.with_answers.Goals as goal

pub returns-in_ok-append-in-Ok-Ok-2-clause-answered : goal.returns-in_ok-append-in-Ok-Ok-2-clause-answered
returns-in_ok-append-in-Ok-Ok-2-clause-answered g c = λ desks was one.
    answered_together desks c.in-Ok-Ok.sources.items c.in-Ok-Ok.others.items c.append-in-Ok-Ok.new.self.items c.in-Ok-Ok.answers.items
    c.in-Ok-Ok.more.items c.append.new.self.items c.in_ok-append-in-Ok-Ok-2.ensures.items c.in_ok-append-in-Ok-Ok.ensures.items
    (IfOk-at_ok (λ v. All (IsAnswered desks (IsOneOf v.1.items)) v.0.items) c.in-Ok-Ok.is-0 was)
    (IfOk-at_ok (λ v. All (IsAnswered desks (IsOneOf v.1.items)) v.0.items) c.in-Ok-Ok.is-1 one)
