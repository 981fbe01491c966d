use Rattle.std.proofs.Common.{All}
use Rattle.std.proofs.lemmas.Result.{IfOk-at_ok}
use Rattle.itip_office.specs.LooksAndCarries.{IsOneOf, IsAnswered}
use Rattle.itip_office.specs.Pairs.{HasKept}
use Rattle.itip_office.proofs.team.Team.join.Goals as goal

pub returns-in-Ok-Ok-clause-answered : goal.returns-in-Ok-Ok-clause-answered
returns-in-Ok-Ok-clause-answered g c = λ desks all.
    IfOk-at_ok (λ v. All (IsAnswered desks (IsOneOf v.1.items)) v.0.items) c.in-Ok-Ok.is-0 (c.join_workers-alone.ensures.answered desks all)

pub returns-in-Ok-Ok-clause-kept : goal.returns-in-Ok-Ok-clause-kept
returns-in-Ok-Ok-clause-kept g c =
    IfOk-at_ok (λ v. All (λ k. HasKept (g.N.Pairs.pair k.desk) (IsOneOf v.1.items) k.desk k.answers.items k.held.texts k.held.shown)
    v.0.items) c.in-Ok-Ok.is-1 c.join_keepers-kept.ensures.kept
