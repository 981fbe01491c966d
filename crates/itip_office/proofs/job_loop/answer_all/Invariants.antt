use Rattle.std.proofs.Common.{All}
use Rattle.itip_office.specs.LooksAndCarries.{IsOneOf, IsAnswered}
use Rattle.itip_office.proofs.job_loop.answer_all.Given as goal

abbrev pub invariant-loop : goal.invariant-loop
invariant-loop g l = All (IsAnswered l.desks (IsOneOf l.fn.found.1.items)) l.fn.found.0.items →
    All (IsAnswered l.desks (IsOneOf l.found.1.items)) l.found.0.items
