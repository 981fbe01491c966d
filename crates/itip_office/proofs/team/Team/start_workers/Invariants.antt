use Rattle.std.proofs.Common.{◌≡◌, All}
use Rattle.itip_office.proofs.team.Team.start_workers.Given as goal

abbrev pub invariant-loop-bench : goal.invariant-loop-bench
invariant-loop-bench g l = All (λ t. t.promise.desks ≡ l.desks) l.self.workers.items
