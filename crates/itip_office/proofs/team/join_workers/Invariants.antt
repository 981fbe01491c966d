use Rattle.std.proofs.Common.{◌≡◌, ℕ, All}
use Rattle.std.specs.Prelude.{IfOk, IsErrOf}
use Rattle.std.specs.Vec.Iter.{into_iter_items}
use Rattle.itip_office.specs.declared.error.OfficeError.TheVariants as error
use Rattle.itip_office.specs.LooksAndCarries.{IsOneOf, IsAnswered}
use Rattle.itip_office.proofs.team.join_workers.Given as goal

abbrev pub invariant-loop-worker : goal.invariant-loop-worker
invariant-loop-worker g l = record {
  answered : (desks : ℕ) → All (λ t. t.promise.desks ≡ desks) l.fn.workers.items
      → All (λ t. t.promise.desks ≡ desks) (into_iter_items l.worker-iterator) ×
      IfOk l.all (λ all. All (IsAnswered desks (IsOneOf all.1.items)) all.0.items);
  closed : IsErrOf l.all error.GateClosed → g.G.Gate.may_close;
}
