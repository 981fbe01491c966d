use Rattle.std.proofs.Common.{◌≡◌, All}
use Rattle.std.specs.Vec.Iter.{into_iter_items}
use Rattle.itip_office.specs.Pairs.{IsStarted}
use Rattle.itip_office.proofs.team.Team.start_keepers.Given as goal

abbrev pub invariant-loop-one : goal.invariant-loop-one
invariant-loop-one g l = record {
  started : All (λ s. IsStarted (g.N.Pairs.pair s.desk) s.held.texts s.held.shown s.passes.items) (into_iter_items l.one-iterator);
  workers : l.self.workers.items ≡ l.fn.self.workers.items;
}
