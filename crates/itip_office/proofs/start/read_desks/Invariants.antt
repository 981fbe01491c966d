use Rattle.std.proofs.Common.{◌≡◌, length, All}
use Rattle.itip_office.specs.Pairs.{pair_of, AreNumbered, IsStarted}
use Rattle.itip_office.proofs.start.read_desks.Given as goal

abbrev pub invariant-loop-desk : goal.invariant-loop-desk
invariant-loop-desk g l = record {
  count : length l.all.items ≡ l.desk;
  numbered : AreNumbered (λ s. s.desk) 0 l.all.items;
  started : All (λ s. IsStarted (pair_of s.held.shown) s.held.texts s.held.shown s.passes.items) l.all.items;
}
