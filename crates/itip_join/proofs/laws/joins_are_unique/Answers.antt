use Rattle.itip_join.proofs.Folds.{one_join}
use Rattle.itip_join.proofs.laws.joins_are_unique.Goals as goal

pub returns : goal.returns
returns g c = one_join (record {
  reflexive = g.met.T.Join.reflexive;
  transitive = g.met.T.Join.transitive;
  antisymmetric =
      g.met.T.Join.antisymmetric;
})
