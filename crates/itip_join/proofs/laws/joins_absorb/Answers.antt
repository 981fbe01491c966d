use Rattle.itip_join.proofs.Folds.{join_of_below}
use Rattle.itip_join.proofs.laws.joins_absorb.Goals as goal

pub returns : goal.returns
returns g c = join_of_below (record {
  reflexive = g.met.T.Join.reflexive;
  transitive = g.met.T.Join.transitive;
  antisymmetric =
      g.met.T.Join.antisymmetric;
})
