use Rattle.itip_join.proofs.Folds.{join_commutes}
use Rattle.itip_join.proofs.laws.joins_commute.Goals as goal

pub returns : goal.returns
returns g c = join_commutes (record {
  reflexive = g.met.T.Join.reflexive;
  transitive = g.met.T.Join.transitive;
  antisymmetric =
      g.met.T.Join.antisymmetric;
})
