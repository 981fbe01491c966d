use Rattle.itip_join.proofs.Folds.{folds_agree}
use Rattle.itip_join.proofs.laws.joins_converge.Goals as goal

pub returns : goal.returns
returns g c = folds_agree (record {
  reflexive = g.met.T.Join.reflexive;
  transitive = g.met.T.Join.transitive;
  antisymmetric =
      g.met.T.Join.antisymmetric;
})
