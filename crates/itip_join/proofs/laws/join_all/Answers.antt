use Rattle.std.proofs.Common.{◌∙◌, sym, ap, subst, List, take, [], ◌∷◌, ◌++◌}
use Rattle.std.proofs.lemmas.List.{take_more}
use Rattle.itip_join.specs.Bounds.{IsFoldOfJoins}
use Rattle.itip_join.proofs.Folds.{fold_push}
use Rattle.itip_join.proofs.laws.join_all.Goals as goal

pub loop-value-preserved : goal.loop-value-preserved
loop-value-preserved g c = subst (λ (xs : List g.row.T.Denot). IsFoldOfJoins g.T.Join.le c.args.first.now xs c.join.new.self)
    (sym (take_more c.args.rest.now c.loop-value.value-index c.value-item.result c.loop-value-test.true
    ∙ ap (λ x. take c.loop-value.value-index c.args.rest.now ++ x ∷ []) (sym c.value-item.is)))
    (fold_push (record {
      reflexive = g.met.T.Join.reflexive;
      transitive = g.met.T.Join.transitive;
      antisymmetric =
          g.met.T.Join.antisymmetric;
    })
    c.args.first.now (take c.loop-value.value-index c.args.rest.now) c.loop-value.all c.value-item.result c.join.new.self
    c.loop-value.invariant c.in_ok-join.ensures.joined)
