use Rattle.std.proofs.Common.{◌≡◌, ◌∙◌, sym, ap, subst}
use Rattle.std.specs.Prelude.{Option}
use Rattle.itip_join.specs.Optional.{IsBelowUnder, alive_part}
use Rattle.itip_join.specs.KeyByKey.{value_at, all_alive}
use Rattle.itip_join.proofs.Equal.{keyed_equal, on_err}
use Rattle.itip_join.proofs.Under.{above_first_under, above_second_under, least_under, all_alive-kept, value_at-kept}
use Rattle.itip_join.proofs.keyed.KeyedUnderGuard.join_under.Goals as goal

pub returns-in_err-merge-clause-err : goal.returns-in_err-merge-clause-err
returns-in_err-merge-clause-err g c = on_err c.from_residual.result (keyed_equal _ _ c.in_err-merge.ensures.err)

pub returns-clause-alive : goal.returns-clause-alive
returns-clause-alive g c = ap (all_alive (g.S.Guard.is_dead c.args.guard.now)) c.drop_dead.ensures.filtered
    ∙ all_alive-kept (g.S.Guard.is_dead c.args.guard.now) c.merge.new.self

pub returns-clause-joined : goal.returns-clause-joined
returns-clause-joined g c =
    let dead = g.S.Guard.is_dead c.args.guard.now in
    let old = value_at g.K.Ord.cmp c.args.self.now.map in
    let other = value_at g.K.Ord.cmp c.args.other.now.map in
    let merged = value_at g.K.Ord.cmp c.merge.new.self in
    let new = value_at g.K.Ord.cmp c.drop_dead.new.self in
    let is : (k : g.row.K.Denot) → new k ≡ alive_part (dead k) (merged k) =
    λ k. ap (λ es. value_at g.K.Ord.cmp es k) c.drop_dead.ensures.filtered
    ∙ value_at-kept dead g.met.K.Ord.total g.met.K.Exact.exact c.merge.new.self c.merge.ensures.ordered k in
    record {
      above_first = λ k. subst (λ (o : Option g.row.V.Denot). IsBelowUnder (dead k) g.V.Join.le (old k) o) (sym (is k))
          (above_first_under g.V.Join.le (dead k) (λ v w. g.met.S.Guard.below_dead c.args.guard.now k v w) (old k) (other k) (merged k)
          (c.in_ok-merge.ensures.ok k));
      above_second = λ k. subst (λ (o : Option g.row.V.Denot). IsBelowUnder (dead k) g.V.Join.le (other k) o) (sym (is k))
          (above_second_under g.V.Join.le (dead k) (λ v w. g.met.S.Guard.below_dead c.args.guard.now k v w) (old k) (other k) (merged k)
          (c.in_ok-merge.ensures.ok k));
      least = λ t bound grows p q k. subst (λ (o : Option g.row.V.Denot). IsBelowUnder (g.S.Guard.is_dead t k) g.V.Join.le o
          (value_at g.K.Ord.cmp bound.map k)) (sym (is k))
          (least_under g.V.Join.le g.met.V.Join.reflexive g.met.V.Join.antisymmetric g.met.V.Chain.comparable (dead k)
          (g.S.Guard.is_dead t k)
          (old k) (other k) (merged k) (value_at g.K.Ord.cmp bound.map k) (c.in_ok-merge.ensures.ok k) (p k) (q k));
    }
