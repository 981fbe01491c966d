use Rattle.std.proofs.Common.{◌≡◌, subst}
use Rattle.std.specs.Prelude.{Option}
use Rattle.itip_join.specs.Optional.{IsBelowUnder, alive_part}
use Rattle.itip_join.specs.KeyByKey.{value_at}
use Rattle.itip_join.specs.Killed.{found_alive}
use Rattle.itip_join.proofs.Equal.{keyed_equal, on_err_then, on_ok_then}
use Rattle.itip_join.proofs.Under.{above_first_under, above_second_under, least_under, alive_itself, join_alive_at, all_alive-from_values}
use Rattle.itip_join.proofs.keyed.KeyedUnderGuard.join_alive.Goals as goal

pub returns-clause-alive : goal.returns-clause-alive
returns-clause-alive g c = on_ok_then c.merge.result
    (λ joined. let dead = g.S.Guard.is_dead c.args.guard.now in
    all_alive-from_values g.met.K.Ord.total dead c.merge.new.self c.merge.ensures.ordered
    (λ k. join_alive_at (dead k) g.V.Join.le g.met.V.Join.reflexive g.met.V.Join.antisymmetric g.met.V.Chain.comparable
    (value_at g.K.Ord.cmp c.args.self.now.map k) (value_at g.K.Ord.cmp c.args.other.now.map k) (value_at g.K.Ord.cmp c.merge.new.self k)
    (joined k)
    (found_alive g.met.K.Exact.exact dead c.args.self.now.map c.requires k)))
    c.merge.ensures.ok

pub returns-clause-joined : goal.returns-clause-joined
returns-clause-joined g c = on_ok_then c.merge.result
    (λ joined.
    let dead = g.S.Guard.is_dead c.args.guard.now in
    let old = value_at g.K.Ord.cmp c.args.self.now.map in
    let other = value_at g.K.Ord.cmp c.args.other.now.map in
    let new = value_at g.K.Ord.cmp c.merge.new.self in
    let is : (k : g.row.K.Denot) → alive_part (dead k) (new k) ≡ new k =
    λ k. alive_itself (dead k) (new k)
    (join_alive_at (dead k) g.V.Join.le g.met.V.Join.reflexive g.met.V.Join.antisymmetric g.met.V.Chain.comparable (old k) (other k)
    (new k) (joined k)
    (found_alive g.met.K.Exact.exact dead c.args.self.now.map c.requires k)) in
    record {
      above_first = λ k. subst (λ (o : Option g.row.V.Denot). IsBelowUnder (dead k) g.V.Join.le (old k) o) (is k)
          (above_first_under g.V.Join.le (dead k) (λ v w. g.met.S.Guard.below_dead c.args.guard.now k v w) (old k) (other k) (new k)
          (joined k));
      above_second = λ k. subst (λ (o : Option g.row.V.Denot). IsBelowUnder (dead k) g.V.Join.le (other k) o) (is k)
          (above_second_under g.V.Join.le (dead k) (λ v w. g.met.S.Guard.below_dead c.args.guard.now k v w) (old k) (other k) (new k)
          (joined k));
      least = λ t bound grows p q k. subst (λ (o : Option g.row.V.Denot). IsBelowUnder (g.S.Guard.is_dead t k) g.V.Join.le o
          (value_at g.K.Ord.cmp bound.map k)) (is k)
          (least_under g.V.Join.le g.met.V.Join.reflexive g.met.V.Join.antisymmetric g.met.V.Chain.comparable (dead k)
          (g.S.Guard.is_dead t k)
          (old k) (other k) (new k) (value_at g.K.Ord.cmp bound.map k) (joined k) (p k) (q k));
    })
    c.merge.ensures.ok

pub returns-clause-err : goal.returns-clause-err
returns-clause-err g c = on_err_then c.merge.result (keyed_equal _ _) c.merge.ensures.err
