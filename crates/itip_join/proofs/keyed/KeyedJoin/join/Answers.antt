use Rattle.std.proofs.Common.{subst, sym}
use Rattle.std.specs.Prelude.{Option}
use Rattle.itip_join.specs.Optional.{IsBelowAt}
use Rattle.itip_join.specs.KeyByKey.{value_at}
use Rattle.itip_join.proofs.Equal.{keyed_equal, on_err_then, on_ok_then}
use Rattle.itip_join.proofs.Under.{alive_part_all}
use Rattle.itip_join.proofs.keyed.KeyedJoin.join.Goals as goal

pub returns-clause-joined : goal.returns-clause-joined
returns-clause-joined g c = on_ok_then c.merge.result
    (λ joined. record {
      above_first = λ k. (joined k).above_first;
      above_second = λ k. subst (λ (o : Option g.row.V.Denot). IsBelowAt g.V.Join.le o (value_at g.K.Ord.cmp c.merge.new.self k))
          (alive_part_all (value_at g.K.Ord.cmp c.args.other.now.map k)) (joined k).above_second;
      least = λ bound p q k. (joined k).least (value_at g.K.Ord.cmp bound.map k) (p k)
          (subst (λ (o : Option g.row.V.Denot). IsBelowAt g.V.Join.le o (value_at g.K.Ord.cmp bound.map k))
          (sym (alive_part_all (value_at g.K.Ord.cmp c.args.other.now.map k))) (q k));
    })
    c.merge.ensures.ok

pub returns-clause-err : goal.returns-clause-err
returns-clause-err g c = on_err_then c.merge.result (keyed_equal _ _) c.merge.ensures.err
