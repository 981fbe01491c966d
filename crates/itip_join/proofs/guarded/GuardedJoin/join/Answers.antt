use Rattle.std.proofs.Common.{refl}
use Rattle.itip_join.proofs.Equal.{guarded_equal, on_err, on_err_then}
use Rattle.itip_join.proofs.guarded.GuardedJoin.join.Goals as goal

pub returns-then-below_under-clause-unchanged : goal.returns-then-below_under-clause-unchanged
returns-then-below_under-clause-unchanged g c = λ below. guarded_equal _ _ refl refl

pub returns-then-below-clause-err : goal.returns-then-below-clause-err
returns-then-below-clause-err g c = on_err_then c.join_alive.result (guarded_equal _ _ refl) c.join_alive.ensures.err

pub returns-in_err-guard-clause-err : goal.returns-in_err-guard-clause-err
returns-in_err-guard-clause-err g c = on_err c.from_residual.result (guarded_equal _ _ refl refl)

pub returns-in_err-join-clause-err : goal.returns-in_err-join-clause-err
returns-in_err-join-clause-err g c = on_err c.from_residual-in_err-join.result (guarded_equal _ _ refl refl)

pub returns-in_err-join_under-clause-err : goal.returns-in_err-join_under-clause-err
returns-in_err-join_under-clause-err g c =
    on_err c.from_residual-in_err-join_under.result (guarded_equal _ _ refl c.in_err-join_under.ensures.err)
