use Rattle.std.proofs.Common.{refl, subst, Ok}
use Rattle.std.specs.Fn.{FnOnceReturnsAtMut}
use Rattle.itip_running.specs.declared.scope.OpenDesk.{OpenDesk}
use Rattle.itip_running.proofs.scope.with_desk.Goals as goal

pub returns-in-Ok-met : goal.returns-in-Ok-met
returns-in-Ok-met g c =
    let before : OpenDesk = record { keeper = c.in-Ok.started.0; passes = c.in-Ok.started.1 } in
    let after : OpenDesk = c.work-done.new.arg2 in
    let gave : FnOnceReturnsAtMut g.F.FnOnce c.args.work before c.work-done.result after =
    record { shown = _; shows = refl; left = _; met = c.work-done.ensures; leaves = refl } in (
      before,
      after,
      subst (λ r. FnOnceReturnsAtMut g.F.FnOnce c.args.work before r after) c.in-Ok-done.is gave,
      c.in-Ok.ensures.keeper.0,
      c.in-Ok.ensures.keeper.1,
      c.in-Ok.ensures.count,
      c.in-Ok.ensures.each,
      c.in-Ok-met.ensures.desk,
      c.in-Ok-met.ensures.published,
    )
