use Rattle.std.proofs.Common.{arith}
use Rattle.itip_recur.proofs.WaitDays.{in_last_seven}
use Rattle.itip_recur.proofs.waits.seven_in.Goals as goal

pub returns-in-FromLast : goal.returns-in-FromLast
returns-in-FromLast c = λ x same is.
    let at = in_last_seven c.in-FromLast.n x c.args.days same (rw c.in-FromLast.is at is) in (
      omega (arith, at.0, c.saturating_sub-in-FromLast.ensures),
      omega (arith, at.1, c.saturating_sub-in-FromLast-2.ensures, c.saturating_sub-in-FromLast-3.ensures),
    )
