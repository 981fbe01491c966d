use Rattle.std.proofs.Common.{ℕ, ◌+◌, pos, ◌+ℤ◌, ◌-ℤ◌, ◌≤ℤ◌, unsigned_abs}
use Rattle.itip_recur.specs.Calendar.{IsDayOrEnd}
use Rattle.itip_recur.specs.Counting.{Walked}
use Rattle.itip_recur.proofs.periods.seen_in.Given as goal

abbrev pub invariant-loop-found : goal.invariant-loop-found
invariant-loop-found l =
    record {
      in_years : IsDayOrEnd l.day;
      before_end : l.day ≤ℤ l.end;
      few : (l.from +ℤ pos l.seen) ≤ℤ l.day;
      rest : (k : ℕ) → Walked l.walk.rule.now l.walk.start.number l.day k l.end →
          Walked l.walk.rule.now l.walk.start.number l.from (l.seen + k) l.end;
    }

abbrev pub decreases-loop-found : goal.decreases-loop-found
decreases-loop-found l = unsigned_abs (l.end -ℤ l.day)
