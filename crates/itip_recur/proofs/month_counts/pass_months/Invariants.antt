use Rattle.std.proofs.Common.{◌≡◌, ◌≤◌, pos, ◌-ℤ◌, unsigned_abs}
use Rattle.itip_recur.specs.Calendar.{day_of_month}
use Rattle.itip_recur.specs.Counting.{Counted}
use Rattle.itip_recur.specs.MonthCounts.{AreMet}
use Rattle.itip_recur.proofs.month_counts.pass_months.Given as goal

abbrev pub invariant-loop-seen : goal.invariant-loop-seen
invariant-loop-seen l =
    record {
      is_first : day_of_month l.first.number ≡ 1;
      counted : Counted l.walk.rule.now l.walk.start.number l.count l.seen l.first.number;
      low : 1 ≤ l.seen;
      room : l.seen ≤ l.count;
      are_met : AreMet l.walk.rule.now l.walk.start.number l.met;
    }

abbrev pub decreases-loop-seen : goal.decreases-loop-seen
decreases-loop-seen l = unsigned_abs (pos 2_932_897 -ℤ l.first.number)
