use Rattle.std.proofs.Common.{◌≡◌, ◌-ℤ◌, ◌≤ℤ◌, unsigned_abs}
use Rattle.itip_recur.specs.SelectedDays.{IsSelected}
use Rattle.itip_recur.specs.Waits.{IsNone}
use Rattle.itip_recur.proofs.walk.first_date.Given as goal

abbrev pub invariant-loop-left : goal.invariant-loop-left
invariant-loop-left l =
    record {
      left : l.left ≡ l.stop -ℤ l.day.number;
      not_before : l.from ≤ℤ l.day.number;
      none : IsNone (IsSelected l.frequency l.start.number) l.from l.day.number;
    }

abbrev pub decreases-loop-left : goal.decreases-loop-left
decreases-loop-left l = unsigned_abs (l.stop -ℤ l.day.number)
