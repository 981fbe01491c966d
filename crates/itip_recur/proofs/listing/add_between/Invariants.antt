use Rattle.std.proofs.Common.{◌-ℤ◌, ◌≤ℤ◌, ◌<ℤ◌, unsigned_abs}
use Rattle.itip_moment.specs.Moment.{moment_day}
use Rattle.itip_recur.specs.Calendar.{IsDayOrEnd}
use Rattle.itip_recur.specs.Adding.{Adds, IsBetween}
use Rattle.itip_recur.proofs.listing.add_between.Given as goal

abbrev pub invariant-loop-day : goal.invariant-loop-day
invariant-loop-day l =
    record {
      in_years : IsDayOrEnd l.day;
      not_before : l.from ≤ℤ l.day;
      so_far : Adds l.limit (λ m. IsBetween l.series l.rule l.from l.end m × (moment_day m <ℤ l.day)) l.initial.found.moments.items
          l.found.moments.items;
    }

abbrev pub decreases-loop-day : goal.decreases-loop-day
decreases-loop-day l = unsigned_abs (l.end -ℤ l.day)
