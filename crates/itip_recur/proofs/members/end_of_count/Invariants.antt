use Rattle.std.proofs.Common.{◌-◌}
use Rattle.itip_recur.specs.Calendar.{IsDayOrEnd}
use Rattle.itip_recur.specs.Counting.{Counted}
use Rattle.itip_recur.proofs.members.end_of_count.Given as goal

abbrev pub invariant-loop-seen : goal.invariant-loop-seen
invariant-loop-seen l = record { in_years : IsDayOrEnd l.day; counted : Counted l.rule l.start l.count l.seen l.day }

abbrev pub decreases-loop-seen : goal.decreases-loop-seen
decreases-loop-seen l = l.count - l.seen
