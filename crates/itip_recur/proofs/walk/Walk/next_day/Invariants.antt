use Rattle.std.proofs.Common.{pos, ◌-ℤ◌, unsigned_abs}
use Rattle.itip_recur.specs.Walk.{IsUnitFrom}
use Rattle.itip_recur.proofs.walk.Walk.next_day.Given as goal

abbrev pub invariant-loop-unit : goal.invariant-loop-unit
invariant-loop-unit l = record { unit : IsUnitFrom l.self.rule.now l.self.start.number l.from l.unit.number l.unit.day }

abbrev pub decreases-loop-unit : goal.decreases-loop-unit
decreases-loop-unit l = unsigned_abs (pos 2_932_897 -ℤ l.unit.day)
