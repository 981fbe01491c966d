-- A text of more than two letters is a weekday only with a place before it.
use Rattle.std.proofs.Common.{ℕ, ◌<◌, arith, List, length}
use Rattle.jiff_core.specs.declared.civil.weekday.Weekday.{Weekday}
use Rattle.itip_recur.specs.declared.rule.Place.{Place}
use Rattle.itip_recur.specs.declared.rule.MonthWeekday.{MonthWeekday}
use Rattle.itip_recur.specs.declared.rule.MonthWeekday.TheVariants.{Every, Nth}
use Rattle.itip_recur.specs.RuleText.{IsMonthWeekdayText}
use Rattle.itip_recur.proofs.Numbers.{weekday_two, AreNthParts, AreNthParts-of}

pub by_parts : (text : List ℕ) → 2 < length text → ((place : Place) (w : Weekday) → AreNthParts text place w → ⊥) → (m : MonthWeekday) →
    IsMonthWeekdayText text m → ⊥
by_parts text long none (Every w) is = omega (arith, weekday_two text w is)
by_parts text long none (Nth place w) is = none place w (AreNthParts-of text place w is)
