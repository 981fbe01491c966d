use Rattle.std.proofs.Common.{◌≡◌, ℤ, ◌-◌, ◌≤ℤ◌, arith, FitsSigned, w32, to_z, to_z-of_z, pos}
use Rattle.std.proofs.lemmas.Int.{ints}
use Rattle.jiff_core.proofs.SignedLemmas.{signed_arith}
use Rattle.itip_recur.specs.Calendar.{day_of_month}
use Rattle.itip_recur.proofs.InMonth.{IsInMonth}
use Rattle.itip_recur.proofs.WaitDays.{for_day, in_rest, past, too_long}
use Rattle.itip_recur.proofs.waits.wait_for_day.Goals.{else-day-wanted-via-then-day-wanted+else-wanted-day}
use Rattle.itip_recur.proofs.waits.wait_for_day.Goals.{else-day-wanted-via-else-day-wanted}
use Rattle.itip_recur.proofs.waits.wait_for_day.Goals as goal

pub returns-then-wanted-day-clause-wait : goal.returns-then-wanted-day-clause-wait
returns-then-wanted-day-clause-wait c =
    let day = c.args.day.now in
    let unsigned : to_z w32 (c.args.wanted - day.day) ≡ pos (c.args.wanted - day.day) = omega (arith, ints) in
    rw unsigned (for_day day.number day.day c.args.wanted day.in_years day.day_is (omega arith) (omega (arith, day.length_is)))

pub returns-else-day-wanted-clause-wait : goal.returns-else-day-wanted-clause-wait
returns-else-day-wanted-clause-wait c =
    let day = c.args.day.now in
    let rest : FitsSigned w32 c.rest_of_month.result = omega (arith, signed_arith) in
    let none : (x : ℤ) → IsInMonth day.number x → day.number ≤ℤ x → day_of_month x ≡ c.args.wanted → ⊥ =
    elim c.else-day-wanted.branch [
      | else-day-wanted-via-then-day-wanted+else-wanted-day w ↦ λ x at low same. too_long day.number x c.args.wanted
          (omega (arith, day.length_is)) at same
      | else-day-wanted-via-else-day-wanted w ↦ λ x at low same. past day.number x c.args.wanted (omega (arith, day.day_is)) at low same
    ] in
    rw to_z-of_z (in_rest (λ x. day_of_month x ≡ c.args.wanted) day.number c.rest_of_month.result day.in_years c.rest_of_month.ensures.low
    c.rest_of_month.ensures.value none)
