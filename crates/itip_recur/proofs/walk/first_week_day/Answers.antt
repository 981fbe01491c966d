use Rattle.std.proofs.Common.{◌≡◌, ◌↔◌, ◌<◌, arith, FitsSigned, w32, to_z, to_z-of_z, IsTrue, ℤ, pos, ◌+ℤ◌, ◌-ℤ◌, ◌<ℤ◌}
use Rattle.std.proofs.lemmas.Int.{ints}
use Rattle.jiff_core.proofs.SignedLemmas.{signed_arith}
use Rattle.itip_recur.specs.Calendar.{weekday_number}
use Rattle.itip_recur.specs.SelectedDays.{IsWeekDay}
use Rattle.itip_recur.specs.Sets.{has_number}
use Rattle.itip_recur.proofs.WeekMasks.{none_in_week, first_in_week}
use Rattle.itip_recur.proofs.walk.first_week_day.Goals as goal
use Rattle.itip_recur.proofs.walk.first_week_day.Goals.{else-wait-lt7-via-then-wait-lt7+else-wait-stop, else-wait-lt7-via-else-wait-lt7}

pub returns-then-wait-stop : goal.returns-then-wait-stop
returns-then-wait-stop c =
    let P = IsWeekDay c.args.days.now c.args.start in
    let start : FitsSigned w32 c.args.start = c.ranges.start in
    let from : FitsSigned w32 c.args.from = c.ranges.from in
    let stop : FitsSigned w32 c.args.stop = c.ranges.stop in
    let week = c.week_of.result in
    let t = c.wait_in_week-wait.result in
    let wait = c.wait_in_week-wait.ensures in
    let unsigned : to_z w32 t ≡ pos t = omega (arith, ints, wait.bound) in
    let here : c.weekday_number.result ≡ weekday_number c.args.from = simp to_z-of_z at c.weekday_number.ensures in
    let days : (x : ℤ) → IsTrue (has_number week (weekday_number x)) ↔ P x = simp to_z-of_z at c.week_of.ensures.days in
    let left : FitsSigned w32 (c.args.stop -ℤ c.args.from) = omega (arith, signed_arith, c.requires.from_in, c.requires.stop_in) in
    let test = simp to_z-of_z at c.if-wait-stop.true in
    let few : t < 7 = omega (arith, signed_arith, unsigned, c.if-wait-lt7.true) in
    let before : (c.args.from +ℤ pos t) <ℤ c.args.stop = omega (arith, signed_arith, unsigned, test) in
    let found : FitsSigned w32 (c.args.from +ℤ pos t) = omega (arith, signed_arith, before) in
    rw unsigned (simp to_z-of_z (first_in_week P week c.weekday_number.result t c.args.from c.requires.from_in here days wait.none
    c.args.stop before (wait.found few)))

pub returns-else-wait-lt7 : goal.returns-else-wait-lt7
returns-else-wait-lt7 c =
    let P = IsWeekDay c.args.days.now c.args.start in
    let start : FitsSigned w32 c.args.start = c.ranges.start in
    let from : FitsSigned w32 c.args.from = c.ranges.from in
    let stop : FitsSigned w32 c.args.stop = c.ranges.stop in
    let week = c.week_of.result in
    let t = c.wait_in_week-wait.result in
    let wait = c.wait_in_week-wait.ensures in
    let unsigned : to_z w32 t ≡ pos t = omega (arith, ints, wait.bound) in
    let here : c.weekday_number.result ≡ weekday_number c.args.from = simp to_z-of_z at c.weekday_number.ensures in
    let days : (x : ℤ) → IsTrue (has_number week (weekday_number x)) ↔ P x = simp to_z-of_z at c.week_of.ensures.days in
    let left : FitsSigned w32 (c.args.stop -ℤ c.args.from) = omega (arith, signed_arith, c.requires.from_in, c.requires.stop_in) in
    none_in_week P week c.weekday_number.result t c.args.from c.requires.from_in here days wait.none c.args.stop
    (λ lt. elim c.else-wait-lt7.branch [
      | else-wait-lt7-via-then-wait-lt7+else-wait-stop w ↦
          let test = simp to_z-of_z at w.if-wait-stop.false in omega (arith, signed_arith, unsigned, test)
      | else-wait-lt7-via-else-wait-lt7 w ↦ absurd (omega (arith, signed_arith, unsigned, w.if-wait-lt7.false, lt))
    ])
