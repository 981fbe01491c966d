use Rattle.std.proofs.Common.{◌≡◌, ◌+◌, arith, FitsSigned, w32, to_z, to_z-of_z, pos, ◌+ℤ◌}
use Rattle.std.proofs.lemmas.Int.{ints}
use Rattle.jiff_core.proofs.SignedLemmas.{signed_arith}
use Rattle.itip_recur.specs.SelectedDays.{IsOnWeekday}
use Rattle.itip_recur.specs.Waits.{IsNone}
use Rattle.itip_recur.proofs.WaitDays.{no_nth}
use Rattle.itip_recur.proofs.waits.wait_for_nth.Goals as goal

pub returns-clause-none : goal.returns-clause-none
returns-clause-none c =
    let day = c.args.day.now in
    let k = c.before_seven-before.result in
    let at : FitsSigned w32 day.number = omega (arith, signed_arith, day.in_years) in
    let wait : FitsSigned w32 c.wait_for_weekday.result = omega (arith, signed_arith) in
    let unsigned : to_z w32 k ≡ pos k = omega (arith, ints) in
    let all : FitsSigned w32 (pos k +ℤ c.wait_for_weekday.result) = omega (arith, signed_arith) in
    let behind : IsNone (IsOnWeekday c.args.weekday) (day.number +ℤ pos (1 + k)) (day.number +ℤ pos k +ℤ c.wait_for_weekday.result) =
    simp to_z-of_z at c.wait_for_weekday.ensures.none in
    rw unsigned (simp to_z-of_z (no_nth c.args.place c.args.weekday day.number c.wait_for_weekday.result k
    c.before_seven-before.ensures.none behind))
