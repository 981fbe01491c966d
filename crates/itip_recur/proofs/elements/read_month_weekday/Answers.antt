use Rattle.std.proofs.Common.{◌<◌, arith, length}
use Rattle.itip_recur.proofs.Numbers.{IsNthText-of}
use Rattle.itip_recur.proofs.MonthWeekdays.{by_parts}
use Rattle.itip_recur.proofs.elements.read_month_weekday.Goals as goal

pub returns-in_err-read_place-in-len2-up : goal.returns-in_err-read_place-in-len2-up
returns-in_err-read_place-in-len2-up c =
    let long : 2 < length c.args.text.now = omega arith in
    rw c.from_residual-in_err-read_place-in-len2-up.ensures
    (by_parts c.args.text.now long (λ place w parts. c.in_err-read_place-in-len2-up.ensures place parts.place_is))

pub returns-in_err-read_weekday-in-len2-up : goal.returns-in_err-read_weekday-in-len2-up
returns-in_err-read_weekday-in-len2-up c =
    let long : 2 < length c.args.text.now = omega arith in
    rw c.from_residual-in_err-read_weekday-in-len2-up.ensures
    (by_parts c.args.text.now long (λ place w parts. c.in_err-read_weekday-in-len2-up.ensures w parts.letters))

pub returns-in_ok-read_weekday-in-len2-up : goal.returns-in_ok-read_weekday-in-len2-up
returns-in_ok-read_weekday-in-len2-up c =
    IsNthText-of c.args.text.now c.in_ok-read_place-in-len2-up.field-0 c.in_ok-read_weekday-in-len2-up.field-0 (omega arith)
    (record { place_is = c.in_ok-read_place-in-len2-up.ensures; letters = c.in_ok-read_weekday-in-len2-up.ensures })
