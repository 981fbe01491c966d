use Rattle.std.proofs.Common.{◌≡◌, arith, FitsSigned, w32, to_z-of_z}
use Rattle.jiff.specs.Words.{monday_zero}
use Rattle.itip_recur.specs.Calendar.{weekday_number}
use Rattle.itip_recur.proofs.NamedDays.{named}
use Rattle.itip_recur.proofs.selected_days.is_week_day.Goals as goal

pub returns-in-Listed : goal.returns-in-Listed
returns-in-Listed c =
    let day : FitsSigned w32 c.args.day = c.ranges.day in
    let here : c.weekday_number-weekday.result ≡ weekday_number c.args.day = simp to_z-of_z at c.weekday_number-weekday.ensures in
    rw (c.in-Listed.is, c.has_number.ensures, here)
    (named monday_zero _ c.args.set (weekday_number c.args.day) (rw c.in-Listed.is at c.requires.set) (omega arith))
