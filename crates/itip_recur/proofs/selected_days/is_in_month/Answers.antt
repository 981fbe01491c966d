use Rattle.std.proofs.Common.{ℕ, arith}
use Rattle.itip_recur.specs.Calendar.{month_of_year}
use Rattle.itip_recur.proofs.NamedDays.{named}
use Rattle.itip_recur.proofs.selected_days.is_in_month.Goals as goal

pub returns-in-Listed : goal.returns-in-Listed
returns-in-Listed c =
    let day = c.args.day.now in
    rw (c.in-Listed.is, c.has_number.ensures, day.month_is)
    (named (λ (month : ℕ). month) _ c.args.set (month_of_year day.number) (rw c.in-Listed.is at c.requires)
    (omega (arith, day.month_is, day.bounds)))
