use Rattle.std.proofs.Common.{◌≤◌, ◌+◌, ◌-◌, ◌∙◌, sym, inl, inr, arith}
use Rattle.itip_recur.specs.Calendar.{day_of_month, month_length}
use Rattle.itip_recur.proofs.WaitDays.{not_in_seven}
use Rattle.itip_recur.proofs.waits.before_seven.Goals as goal

pub returns-then-here-end-clause-none : goal.returns-then-here-end-clause-none
returns-then-here-end-clause-none c =
    let day = c.args.day.now in
    let seven = c.seven_in-before.result in
    let k = c.saturating_sub.result in
    let within : day_of_month day.number + k ≤ month_length day.number =
    omega (arith, day.day_is, day.length_is, day.bounds, c.saturating_sub.ensures, c.if-before-last.true) in
    not_in_seven c.args.place day.number seven.0 seven.1 k day.in_years within
    (λ x same. c.seven_in-before.ensures x (same ∙ sym day.length_is))
    (λ m after until low high. omega (arith, day.day_is, c.saturating_sub.ensures, after, until, low))

pub returns-else-before-last-clause-none : goal.returns-else-before-last-clause-none
returns-else-before-last-clause-none c =
    let day = c.args.day.now in
    let seven = c.seven_in-before.result in
    let k = day.days_in_month - day.day in
    let within : day_of_month day.number + k ≤ month_length day.number = omega (arith, day.day_is, day.length_is, day.bounds) in
    not_in_seven c.args.place day.number seven.0 seven.1 k day.in_years within
    (λ x same. c.seven_in-before.ensures x (same ∙ sym day.length_is))
    (λ m after until low high. elim c.else-before-last.either [
      | inl e ↦ omega (arith, day.day_is, e.1, after, high)
      | inr e ↦ omega (arith, day.day_is, day.bounds, e, until, low)
    ])
