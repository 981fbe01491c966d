use Rattle.std.proofs.Common.{◌≡◌, ◌%◌, sym, ◌∙◌, ap}
use Rattle.std.proofs.lemmas.Bool.{eqb-true, eq-eqb}
use Rattle.itip_recur.specs.Calendar.{year_number, month_number}
use Rattle.itip_recur.proofs.month_counts.owns_month.Goals as goal

pub returns-in-Monthly : goal.returns-in-Monthly
returns-in-Monthly c =
    let walk = c.args.walk.now in
    let residue : walk.residue ≡ month_number walk.start.number % walk.rule.now.interval = rw c.in-Monthly.is at walk.residue_is in
    rw (c.in-Monthly.is, sym residue, sym c.month_number.ensures) (eqb-true _ _, eq-eqb _ _)

pub returns-then-first-interval : goal.returns-then-first-interval
returns-then-first-interval c =
    let walk = c.args.walk.now in
    let year = c.args.first.now.year_is in
    let residue : walk.residue ≡ year_number walk.start.number % walk.rule.now.interval = rw c.in-Yearly.is at walk.residue_is in
    rw c.in-Yearly.is (
      λ h. (ap (λ n. n % walk.rule.now.interval) (sym year) ∙ (c.if-first-interval.true ∙ residue), c.is_in_month.ensures.0 h),
      λ own. c.is_in_month.ensures.1 own.1,
    )
