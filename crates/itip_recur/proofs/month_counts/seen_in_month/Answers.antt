use Rattle.std.proofs.Common.{◌≡◌, arith, FitsSigned, w32, to_z, to_z-of_z, pos, ◌+ℤ◌, ◌∙◌, ap, sym, subst, slice_index, ℕ, ℤ}
use Rattle.std.proofs.lemmas.Bool.{both_ways}
use Rattle.std.proofs.lemmas.Int.{ints}
use Rattle.jiff_core.proofs.SignedLemmas.{signed_arith}
use Rattle.itip_recur.specs.Calendar.{month_length}
use Rattle.itip_recur.specs.Counting.{Walked}
use Rattle.itip_recur.specs.MonthCounts.{IsFirstOfOwn, month_shape}
use Rattle.itip_recur.proofs.MonthShapes.{none_own, one_met}
use Rattle.itip_recur.proofs.month_counts.seen_in_month.Goals as goal

pub returns-then-not-owns_month-clause-walked : goal.returns-then-not-owns_month-clause-walked
returns-then-not-owns_month-clause-walked c =
    let walk = c.args.walk.now in
    let first = c.args.first.now in
    none_own walk.rule.now walk.start.number first.number first.in_years c.requires.is_first c.requires.by_months (λ own.
    both_ways c.owns_month.result c.if-not-owns_month.true (c.owns_month.ensures.1 own))

pub returns-then-known-clause-walked : goal.returns-then-known-clause-walked
returns-then-known-clause-walked c =
    let walk = c.args.walk.now in
    let first = c.args.first.now in
    let own : IsFirstOfOwn walk.rule.now walk.start.number first.number = record {
      in_years = first.in_years;
      is_first = c.requires.is_first;
      own = c.owns_month.ensures.0 c.if-not-owns_month.false;
    } in
    let at : slice_index c.args.met.now c.shape_of-shape.result ≡ slice_index c.args.met.now (month_shape first.number) =
    ap (λ n. slice_index c.args.met.now n) c.shape_of-shape.ensures.value in
    subst (λ (n : ℕ). Walked walk.rule.now walk.start.number first.number n (first.number +ℤ pos (month_length first.number))) (sym at)
    (c.requires.met first.number own (λ e. c.if-known.true (at ∙ e)))

-- after the walk through a month of a shape that was not met
walked : (c : goal.After-seen_in-seen) → Walked c.args.walk.now.rule.now c.args.walk.now.start.number c.args.first.now.number
    c.seen_in-seen.result (c.args.first.now.number +ℤ pos (month_length c.args.first.now.number))
walked c =
    let first = c.args.first.now in
    let unsigned : to_z w32 first.days_in_month ≡ pos first.days_in_month = omega (arith, ints, first.bounds) in
    let at : FitsSigned w32 first.number = omega (arith, signed_arith, first.in_years) in
    let next : FitsSigned w32 (first.number +ℤ pos first.days_in_month) = omega (arith, signed_arith, first.in_years, first.bounds) in
    let long : first.number +ℤ pos first.days_in_month ≡ first.number +ℤ pos (month_length first.number) =
    omega (arith, signed_arith, first.length_is) in
    subst (λ (z : ℤ). Walked c.args.walk.now.rule.now c.args.walk.now.start.number first.number c.seen_in-seen.result z) long
    (simp (to_z-of_z, unsigned) at c.seen_in-seen.ensures)

pub returns-clause-walked : goal.returns-clause-walked
returns-clause-walked c = walked c

pub returns-clause-met : goal.returns-clause-met
returns-clause-met c =
    let walk = c.args.walk.now in
    let first = c.args.first.now in
    let own : IsFirstOfOwn walk.rule.now walk.start.number first.number = record {
      in_years = first.in_years;
      is_first = c.requires.is_first;
      own = c.owns_month.ensures.0 c.if-not-owns_month.false;
    } in
    rw c.shape_of-shape.ensures.value
    (one_met walk.rule.now walk.start.number first.number c.args.met.now c.seen_in-seen.result own
    (omega (arith, c.shape_of-shape.ensures.value, c.shape_of-shape.ensures.bound)) c.requires.met (walked c))
