use Rattle.std.proofs.Common.{◌≡◌, ◌+◌, ◌-◌, ◌≤◌, arith, FitsSigned, w32, to_z-of_z, pos, ◌+ℤ◌, subst, sym, ℤ, ℕ}
use Rattle.jiff_core.proofs.SignedLemmas.{signed_arith}
use Rattle.itip_recur.specs.declared.rule.Rule.{Rule}
use Rattle.itip_recur.specs.Counting.{Counted, Walked}
use Rattle.itip_recur.proofs.Counted.{Counted-start}
use Rattle.itip_recur.proofs.InMonth.{first_of_next}
use Rattle.itip_recur.proofs.PeriodWalks.{none_passed, Counted-walked}
use Rattle.itip_recur.proofs.month_counts.passed_months.Goals as goal

pub returns-then-next-end-clause-counted : goal.returns-then-next-end-clause-counted
returns-then-next-end-clause-counted c =
    none_passed c.args.walk.now.rule.now c.args.walk.now.start.number c.args.count c.args.walk.now.start.in_years

pub returns-then-more-count-clause-counted : goal.returns-then-more-count-clause-counted
returns-then-more-count-clause-counted c =
    none_passed c.args.walk.now.rule.now c.args.walk.now.start.number c.args.count c.args.walk.now.start.in_years

-- `n` days after the first day that follows the start, and as many days seen as were counted after the start
reached_at : (rule : Rule) (start : ℤ) (count seen : ℕ) (day : ℤ) (n : ℕ) → Counted rule start count seen day → 1 ≤ seen →
    start +ℤ pos 1 +ℤ pos n ≡ day → Counted rule start count (1 + (seen - 1)) (start +ℤ pos 1 +ℤ pos n)
reached_at rule start count seen day n counted low is =
    let same : 1 + (seen - 1) ≡ seen = omega arith in
    subst (λ (z : ℤ). Counted rule start count (1 + (seen - 1)) z) (sym is)
    (subst (λ (m : ℕ). Counted rule start count m day) (sym same) counted)

pub returns-clause-counted : goal.returns-clause-counted
returns-clause-counted c =
    let start_in = c.args.walk.now.start.in_years in
    let start : FitsSigned w32 c.args.walk.now.start.number = omega (arith, signed_arith, start_in) in
    let begin : FitsSigned w32 (c.args.walk.now.start.number +ℤ pos 1) = omega (arith, signed_arith, start_in) in
    let day : FitsSigned w32 c.pass_months-reached.result.day = omega (arith, signed_arith, c.pass_months-reached.ensures.in_years) in
    reached_at _ _ _ _ c.pass_months-reached.result.day c.days_between.result c.pass_months-reached.ensures.counted
    c.pass_months-reached.ensures.low (simp to_z-of_z at c.days_between.ensures)

pub returns-clause-bounds : goal.returns-clause-bounds
returns-clause-bounds c =
    let start_in = c.args.walk.now.start.in_years in
    let start : FitsSigned w32 c.args.walk.now.start.number = omega (arith, signed_arith, start_in) in
    let begin : FitsSigned w32 (c.args.walk.now.start.number +ℤ pos 1) = omega (arith, signed_arith, start_in) in
    let day : FitsSigned w32 c.pass_months-reached.result.day = omega (arith, signed_arith, c.pass_months-reached.ensures.in_years) in
    let is : c.args.walk.now.start.number +ℤ pos 1 +ℤ pos c.days_between.result ≡ c.pass_months-reached.result.day =
    simp to_z-of_z at c.days_between.ensures in
    rw is (c.pass_months-reached.ensures.in_years.0, omega (arith, signed_arith, c.pass_months-reached.ensures.in_years))

pub pass_months-reached-requires-clause-is_first : goal.pass_months-reached-requires-clause-is_first
pass_months-reached-requires-clause-is_first c =
    let start = c.args.walk.now.start in
    let later = c.later.ensures in
    (first_of_next start.number c.later.result.number start.in_years (omega (arith, start.day_is, start.length_is, start.bounds))
    (omega (arith, signed_arith, later, c.rest_of_month-rest.ensures.value))).day

pub pass_months-reached-requires-clause-counted : goal.pass_months-reached-requires-clause-counted
pass_months-reached-requires-clause-counted c =
    let walk = c.args.walk.now in
    let start_in = walk.start.in_years in
    let start : FitsSigned w32 walk.start.number = omega (arith, signed_arith, start_in) in
    let begin : FitsSigned w32 (walk.start.number +ℤ pos 1) = omega (arith, signed_arith, start_in) in
    let rest : FitsSigned w32 c.rest_of_month-rest.result =
    omega (arith, signed_arith, c.rest_of_month-rest.ensures.low, c.rest_of_month-rest.ensures.high) in
    let next : FitsSigned w32 (walk.start.number +ℤ c.rest_of_month-rest.result) =
    omega (arith, signed_arith, start_in, c.rest_of_month-rest.ensures.low, c.rest_of_month-rest.ensures.high) in
    let is : c.later.result.number ≡ walk.start.number +ℤ c.rest_of_month-rest.result = simp to_z-of_z at c.later.ensures in
    let walked : Walked walk.rule.now walk.start.number (walk.start.number +ℤ pos 1) c.seen_in-more.result c.later.result.number =
    rw is (simp to_z-of_z at c.seen_in-more.ensures) in
    Counted-walked walk.rule.now walk.start.number c.args.count 1 c.seen_in-more.result (walk.start.number +ℤ pos 1)
    c.later.result.number (omega (arith, signed_arith, start_in)) (omega (arith, signed_arith, c.later.result.in_years))
    (omega (arith, c.if-more-count.false)) (Counted-start walk.rule.now walk.start.number c.args.count start_in) walked
