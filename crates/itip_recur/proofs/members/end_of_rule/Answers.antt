use Rattle.std.proofs.Common.{arith, FitsSigned, w32, to_z-of_z, ℤ, pos, ◌+ℤ◌, subst}
use Rattle.jiff_core.proofs.SignedLemmas.{signed_arith}
use Rattle.itip_moment.specs.Moment.{moment_day}
use Rattle.itip_recur.specs.Walk.{IsEndOfCount}
use Rattle.itip_recur.proofs.Moments.{within_end-Count, day_up_to, moment_day-in_years}
use Rattle.itip_recur.proofs.members.end_of_rule.Goals as goal

pub returns-in-Count-clause-exact : goal.returns-in-Count-clause-exact
returns-in-Count-clause-exact c =
    let rule = c.args.rule.now in
    let end : FitsSigned w32 c.args.end = c.ranges.end in
    let last : FitsSigned w32 c.end_of_count.result = omega (arith, signed_arith) in
    let in_years = moment_day-in_years c.args.start.now in
    let start : FitsSigned w32 c.day.result = omega (arith, signed_arith, c.day.ensures) in
    let by_day : IsEndOfCount rule c.day.result c.in-Count.count c.args.end c.end_of_count.result =
    simp to_z-of_z at c.end_of_count.ensures.exact in
    let ends : IsEndOfCount rule (moment_day c.args.start.now) c.in-Count.count c.args.end c.end_of_count.result =
    subst (λ (z : ℤ). IsEndOfCount rule z c.in-Count.count c.args.end c.end_of_count.result) c.day.ensures by_day in
    simp to_z-of_z (within_end-Count rule c.args.start.now c.in-Count.count c.args.end c.end_of_count.result c.in-Count.is ends)

pub returns-then-day-end-clause-exact : goal.returns-then-day-end-clause-exact
returns-then-day-end-clause-exact c =
    let end : FitsSigned w32 c.args.end = c.ranges.end in
    let in_years = moment_day-in_years c.in-Until.last in
    let day : FitsSigned w32 c.day-then-day-end.result = omega (arith, signed_arith, c.day-then-day-end.ensures) in
    let next : FitsSigned w32 (c.day-then-day-end.result +ℤ pos 1) = omega (arith, signed_arith, c.day-then-day-end.ensures) in
    simp (to_z-of_z, c.in-Until.is) (λ m repeat before. (
      λ within. (let le = day_up_to m c.in-Until.last within in omega (arith, signed_arith, c.day-then-day-end.ensures), within),
      λ h. h.1,
    ))
