use Rattle.std.proofs.Common.{◌≡◌, arith, FitsSigned, w32, to_z, to_z-of_z, pos, ◌+ℤ◌, ◌≤ℤ◌, ◌∙◌}
use Rattle.std.proofs.lemmas.Result.{err_from_is_err_and}
use Rattle.jiff_core.proofs.SignedLemmas.{signed_arith}
use Rattle.itip_moment.specs.Moment.{moment_day}
use Rattle.itip_recur.specs.Adding.{Adds}
use Rattle.itip_recur.specs.Walk.{IsNoDay, IsNextDay}
use Rattle.itip_recur.proofs.Adds.{IfTooMany-like}
use Rattle.itip_recur.proofs.Moments.{moment_day-in_years}
use Rattle.itip_recur.proofs.StepRuns.{IsSoFar, walk_none, walk_more, walk_over, walk_end, walk_no_day, before_next}
use Rattle.itip_recur.proofs.listing.add_between.Goals as goal

pub loop-day-init : goal.loop-day-init
loop-day-init c =
    let from : FitsSigned w32 c.args.from = c.ranges.from in
    let end : FitsSigned w32 c.args.end = c.ranges.end in
    simp to_z-of_z (record {
      in_years = c.requires.from_in;
      not_before = omega (arith, signed_arith);
      so_far = walk_none c.args.limit c.args.series.now c.args.rule.now c.args.from c.args.end c.args.found.now.moments.items;
    })

pub add_on_day-requires-clause-before : goal.add_on_day-requires-clause-before
add_on_day-requires-clause-before c =
    let from : FitsSigned w32 c.args.from = c.ranges.from in
    let end : FitsSigned w32 c.args.end = c.ranges.end in
    let at : IsNextDay c.new-walk.result.rule.now c.new-walk.result.start.number (to_z w32 c.loop-day.day-bits) c.args.end c.in-Some.next =
    simp to_z-of_z at c.in-Some.ensures in
    let low = at.not_before in
    let high = at.before_end in
    let next : FitsSigned w32 c.in-Some.next = omega (arith, signed_arith, low, high) in
    let not_before : c.args.from ≤ℤ to_z w32 c.loop-day.day-bits = simp to_z-of_z at c.loop-day.invariant.not_before in
    let so_far : Adds c.args.limit (IsSoFar c.args.series.now c.args.rule.now c.args.from c.args.end (to_z w32 c.loop-day.day-bits))
    c.args.found.now.moments.items c.loop-day.found.moments.items = simp to_z-of_z at c.loop-day.invariant.so_far in
    simp to_z-of_z (before_next c.args.limit c.args.series.now c.args.rule.now c.args.from c.args.end (to_z w32 c.loop-day.day-bits)
    c.in-Some.next c.args.found.now.moments.items c.loop-day.found.moments.items not_before low c.requires.before so_far)

pub returns-in_err-add_on_day : goal.returns-in_err-add_on_day
returns-in_err-add_on_day c =
    let series = c.args.series.now in
    let rule = c.args.rule.now in
    let in_years = moment_day-in_years series.start in
    let from : FitsSigned w32 c.args.from = c.ranges.from in
    let end : FitsSigned w32 c.args.end = c.ranges.end in
    let start : FitsSigned w32 c.day.result = omega (arith, signed_arith, c.day.ensures) in
    let start_is : c.new-walk.result.start.number ≡ moment_day series.start = (simp to_z-of_z at c.new-walk.ensures.start) ∙
    c.day.ensures in
    let found : IsNextDay rule (moment_day series.start) (to_z w32 c.loop-day.day-bits) c.args.end c.in-Some.next =
    rw (c.new-walk.ensures.rule, start_is) at (simp to_z-of_z at c.in-Some.ensures) in
    let low = found.not_before in
    let high = found.before_end in
    let next : FitsSigned w32 c.in-Some.next = omega (arith, signed_arith) in
    let not_before : c.args.from ≤ℤ to_z w32 c.loop-day.day-bits = simp to_z-of_z at c.loop-day.invariant.not_before in
    let so_far = simp to_z-of_z at c.loop-day.invariant.so_far in
    let step = simp to_z-of_z at c.in_err-add_on_day.ensures in
    let p = err_from_is_err_and c.from_residual.result c.from_residual.ensures.1 in
    rw (p.1, p.2) (IfTooMany-like c.in_err-add_on_day.field-0.0
    (walk_over c.args.limit series rule c.args.from c.args.end (to_z w32 c.loop-day.day-bits) c.in-Some.next
    c.args.found.now.moments.items c.loop-day.found.moments.items c.add_on_day.new.found.moments.items c.requires.later not_before
    found so_far) step)

pub loop-day-preserved : goal.loop-day-preserved
loop-day-preserved c =
    let series = c.args.series.now in
    let rule = c.args.rule.now in
    let in_years = moment_day-in_years series.start in
    let from : FitsSigned w32 c.args.from = c.ranges.from in
    let end : FitsSigned w32 c.args.end = c.ranges.end in
    let start : FitsSigned w32 c.day.result = omega (arith, signed_arith, c.day.ensures) in
    let start_is : c.new-walk.result.start.number ≡ moment_day series.start = (simp to_z-of_z at c.new-walk.ensures.start) ∙
    c.day.ensures in
    let found : IsNextDay rule (moment_day series.start) (to_z w32 c.loop-day.day-bits) c.args.end c.in-Some.next =
    rw (c.new-walk.ensures.rule, start_is) at (simp to_z-of_z at c.in-Some.ensures) in
    let low = found.not_before in
    let high = found.before_end in
    let next : FitsSigned w32 c.in-Some.next = omega (arith, signed_arith) in
    let more : FitsSigned w32 (c.in-Some.next +ℤ pos 1) = omega (arith, signed_arith) in
    let not_before : c.args.from ≤ℤ to_z w32 c.loop-day.day-bits = simp to_z-of_z at c.loop-day.invariant.not_before in
    let so_far = simp to_z-of_z at c.loop-day.invariant.so_far in
    let step = simp to_z-of_z at c.in_ok-add_on_day.ensures in
    simp to_z-of_z (record {
      in_years = (omega (arith, signed_arith), omega (arith, signed_arith));
      not_before = omega (arith, signed_arith);
      so_far = walk_more c.args.limit series rule c.args.from c.args.end (to_z w32 c.loop-day.day-bits) c.in-Some.next
          c.args.found.now.moments.items c.loop-day.found.moments.items c.add_on_day.new.found.moments.items c.requires.later not_before
          found so_far step;
    })

pub returns-after-loop-day : goal.returns-after-loop-day
returns-after-loop-day c =
    let from : FitsSigned w32 c.args.from = c.ranges.from in
    let end : FitsSigned w32 c.args.end = c.ranges.end in
    let so_far = simp to_z-of_z at c.loop-day.invariant.so_far in
    walk_end c.args.limit c.args.series.now c.args.rule.now c.args.from c.args.end (to_z w32 c.loop-day.day-bits)
    c.args.found.now.moments.items c.loop-day.found.moments.items (omega (arith, signed_arith)) so_far

pub returns-in_default : goal.returns-in_default
returns-in_default c =
    let series = c.args.series.now in
    let rule = c.args.rule.now in
    let in_years = moment_day-in_years series.start in
    let from : FitsSigned w32 c.args.from = c.ranges.from in
    let end : FitsSigned w32 c.args.end = c.ranges.end in
    let start : FitsSigned w32 c.day.result = omega (arith, signed_arith, c.day.ensures) in
    let start_is : c.new-walk.result.start.number ≡ moment_day series.start = (simp to_z-of_z at c.new-walk.ensures.start) ∙
    c.day.ensures in
    let none : IsNoDay rule (moment_day series.start) (to_z w32 c.loop-day.day-bits) c.args.end =
    rw (c.new-walk.ensures.rule, start_is) at (simp to_z-of_z at c.in_default.ensures) in
    let so_far = simp to_z-of_z at c.loop-day.invariant.so_far in
    walk_no_day c.args.limit series rule c.args.from c.args.end (to_z w32 c.loop-day.day-bits) c.args.found.now.moments.items
    c.loop-day.found.moments.items none so_far
