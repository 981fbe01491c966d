use Rattle.std.proofs.Common.{◌<ℤ◌, ◌+ℤ◌, pos, ◌↔◌, ℤ, arith, FitsSigned, w32, to_z-of_z}
use Rattle.jiff_core.proofs.SignedLemmas.{signed_arith}
use Rattle.itip_moment.specs.Years.{IsDayNumber}
use Rattle.itip_recur.specs.Adding.{IsBetween, IsRepeatOf}
use Rattle.itip_recur.proofs.Adds.{IsStep-like}
use Rattle.itip_recur.proofs.Moments.{moment_day-in_years}
use Rattle.itip_moment.specs.Moment.{moment_day}
use Rattle.itip_recur.proofs.StepRuns.{before_later}
use Rattle.itip_recur.proofs.Steps.{between_is_repeat}
use Rattle.itip_recur.proofs.listing.add_repeats.Goals as goal

pub returns : goal.returns
returns c =
    let series = c.args.series.now in
    let rule = c.args.rule.now in
    let in_years = moment_day-in_years series.start in
    let from : FitsSigned w32 c.args.from = c.ranges.from in
    let to : FitsSigned w32 c.args.to = c.ranges.to in
    let start : FitsSigned w32 c.day-start.result = omega (arith, signed_arith, c.day-start.ensures) in
    let low : FitsSigned w32 c.window_day-2.result = omega (arith, signed_arith) in
    let high : FitsSigned w32 c.window_day.result = omega (arith, signed_arith) in
    let end : FitsSigned w32 c.end_of_days-end.result = omega (arith, signed_arith) in
    let same_from : (x : ℤ) → IsDayNumber x → c.day-start.result <ℤ x → (x <ℤ c.window_day-2.result) ↔ (x <ℤ c.args.from) =
    simp to_z-of_z at c.window_day-2.ensures.same in
    let same_to : (x : ℤ) → IsDayNumber x → c.day-start.result <ℤ x → (x <ℤ c.window_day.result) ↔ (x <ℤ c.args.to) =
    simp to_z-of_z at c.window_day.ensures.same in
    let ends = simp to_z-of_z at c.end_of_days-end.ensures.exact in
    let step = simp to_z-of_z at c.add_between.ensures in
    IsStep-like c.args.limit (IsBetween series rule c.window_day-2.result c.end_of_days-end.result)
    (IsRepeatOf series rule c.args.from c.args.to) c.args.found.now.moments.items c.add_between.new.found.moments.items
    c.add_between.result
    (between_is_repeat series rule c.args.from c.args.to c.window_day-2.result c.window_day.result c.end_of_days-end.result
    (λ x x_in later. same_from x x_in (omega (arith, signed_arith, c.day-start.ensures)))
    (λ x x_in later. same_to x x_in (omega (arith, signed_arith, c.day-start.ensures)))
    ends) step

pub add_between-requires-clause-before : goal.add_between-requires-clause-before
add_between-requires-clause-before c =
    let in_years = moment_day-in_years c.args.series.now.start in
    let start : FitsSigned w32 c.day-start.result = omega (arith, signed_arith, c.day-start.ensures) in
    let low : FitsSigned w32 c.window_day-2.result = omega (arith, signed_arith) in
    let later : c.day-start.result <ℤ c.window_day-2.result = simp to_z-of_z at c.window_day-2.ensures.later in
    simp to_z-of_z (before_later (moment_day c.args.series.now.start +ℤ pos 1) c.window_day-2.result c.args.found.now.moments.items
    (omega (arith, signed_arith, later, c.day-start.ensures)) c.requires)
