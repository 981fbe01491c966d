use Rattle.std.proofs.Common.{◌≡◌, ◌≤ℤ◌, arith, FitsSigned, w32, to_z, to_z-of_z, pos, ◌+ℤ◌}
use Rattle.std.proofs.lemmas.Int.{ints}
use Rattle.jiff_core.proofs.SignedLemmas.{signed_arith}
use Rattle.itip_recur.specs.Counting.{Walked}
use Rattle.itip_recur.proofs.PeriodWalks.{none_passed, all_passed}
use Rattle.itip_recur.proofs.periods.passed_periods.Goals as goal

pub returns-then-count-le1-clause-counted : goal.returns-then-count-le1-clause-counted
returns-then-count-le1-clause-counted c =
    none_passed c.args.walk.now.rule.now c.args.walk.now.start.number c.args.count c.args.walk.now.start.in_years

pub returns-in_default-clause-counted : goal.returns-in_default-clause-counted
returns-in_default-clause-counted c =
    none_passed c.args.walk.now.rule.now c.args.walk.now.start.number c.args.count c.args.walk.now.start.in_years

pub returns-then-days-period-clause-counted : goal.returns-then-days-period-clause-counted
returns-then-days-period-clause-counted c =
    none_passed c.args.walk.now.rule.now c.args.walk.now.start.number c.args.count c.args.walk.now.start.in_years

pub returns-then-seen-eq0-clause-counted : goal.returns-then-seen-eq0-clause-counted
returns-then-seen-eq0-clause-counted c =
    none_passed c.args.walk.now.rule.now c.args.walk.now.start.number c.args.count c.args.walk.now.start.in_years

pub returns-clause-counted : goal.returns-clause-counted
returns-clause-counted c =
    let walk = c.args.walk.now in
    let start_in = walk.start.in_years in
    let start : FitsSigned w32 walk.start.number = omega (arith, signed_arith, start_in) in
    let first : FitsSigned w32 (walk.start.number +ℤ pos 1) = omega (arith, signed_arith, start_in) in
    let end : FitsSigned w32 c.args.end = c.ranges.end in
    let unsigned : to_z w32 c.in-Some.period ≡ pos c.in-Some.period = omega (arith, ints, c.in-Some.ensures.high) in
    let stop : FitsSigned w32 ((walk.start.number +ℤ pos 1) +ℤ pos c.in-Some.period) =
    omega (arith, signed_arith, start_in, c.in-Some.ensures.high) in
    let walked : Walked walk.rule.now walk.start.number (walk.start.number +ℤ pos 1) c.seen_in-seen.result
    ((walk.start.number +ℤ pos 1) +ℤ pos c.in-Some.period) = simp (to_z-of_z, unsigned) at c.seen_in-seen.ensures in
    let high : ((walk.start.number +ℤ pos 1) +ℤ pos c.with_room.result.days) ≤ℤ pos 2_932_897 =
    omega (arith, signed_arith, ints, c.with_room.ensures.days_room, c.if-end-first.false, c.requires.end_in.1) in
    all_passed walk.rule.now walk.start.number c.args.count c.seen_in-seen.result c.in-Some.period _ c.with_room.result.seen
    c.with_room.result.days start_in c.in-Some.ensures.period c.in-Some.ensures.positive walked c.with_room.ensures
    (omega (arith, c.if-count-le1.false)) high
