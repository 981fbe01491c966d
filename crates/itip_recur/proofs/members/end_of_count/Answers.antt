use Rattle.std.proofs.Common.{◌≡◌, arith, FitsSigned, w32, to_z, to_z-of_z, pos, ◌+ℤ◌}
use Rattle.std.proofs.lemmas.Int.{ints}
use Rattle.jiff_core.proofs.SignedLemmas.{signed_arith}
use Rattle.itip_moment.specs.declared.day.Day.{Day}
use Rattle.itip_recur.specs.Walk.{IsNoDay, IsNextDay}
use Rattle.itip_recur.specs.Counting.{Counted}
use Rattle.itip_recur.proofs.Counted.{Counted-more, Counted-end, Counted-none}
use Rattle.itip_recur.proofs.members.end_of_count.Goals as goal

pub loop-seen-init : goal.loop-seen-init
loop-seen-init c =
    let start : FitsSigned w32 c.args.start = c.ranges.start in
    let end : FitsSigned w32 c.args.end = c.ranges.end in
    let next : FitsSigned w32 (c.args.start +ℤ pos 1) = omega (arith, signed_arith) in
    let start_is : c.new-walk.result.start.number ≡ c.args.start = simp to_z-of_z at c.new-walk.ensures.start in
    let passed = c.passed_days-passed.result in
    let bounds = rw start_is at c.passed_days-passed.ensures.bounds in
    let counted = rw (c.new-walk.ensures.rule, start_is) at c.passed_days-passed.ensures.counted in
    let unsigned : to_z w32 passed.days ≡ pos passed.days = omega (arith, signed_arith, ints, bounds.1) in
    let day : FitsSigned w32 (c.args.start +ℤ pos 1 +ℤ pos passed.days) = omega (arith, signed_arith, bounds.0, bounds.1) in
    simp (to_z-of_z, unsigned) (record { in_years = bounds; counted = counted })

pub returns-in_default-clause-exact : goal.returns-in_default-clause-exact
returns-in_default-clause-exact c =
    let rule = c.args.rule.now in
    let start : FitsSigned w32 c.args.start = c.ranges.start in
    let end : FitsSigned w32 c.args.end = c.ranges.end in
    let start_is : c.new-walk.result.start.number ≡ c.args.start = simp to_z-of_z at c.new-walk.ensures.start in
    let counted : Counted rule c.args.start c.args.count c.loop-seen.seen (to_z w32 c.loop-seen.day-bits) =
    simp to_z-of_z at c.loop-seen.invariant.counted in
    let none : IsNoDay rule c.args.start (to_z w32 c.loop-seen.day-bits) c.args.end =
    rw (c.new-walk.ensures.rule, start_is) at (simp to_z-of_z at c.in_default.ensures) in
    simp to_z-of_z (Counted-none rule c.args.start c.args.count c.loop-seen.seen (to_z w32 c.loop-seen.day-bits) c.args.end counted none)

pub loop-seen-preserved : goal.loop-seen-preserved
loop-seen-preserved c =
    let rule = c.args.rule.now in
    let start : FitsSigned w32 c.args.start = c.ranges.start in
    let end : FitsSigned w32 c.args.end = c.ranges.end in
    let start_is : c.new-walk.result.start.number ≡ c.args.start = simp to_z-of_z at c.new-walk.ensures.start in
    let counted : Counted rule c.args.start c.args.count c.loop-seen.seen (to_z w32 c.loop-seen.day-bits) =
    simp to_z-of_z at c.loop-seen.invariant.counted in
    let next : IsNextDay rule c.args.start (to_z w32 c.loop-seen.day-bits) c.args.end c.in-Some.found =
    rw (c.new-walk.ensures.rule, start_is) at (simp to_z-of_z at c.in-Some.ensures) in
    let low = next.not_before in
    let high = next.before_end in
    let found : FitsSigned w32 c.in-Some.found = omega (arith, signed_arith) in
    let more : FitsSigned w32 (c.in-Some.found +ℤ pos 1) = omega (arith, signed_arith) in
    let day : Day = record { number = c.in-Some.found; in_years = (omega (arith, signed_arith), omega (arith, signed_arith)) } in
    simp to_z-of_z (record {
      in_years = (omega (arith, signed_arith), omega (arith, signed_arith));
      counted = Counted-more rule c.args.start c.args.count c.loop-seen.seen (to_z w32 c.loop-seen.day-bits) c.args.end day counted next
          c.loop-seen-test.true;
    })

pub returns-clause-exact : goal.returns-clause-exact
returns-clause-exact c =
    let start : FitsSigned w32 c.args.start = c.ranges.start in
    let counted : Counted c.args.rule.now c.args.start c.args.count c.loop-seen.seen (to_z w32 c.loop-seen.day-bits) =
    simp to_z-of_z at c.loop-seen.invariant.counted in
    Counted-end c.args.rule.now c.args.start c.args.count c.loop-seen.seen (to_z w32 c.loop-seen.day-bits) c.args.end counted
    c.loop-seen-test.false
