use Rattle.std.proofs.Common.{◌≡◌, arith, FitsSigned, w32, to_z, pos, ◌+ℤ◌, ◌<ℤ◌, subst, ℤ, sym}
use Rattle.std.proofs.lemmas.Int.{ints}
use Rattle.jiff_core.proofs.SignedLemmas.{signed_arith}
use Rattle.itip_recur.specs.Calendar.{month_length}
use Rattle.itip_recur.specs.Counting.{Walked}
use Rattle.itip_recur.proofs.InMonth.{first_of_next}
use Rattle.itip_recur.proofs.MonthShapes.{none_met}
use Rattle.itip_recur.proofs.PeriodWalks.{Counted-walked}
use Rattle.itip_recur.proofs.month_counts.pass_months.Goals as goal

pub loop-seen-init : goal.loop-seen-init
loop-seen-init c =
    let walk = c.args.walk.now in
    record {
      is_first = c.requires.is_first;
      counted = c.requires.counted;
      low = c.requires.low;
      room = c.requires.room;
      are_met = none_met walk.rule.now walk.start.number;
    }

pub seen_in_month-more-requires-clause-next_in : goal.seen_in_month-more-requires-clause-next_in
seen_in_month-more-requires-clause-next_in c =
    let first = c.loop-seen.first in
    let unsigned : to_z w32 first.days_in_month ≡ pos first.days_in_month = omega (arith, ints, first.bounds) in
    let at : FitsSigned w32 first.number = omega (arith, signed_arith, first.in_years) in
    let before : (first.number +ℤ pos first.days_in_month) <ℤ c.args.end =
    omega (arith, signed_arith, unsigned, first.in_years, first.bounds, c.if-first-days.false) in
    (omega (arith, signed_arith, first.in_years), omega (arith, signed_arith, first.length_is, before, c.requires.end_in))

pub loop-seen-preserved : goal.loop-seen-preserved
loop-seen-preserved c =
    let walk = c.args.walk.now in
    let rule = walk.rule.now in
    let start = walk.start.number in
    let first = c.loop-seen.first in
    let inv = c.loop-seen.invariant in
    let unsigned : to_z w32 first.days_in_month ≡ pos first.days_in_month = omega (arith, ints, first.bounds) in
    let end : FitsSigned w32 c.args.end = c.ranges.end in
    let at : FitsSigned w32 first.number = omega (arith, signed_arith, first.in_years) in
    let sum : FitsSigned w32 (first.number +ℤ pos first.days_in_month) = omega (arith, signed_arith, first.in_years, first.bounds) in
    let next : c.later-first.result.number ≡ first.number +ℤ pos (month_length first.number) =
    omega (arith, signed_arith, unsigned, c.later-first.ensures, first.length_is) in
    let next_in = c.later-first.result.in_years in
    let behind = first_of_next first.number c.later-first.result.number first.in_years
    (omega (arith, first.day_is, first.length_is, first.bounds)) (omega (arith, signed_arith, next, inv.is_first)) in
    let walked : Walked rule start first.number c.seen_in_month-more.result c.later-first.result.number =
    subst (λ (z : ℤ). Walked rule start first.number c.seen_in_month-more.result z) (sym next) c.seen_in_month-more.ensures.walked in
    record {
      is_first = behind.day;
      counted = Counted-walked rule start c.args.count c.loop-seen.seen c.seen_in_month-more.result first.number
          c.later-first.result.number (omega (arith, signed_arith, first.in_years)) (omega (arith, signed_arith, next_in))
          (omega (arith, c.if-more-count.false, inv.room)) inv.counted walked;
      low = omega (arith, inv.low);
      room = omega (arith, c.if-more-count.false, inv.room);
      are_met = c.seen_in_month-more.ensures.met;
    }
