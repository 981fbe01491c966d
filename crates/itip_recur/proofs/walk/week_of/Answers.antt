use Rattle.std.proofs.Common.{◌≡◌, ◌<◌, ◌==◌, ap, sym, ◌∙◌, arith, FitsSigned, w32, to_z-of_z}
use Rattle.jiff.specs.Words.{monday_zero}
use Rattle.itip_recur.specs.Calendar.{weekday_number}
use Rattle.itip_recur.proofs.NamedDays.{named}
use Rattle.itip_recur.proofs.WeekMasks.{low_bits, one_day, one_day-bound}
use Rattle.itip_recur.proofs.walk.week_of.Goals as goal

pub returns-in-Listed : goal.returns-in-Listed
returns-in-Listed c = rw c.in-Listed.is (record {
  bound = omega arith;
  days = λ x.
      let small : weekday_number x < 7 = omega arith in
      let bits = ap (λ b. b == 1) (low_bits c.args.set (weekday_number x) small) in
      let whole = named monday_zero _ c.args.set (weekday_number x) (rw c.in-Listed.is at c.requires.set) (omega arith) in
      (λ h. whole.0 (sym bits ∙ h), λ p. bits ∙ whole.1 p);
})

pub returns-in-OfStart : goal.returns-in-OfStart
returns-in-OfStart c =
    let start : FitsSigned w32 c.args.start = c.ranges.start in
    let k = c.weekday_number.result in
    let here : k ≡ weekday_number c.args.start = simp to_z-of_z at c.weekday_number.ensures in
    let small : k < 7 = omega (arith, here) in
    rw c.in-OfStart.is (record {
      bound = one_day-bound k small;
      days = λ x. let day = one_day k (weekday_number x) small in (λ h. day.0 h ∙ here, λ same. day.1 (same ∙ sym here));
    })
