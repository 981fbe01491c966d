use Rattle.std.proofs.Common.{FitsSigned, w64, to_z-of_z, refl}
use Rattle.itip_moment.proofs.ShiftLemmas.{day_in_years, years_of_day, day_moved, OnTrue-weaker}
use Rattle.itip_moment.proofs.moment.Moment.shift.Goals as goal

pub returns-in-Date-clause-done : goal.returns-in-Date-clause-done
returns-in-Date-clause-done c =
    let days : FitsSigned w64 c.args.days = c.ranges.days in
    let seconds : FitsSigned w64 c.args.seconds = c.ranges.seconds in
    let done = simp to_z-of_z at c.shift_day.ensures.done in
    rw c.in-Date.is (
      λ ok. record {
        in_years = day_in_years c.in-Date.day.number c.args.days c.args.seconds (done.0 ok).0 (done.0 ok).1;
        whole_days =
            λ e. (done.0 ok).0;
      },
      λ can. done.1 (can.whole_days refl, years_of_day c.in-Date.day.number c.args.days c.args.seconds (can.whole_days refl) can.in_years),
    )

pub returns-in-Date-clause-moved : goal.returns-in-Date-clause-moved
returns-in-Date-clause-moved c =
    let days : FitsSigned w64 c.args.days = c.ranges.days in
    let seconds : FitsSigned w64 c.args.seconds = c.ranges.seconds in
    let done = simp to_z-of_z at c.shift_day.ensures.done in
    let moved = simp to_z-of_z at c.shift_day.ensures.moved in
    rw c.in-Date.is
    (OnTrue-weaker c.shift_day.result (λ ok e. record {
      sum =
          day_moved c.in-Date.day.number c.args.days c.args.seconds c.shift_day.new.day.number (done.0 ok).0 e;
      form = refl;
      zone = refl;
    })
    moved)

pub returns-in-Floating-clause-done : goal.returns-in-Floating-clause-done
returns-in-Floating-clause-done c =
    let days : FitsSigned w64 c.args.days = c.ranges.days in
    let seconds : FitsSigned w64 c.args.seconds = c.ranges.seconds in
    let done = simp to_z-of_z at c.shift_stamp.ensures.done in
    rw c.in-Floating.is (λ ok. record { in_years = done.0 ok; whole_days = λ e. absurd cc }, λ can. done.1 can.in_years)

pub returns-in-Utc-clause-done : goal.returns-in-Utc-clause-done
returns-in-Utc-clause-done c =
    let days : FitsSigned w64 c.args.days = c.ranges.days in
    let seconds : FitsSigned w64 c.args.seconds = c.ranges.seconds in
    let done = simp to_z-of_z at c.shift_stamp-in-Utc.ensures.done in
    rw c.in-Utc.is (λ ok. record { in_years = done.0 ok; whole_days = λ e. absurd cc }, λ can. done.1 can.in_years)

pub returns-in-Zoned-clause-done : goal.returns-in-Zoned-clause-done
returns-in-Zoned-clause-done c =
    let days : FitsSigned w64 c.args.days = c.ranges.days in
    let seconds : FitsSigned w64 c.args.seconds = c.ranges.seconds in
    let done = simp to_z-of_z at c.shift_stamp-in-Zoned.ensures.done in
    rw c.in-Zoned.is (λ ok. record { in_years = done.0 ok; whole_days = λ e. absurd cc }, λ can. done.1 can.in_years)
