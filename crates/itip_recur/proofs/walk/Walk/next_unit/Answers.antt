use Rattle.std.proofs.Common.{◌≡◌, inl, inr, arith, pos, ◌-ℤ◌, FitsSigned, w32, to_z-of_z, sym, ◌∙◌}
use Rattle.std.proofs.lemmas.Bool.{cases_lt}
use Rattle.jiff_core.proofs.SignedLemmas.{signed_arith}
use Rattle.itip_moment.specs.Years.{IsDayNumber}
use Rattle.itip_recur.specs.SelectedDays.{unit_number}
use Rattle.itip_recur.proofs.Units.{unit_number-rises, unit_number-near}
use Rattle.itip_recur.proofs.Walks.{IsNoDay-none}
use Rattle.itip_recur.proofs.walk.Walk.next_unit.Goals as goal

pub returns-then-number-here : goal.returns-then-number-here
returns-then-number-here c =
    let rule = c.args.self.now.rule.now in
    let day_in = c.requires in
    let day_fits : FitsSigned w32 c.args.day = c.ranges.day in
    let unit = unit_number rule.frequency rule.week_start in
    let here : c.unit_number-here.result ≡ unit c.args.day = simp to_z-of_z at c.unit_number-here.ensures.value in
    let next = c.next_congruent-number.ensures in
    simp to_z-of_z (record {
      bounds = (omega (arith, signed_arith, day_in), omega (arith, signed_arith, day_in));
      not_before = omega (arith, signed_arith);
      skipped = IsNoDay-none rule c.args.self.now.start.number c.args.day;
      low = λ x x_in low. let rises = unit_number-rises rule.frequency rule.week_start c.args.day x day_in x_in low in
          omega (arith, here, c.if-number-here.true, rises);
      high = λ first_in. omega (arith, here, c.if-number-here.true);
      small = omega (arith, c.unit_number-here.ensures.bound, next.near);
      congruent = next.congruent ∙ c.args.self.now.residue_is;
    })

pub returns-else-number-here : goal.returns-else-number-here
returns-else-number-here c =
    let rule = c.args.self.now.rule.now in
    let day_in = c.requires in
    let day_fits : FitsSigned w32 c.args.day = c.ranges.day in
    let first_fits : FitsSigned w32 c.first_day-day.result = omega (arith, signed_arith) in
    let unit = unit_number rule.frequency rule.week_start in
    let here : c.unit_number-here.result ≡ unit c.args.day = simp to_z-of_z at c.unit_number-here.ensures.value in
    let next = c.next_congruent-number.ensures in
    rw to_z-of_z (record {
      bounds = c.first_day-day.ensures.bounds;
      not_before = (let later =
          (c.first_day-day.ensures.before c.args.day day_in).1 (omega (arith, here, next.near, next.not_before, c.if-number-here.false)) in
          omega (arith, signed_arith, later));
      skipped = λ x low high in_pattern.
          let x_in : IsDayNumber x = (omega (arith, signed_arith), omega (arith, signed_arith)) in
          let rises = unit_number-rises rule.frequency rule.week_start c.args.day x day_in x_in low in
          let below = (c.first_day-day.ensures.before x x_in).0 high in
          next.skipped (unit x) (omega (arith, here, rises)) below (in_pattern.congruent ∙ sym c.args.self.now.residue_is);
      low = λ x x_in low. elim (cases_lt (unit x) c.next_congruent-number.result) [
        | inl lt ↦ absurd (let before = (c.first_day-day.ensures.before x x_in).1 lt in omega (arith, signed_arith))
        | inr le ↦ le
      ];
      high = λ first_in.
          let later = (c.first_day-day.ensures.before c.args.day day_in).1
          (omega (arith, here, next.near, next.not_before, c.if-number-here.false)) in
          let before_in : IsDayNumber (c.first_day-day.result -ℤ pos 1) =
          (omega (arith, signed_arith, later, day_in), omega (arith, signed_arith, first_in)) in
          let below = (c.first_day-day.ensures.before (c.first_day-day.result -ℤ pos 1) before_in).0 (omega (arith, signed_arith)) in
          let near = unit_number-near rule.frequency rule.week_start (c.first_day-day.result -ℤ pos 1) c.first_day-day.result before_in
          first_in (omega (arith, signed_arith)) in
          omega (arith, below, near);
      small = omega (arith, c.unit_number-here.ensures.bound, next.near);
      congruent = next.congruent ∙ c.args.self.now.residue_is;
    })
