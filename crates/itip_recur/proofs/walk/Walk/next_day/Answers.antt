use Rattle.std.proofs.Common.{◌≡◌, ◌⊎◌, ◌≤ℤ◌, ◌<ℤ◌, inl, inr, arith, FitsSigned, w32, to_z-of_z, subst, pos}
use Rattle.jiff_core.proofs.SignedLemmas.{signed_arith}
use Rattle.itip_recur.specs.SelectedDays.{IsSelected}
use Rattle.itip_recur.specs.Walk.{IsNoDay, IsUnitFrom}
use Rattle.itip_recur.specs.Waits.{IsNone, IsFirst}
use Rattle.itip_recur.proofs.Units.{unit_number-small}
use Rattle.itip_recur.proofs.Walks.{IsNoDay-up_to}
use Rattle.itip_recur.proofs.UnitWalks.{passes, finds, in_unit, none_left, closer, starts_before, stop_in_years, goes_on, IsUnitFrom-day}
use Rattle.itip_recur.proofs.UnitWalks.{IsUnitFrom-number, each_unit}
use Rattle.itip_recur.proofs.walk.Walk.next_day.Goals as goal

pub returns-then-has_each_unit : goal.returns-then-has_each_unit
returns-then-has_each_unit c =
    let walk = c.args.self.now in
    let from_fits : FitsSigned w32 c.args.from = c.ranges.from in
    let end_fits : FitsSigned w32 c.args.end = c.ranges.end in
    let one = c.has_each_unit.ensures c.if-has_each_unit.true in
    each_unit walk.rule.now walk.start.number c.args.from c.args.end c.first_from.result one (simp to_z-of_z at c.first_from.ensures)

pub first_selected-requires-clause-before : goal.first_selected-requires-clause-before
first_selected-requires-clause-before c =
    let walk = c.args.self.now in
    let rule = walk.rule.now in
    let start = walk.start.number in
    let unit = c.loop-unit.unit in
    let from_fits : FitsSigned w32 c.args.from = c.ranges.from in
    let end_fits : FitsSigned w32 c.args.end = c.ranges.end in
    let here : IsUnitFrom rule start c.args.from unit.number unit.day = simp to_z-of_z at c.loop-unit.invariant.unit in
    let before_end : unit.day <ℤ c.args.end = omega (arith, signed_arith, c.loop-unit-test.true) in
    let next = c.first_day-next.result in
    let begins = c.first_day-next.ensures in
    let next_fits : FitsSigned w32 next = omega (arith, signed_arith, begins.bounds) in
    let stop = c.earlier-stop.result in
    let one : (stop ≡ next) ⊎ (stop ≡ c.args.end) = simp to_z-of_z at c.earlier-stop.ensures.one in
    let bound : stop ≤ℤ next = simp to_z-of_z at c.earlier-stop.ensures.bound in
    let stop_in = stop_in_years next c.args.end stop begins.bounds c.requires.end_in one in
    let stop_fits : FitsSigned w32 stop = omega (arith, signed_arith, stop_in) in
    rw to_z-of_z (starts_before rule start c.args.from unit.number unit.day next c.args.end stop here begins.before before_end
    c.requires.end_in one)

pub first_selected-requires-clause-in_unit : goal.first_selected-requires-clause-in_unit
first_selected-requires-clause-in_unit c =
    let walk = c.args.self.now in
    let rule = walk.rule.now in
    let start = walk.start.number in
    let unit = c.loop-unit.unit in
    let from_fits : FitsSigned w32 c.args.from = c.ranges.from in
    let end_fits : FitsSigned w32 c.args.end = c.ranges.end in
    let here : IsUnitFrom rule start c.args.from unit.number unit.day = simp to_z-of_z at c.loop-unit.invariant.unit in
    let before_end : unit.day <ℤ c.args.end = omega (arith, signed_arith, c.loop-unit-test.true) in
    let next = c.first_day-next.result in
    let begins = c.first_day-next.ensures in
    let next_fits : FitsSigned w32 next = omega (arith, signed_arith, begins.bounds) in
    let stop = c.earlier-stop.result in
    let one : (stop ≡ next) ⊎ (stop ≡ c.args.end) = simp to_z-of_z at c.earlier-stop.ensures.one in
    let bound : stop ≤ℤ next = simp to_z-of_z at c.earlier-stop.ensures.bound in
    let stop_in = stop_in_years next c.args.end stop begins.bounds c.requires.end_in one in
    let stop_fits : FitsSigned w32 stop = omega (arith, signed_arith, stop_in) in
    rw to_z-of_z (in_unit rule start c.args.from unit.number unit.day next stop here begins.before bound stop_in)

pub returns-in-Some : goal.returns-in-Some
returns-in-Some c =
    let walk = c.args.self.now in
    let rule = walk.rule.now in
    let start = walk.start.number in
    let unit = c.loop-unit.unit in
    let from_fits : FitsSigned w32 c.args.from = c.ranges.from in
    let end_fits : FitsSigned w32 c.args.end = c.ranges.end in
    let here : IsUnitFrom rule start c.args.from unit.number unit.day = simp to_z-of_z at c.loop-unit.invariant.unit in
    let before_end : unit.day <ℤ c.args.end = omega (arith, signed_arith, c.loop-unit-test.true) in
    let next = c.first_day-next.result in
    let begins = c.first_day-next.ensures in
    let next_fits : FitsSigned w32 next = omega (arith, signed_arith, begins.bounds) in
    let stop = c.earlier-stop.result in
    let one : (stop ≡ next) ⊎ (stop ≡ c.args.end) = simp to_z-of_z at c.earlier-stop.ensures.one in
    let bound : stop ≤ℤ next = simp to_z-of_z at c.earlier-stop.ensures.bound in
    let stop_in = stop_in_years next c.args.end stop begins.bounds c.requires.end_in one in
    let stop_fits : FitsSigned w32 stop = omega (arith, signed_arith, stop_in) in
    let other : stop ≤ℤ c.args.end = simp to_z-of_z at c.earlier-stop.ensures.other_bound in
    let is : IsFirst (IsSelected rule.frequency start) unit.day stop c.in-Some.found = simp to_z-of_z at c.in-Some.ensures in
    let found : FitsSigned w32 c.in-Some.found = omega (arith, signed_arith, is.not_before, is.before_stop, here.bounds, stop_in) in
    rw to_z-of_z (finds rule start c.args.from unit.number unit.day next stop here begins.before bound stop_in
    c.args.end c.in-Some.found other is)

pub unit_behind-unit-requires-clause-number : goal.unit_behind-unit-requires-clause-number
unit_behind-unit-requires-clause-number c =
    let walk = c.args.self.now in
    let rule = walk.rule.now in
    let start = walk.start.number in
    let unit = c.loop-unit.unit in
    let from_fits : FitsSigned w32 c.args.from = c.ranges.from in
    let end_fits : FitsSigned w32 c.args.end = c.ranges.end in
    let here : IsUnitFrom rule start c.args.from unit.number unit.day = simp to_z-of_z at c.loop-unit.invariant.unit in
    let before_end : unit.day <ℤ c.args.end = omega (arith, signed_arith, c.loop-unit-test.true) in
    let day_in = IsUnitFrom-day rule start c.args.from unit.number unit.day c.args.end here before_end c.requires.end_in in
    IsUnitFrom-number rule start c.args.from unit.number unit.day here day_in

pub unit_behind-unit-requires-clause-small : goal.unit_behind-unit-requires-clause-small
unit_behind-unit-requires-clause-small c =
    let walk = c.args.self.now in
    let rule = walk.rule.now in
    let start = walk.start.number in
    let unit = c.loop-unit.unit in
    let from_fits : FitsSigned w32 c.args.from = c.ranges.from in
    let end_fits : FitsSigned w32 c.args.end = c.ranges.end in
    let here : IsUnitFrom rule start c.args.from unit.number unit.day = simp to_z-of_z at c.loop-unit.invariant.unit in
    let before_end : unit.day <ℤ c.args.end = omega (arith, signed_arith, c.loop-unit-test.true) in
    let day_in = IsUnitFrom-day rule start c.args.from unit.number unit.day c.args.end here before_end c.requires.end_in in
    let number = IsUnitFrom-number rule start c.args.from unit.number unit.day here day_in in
    omega (arith, number, unit_number-small rule.frequency rule.week_start unit.day day_in)

pub unit_behind-unit-requires-clause-first : goal.unit_behind-unit-requires-clause-first
unit_behind-unit-requires-clause-first c =
    let walk = c.args.self.now in
    let rule = walk.rule.now in
    let start = walk.start.number in
    let unit = c.loop-unit.unit in
    let from_fits : FitsSigned w32 c.args.from = c.ranges.from in
    let end_fits : FitsSigned w32 c.args.end = c.ranges.end in
    let next = c.first_day-next.result in
    let begins = c.first_day-next.ensures in
    let next_fits : FitsSigned w32 next = omega (arith, signed_arith, begins.bounds) in
    rw to_z-of_z begins.before

pub loop-unit-smaller : goal.loop-unit-smaller
loop-unit-smaller c =
    let walk = c.args.self.now in
    let rule = walk.rule.now in
    let start = walk.start.number in
    let unit = c.loop-unit.unit in
    let from_fits : FitsSigned w32 c.args.from = c.ranges.from in
    let end_fits : FitsSigned w32 c.args.end = c.ranges.end in
    let here : IsUnitFrom rule start c.args.from unit.number unit.day = simp to_z-of_z at c.loop-unit.invariant.unit in
    let before_end : unit.day <ℤ c.args.end = omega (arith, signed_arith, c.loop-unit-test.true) in
    let next = c.first_day-next.result in
    let begins = c.first_day-next.ensures in
    let next_fits : FitsSigned w32 next = omega (arith, signed_arith, begins.bounds) in
    let day_in = IsUnitFrom-day rule start c.args.from unit.number unit.day c.args.end here before_end c.requires.end_in in
    let number = IsUnitFrom-number rule start c.args.from unit.number unit.day here day_in in
    let later : unit.day <ℤ next = (begins.before unit.day day_in).1 (omega (arith, number)) in
    let behind = simp to_z-of_z at c.unit_behind-unit.ensures.not_before in
    let bounds = c.unit_behind-unit.ensures.bounds in
    closer (pos 2_932_897) unit.day c.unit_behind-unit.result.day (omega (arith, signed_arith, later, behind)) bounds.1

pub loop-unit-preserved : goal.loop-unit-preserved
loop-unit-preserved c =
    let walk = c.args.self.now in
    let rule = walk.rule.now in
    let start = walk.start.number in
    let unit = c.loop-unit.unit in
    let from_fits : FitsSigned w32 c.args.from = c.ranges.from in
    let end_fits : FitsSigned w32 c.args.end = c.ranges.end in
    let here : IsUnitFrom rule start c.args.from unit.number unit.day = simp to_z-of_z at c.loop-unit.invariant.unit in
    let before_end : unit.day <ℤ c.args.end = omega (arith, signed_arith, c.loop-unit-test.true) in
    let next = c.first_day-next.result in
    let begins = c.first_day-next.ensures in
    let next_fits : FitsSigned w32 next = omega (arith, signed_arith, begins.bounds) in
    let stop = c.earlier-stop.result in
    let one : (stop ≡ next) ⊎ (stop ≡ c.args.end) = simp to_z-of_z at c.earlier-stop.ensures.one in
    let bound : stop ≤ℤ next = simp to_z-of_z at c.earlier-stop.ensures.bound in
    let stop_in = stop_in_years next c.args.end stop begins.bounds c.requires.end_in one in
    let stop_fits : FitsSigned w32 stop = omega (arith, signed_arith, stop_in) in
    let day_in = IsUnitFrom-day rule start c.args.from unit.number unit.day c.args.end here before_end c.requires.end_in in
    let none : IsNone (IsSelected rule.frequency start) unit.day stop = simp to_z-of_z at c.in_default.ensures in
    let passed : IsNoDay rule start c.args.from stop =
    passes rule start c.args.from unit.number unit.day next stop here begins.before bound stop_in none in
    let number = IsUnitFrom-number rule start c.args.from unit.number unit.day here day_in in
    let later : unit.day <ℤ next = (begins.before unit.day day_in).1 (omega (arith, number)) in
    let whole : stop ≡ next = elim one [ inl e ↦ e | inr e ↦ absurd (omega (arith, signed_arith, e, bound, c.if-next-end.false)) ] in
    let to_next : IsNoDay rule start c.args.from next = subst (IsNoDay rule start c.args.from) whole passed in
    let behind : IsUnitFrom rule start next c.unit_behind-unit.result.number c.unit_behind-unit.result.day =
    simp to_z-of_z at c.unit_behind-unit.ensures in
    simp to_z-of_z (record {
      unit =
          goes_on rule start c.args.from next c.unit_behind-unit.result.number c.unit_behind-unit.result.day
          (omega (arith, signed_arith, later, here.not_before)) to_next behind;
    })

pub returns-after-loop-unit : goal.returns-after-loop-unit
returns-after-loop-unit c =
    let walk = c.args.self.now in
    let rule = walk.rule.now in
    let start = walk.start.number in
    let unit = c.loop-unit.unit in
    let from_fits : FitsSigned w32 c.args.from = c.ranges.from in
    let end_fits : FitsSigned w32 c.args.end = c.ranges.end in
    let here : IsUnitFrom rule start c.args.from unit.number unit.day = simp to_z-of_z at c.loop-unit.invariant.unit in
    none_left rule start c.args.from unit.number unit.day c.args.end here (omega (arith, signed_arith, c.loop-unit-test.false))

pub returns-then-next-end : goal.returns-then-next-end
returns-then-next-end c =
    let walk = c.args.self.now in
    let rule = walk.rule.now in
    let start = walk.start.number in
    let unit = c.loop-unit.unit in
    let from_fits : FitsSigned w32 c.args.from = c.ranges.from in
    let end_fits : FitsSigned w32 c.args.end = c.ranges.end in
    let here : IsUnitFrom rule start c.args.from unit.number unit.day = simp to_z-of_z at c.loop-unit.invariant.unit in
    let before_end : unit.day <ℤ c.args.end = omega (arith, signed_arith, c.loop-unit-test.true) in
    let next = c.first_day-next.result in
    let begins = c.first_day-next.ensures in
    let next_fits : FitsSigned w32 next = omega (arith, signed_arith, begins.bounds) in
    let stop = c.earlier-stop.result in
    let one : (stop ≡ next) ⊎ (stop ≡ c.args.end) = simp to_z-of_z at c.earlier-stop.ensures.one in
    let bound : stop ≤ℤ next = simp to_z-of_z at c.earlier-stop.ensures.bound in
    let stop_in = stop_in_years next c.args.end stop begins.bounds c.requires.end_in one in
    let stop_fits : FitsSigned w32 stop = omega (arith, signed_arith, stop_in) in
    let none : IsNone (IsSelected rule.frequency start) unit.day stop = simp to_z-of_z at c.in_default.ensures in
    let passed : IsNoDay rule start c.args.from stop =
    passes rule start c.args.from unit.number unit.day next stop here begins.before bound stop_in none in
    let at_end : c.args.end ≤ℤ stop =
    elim one [ inl e ↦ omega (arith, signed_arith, e, c.if-next-end.true) | inr e ↦ omega (arith, signed_arith, e) ] in
    IsNoDay-up_to rule start c.args.from stop c.args.end passed at_end
