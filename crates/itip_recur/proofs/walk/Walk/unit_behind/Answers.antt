use Rattle.std.proofs.Common.{◌≡◌, ◌+◌, arith, FitsSigned, w32, to_z-of_z}
use Rattle.jiff_core.proofs.SignedLemmas.{signed_arith}
use Rattle.itip_recur.specs.Walk.{IsFirstDay}
use Rattle.itip_recur.proofs.UnitWalks.{unit_behind}
use Rattle.itip_recur.proofs.walk.Walk.unit_behind.Goals as goal

pub returns-then-interval-eq1 : goal.returns-then-interval-eq1
returns-then-interval-eq1 c =
    let walk = c.args.self.now in
    let rule = walk.rule.now in
    let unit = c.args.unit in
    let next : FitsSigned w32 c.args.next = c.ranges.next in
    let one : rule.interval ≡ 1 = omega (arith, c.if-interval-eq1.true) in
    let begins : IsFirstDay rule (unit.number + rule.interval) c.args.next = rw one c.requires.first in
    rw to_z-of_z (unit_behind rule walk.start.number unit.day unit.number c.args.next c.args.next c.requires.day_in
    c.requires.number c.requires.congruent (omega arith) c.requires.small c.requires.next_in c.requires.first c.requires.next_in begins)

pub returns-else-interval-eq1 : goal.returns-else-interval-eq1
returns-else-interval-eq1 c =
    let walk = c.args.self.now in
    let rule = walk.rule.now in
    let unit = c.args.unit in
    let first = c.first_day-day.ensures in
    let day : FitsSigned w32 c.first_day-day.result = omega (arith, signed_arith, first.bounds) in
    rw to_z-of_z (unit_behind rule walk.start.number unit.day unit.number c.args.next c.first_day-day.result c.requires.day_in
    c.requires.number c.requires.congruent (omega arith) c.requires.small c.requires.next_in c.requires.first first.bounds first.before)
