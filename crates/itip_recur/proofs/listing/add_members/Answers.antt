use Rattle.std.proofs.Common.{FitsSigned, w32, to_z-of_z}
use Rattle.itip_recur.specs.Adding.{IsStart, IsRepeatOf, IsMemberIn}
use Rattle.itip_recur.proofs.Adds.{Adds-like, IsStep-after}
use Rattle.itip_recur.proofs.Steps.{members_of_rule, members_of_none}
use Rattle.itip_recur.proofs.listing.add_members.Goals as goal

pub returns-in-Some : goal.returns-in-Some
returns-in-Some c =
    let series = c.args.series.now in
    let from : FitsSigned w32 c.args.from = c.ranges.from in
    let to : FitsSigned w32 c.args.to = c.ranges.to in
    let first = simp to_z-of_z at c.in_ok-add_start.ensures in
    let step = simp to_z-of_z at c.add_repeats.ensures in
    IsStep-after c.args.limit (IsStart series c.args.from c.args.to) (IsRepeatOf series c.in-Some.rule c.args.from c.args.to)
    (IsMemberIn series c.args.from c.args.to) c.args.found.now.moments.items c.add_start.new.found.moments.items
    c.add_repeats.new.found.moments.items c.add_repeats.result
    (members_of_rule series c.in-Some.rule c.args.from c.args.to c.in-Some.is) first step

pub returns-in-None : goal.returns-in-None
returns-in-None c =
    let series = c.args.series.now in
    let from : FitsSigned w32 c.args.from = c.ranges.from in
    let to : FitsSigned w32 c.args.to = c.ranges.to in
    let first = simp to_z-of_z at c.in_ok-add_start.ensures in
    Adds-like c.args.limit (IsStart series c.args.from c.args.to) (IsMemberIn series c.args.from c.args.to) c.args.found.now.moments.items
    c.add_start.new.found.moments.items (members_of_none series c.args.from c.args.to c.in-None.is) first
