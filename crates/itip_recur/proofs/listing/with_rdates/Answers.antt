use Rattle.std.proofs.Common.{◌<◌, ◌≤◌, length, arith, FitsSigned, w32, to_z-of_z}
use Rattle.itip_recur.specs.Adding.{Gains, IsOneOf}
use Rattle.itip_recur.proofs.StepRuns.{grown, outgrown}
use Rattle.itip_recur.proofs.listing.with_rdates.Goals as goal

pub returns-then-len-limit : goal.returns-then-len-limit
returns-then-len-limit c =
    let series = c.args.series.now in
    let from : FitsSigned w32 c.args.from = c.ranges.from in
    let to : FitsSigned w32 c.args.to = c.ranges.to in
    let pushed : Gains (IsOneOf series.rdates series c.args.from c.args.to) c.args.found.moments.items c.push_rdates.new.moments.items =
    simp to_z-of_z at c.in_ok-push_rdates.ensures in
    let many : c.args.limit < length c.in_ok-all.all.moments.items = omega (arith, c.len.ensures) in (
      c.in_ok-all.all.moments.items,
      outgrown c.args.limit (IsOneOf series.rdates series c.args.from c.args.to) c.args.found.moments.items
          c.push_rdates.new.moments.items c.in_ok-all.all.moments.items pushed c.in_ok-all.ensures c.in_ok-all.all.ascending many,
    )

pub returns : goal.returns
returns c =
    let series = c.args.series.now in
    let from : FitsSigned w32 c.args.from = c.ranges.from in
    let to : FitsSigned w32 c.args.to = c.ranges.to in
    let pushed : Gains (IsOneOf series.rdates series c.args.from c.args.to) c.args.found.moments.items c.push_rdates.new.moments.items =
    simp to_z-of_z at c.in_ok-push_rdates.ensures in
    let few : length c.in_ok-all.all.moments.items ≤ c.args.limit = omega (arith, c.len.ensures) in
    grown c.args.limit (IsOneOf series.rdates series c.args.from c.args.to) c.args.found.moments.items c.push_rdates.new.moments.items
    c.in_ok-all.all.moments.items pushed c.in_ok-all.ensures few
