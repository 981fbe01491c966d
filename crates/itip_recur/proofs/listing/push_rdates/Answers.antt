use Rattle.std.proofs.Common.{FitsSigned, w32, to_z-of_z, List, subst}
use Rattle.itip_moment.specs.declared.moment.Moment.{Moment}
use Rattle.itip_recur.specs.Adding.{Gains, IsOneOf}
use Rattle.itip_recur.proofs.StepRuns.{list_more, list_end}
use Rattle.itip_recur.proofs.listing.push_rdates.Goals as goal

pub loop-moment-preserved : goal.loop-moment-preserved
loop-moment-preserved c =
    let series = c.args.series.now in
    let items = c.as_slice-moment-items.result.now in
    let from : FitsSigned w32 c.args.from = c.ranges.from in
    let to : FitsSigned w32 c.args.to = c.ranges.to in
    let so_far = simp to_z-of_z at c.loop-moment.invariant.so_far in
    let step = simp to_z-of_z at c.in_ok-push_kept.ensures in
    simp to_z-of_z (record {
      items = c.as_slice-moment-items.ensures;
      so_far = list_more items series c.args.from c.args.to c.loop-moment.moment-index c.args.moments.now.items c.loop-moment.moments.items
          c.push_kept.new.moments.items c.moment-item.result c.loop-moment-test.true c.moment-item.is so_far step;
    })

pub returns : goal.returns
returns c =
    let series = c.args.series.now in
    let items = c.as_slice-moment-items.result.now in
    let from : FitsSigned w32 c.args.from = c.ranges.from in
    let to : FitsSigned w32 c.args.to = c.ranges.to in
    let so_far = simp to_z-of_z at c.loop-moment.invariant.so_far in
    subst (λ (ms : List Moment). Gains (IsOneOf ms series c.args.from c.args.to) c.args.moments.now.items c.loop-moment.moments.items)
    c.as_slice-moment-items.ensures
    (list_end items series c.args.from c.args.to c.loop-moment.moment-index c.args.moments.now.items c.loop-moment.moments.items
    c.loop-moment-test.false so_far)
