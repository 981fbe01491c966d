use Rattle.std.proofs.Common.{◌≡◌, FitsSigned, w32, to_z-of_z, subst}
use Rattle.itip_moment.specs.declared.moment.Moment.{Moment}
use Rattle.itip_recur.specs.Adding.{IsStart, IsKept, IsStep}
use Rattle.itip_recur.proofs.Adds.{IsStep-like}
use Rattle.itip_recur.proofs.Steps.{kept_is_start}
use Rattle.itip_recur.proofs.listing.add_start.Goals as goal

pub returns-in_ok-clone : goal.returns-in_ok-clone
returns-in_ok-clone c =
    let series = c.args.series.now in
    let from : FitsSigned w32 c.args.from = c.ranges.from in
    let to : FitsSigned w32 c.args.to = c.ranges.to in
    let kept : IsKept series c.args.from c.args.to series.start = simp to_z-of_z at (c.is_kept.ensures.0 c.if-is_kept.true) in
    let copy : c.in_ok-clone.field-0 ≡ series.start = c.in_ok-clone.ensures.cases in
    let step = subst (λ (x : Moment). IsStep c.args.limit (λ m. m ≡ x) c.args.found.now.moments.items c.add.new.self.moments.items
    c.add.result) copy c.add.ensures in
    IsStep-like c.args.limit (λ m. m ≡ series.start) (IsStart series c.args.from c.args.to) c.args.found.now.moments.items
    c.add.new.self.moments.items c.add.result
    (kept_is_start series c.args.from c.args.to (c.is_member.ensures.0 c.if-is_member.true) kept) step
