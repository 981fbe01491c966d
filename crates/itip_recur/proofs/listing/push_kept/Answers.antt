use Rattle.std.proofs.Common.{◌≡◌, ◌++◌, ◌∷◌, [], FitsSigned, w32, to_z-of_z, subst}
use Rattle.itip_moment.specs.declared.moment.Moment.{Moment}
use Rattle.itip_recur.specs.Adding.{IsKept, IsThis}
use Rattle.itip_recur.proofs.Adds.{Gains-push, Gains-like}
use Rattle.itip_recur.proofs.Steps.{kept_is_this}
use Rattle.itip_recur.proofs.listing.push_kept.Goals as goal

pub returns-in_ok-push : goal.returns-in_ok-push
returns-in_ok-push c =
    let series = c.args.series.now in
    let moment = c.args.moment.now in
    let from : FitsSigned w32 c.args.from = c.ranges.from in
    let to : FitsSigned w32 c.args.to = c.ranges.to in
    let kept : IsKept series c.args.from c.args.to moment = simp to_z-of_z at (c.is_kept.ensures.0 c.if-is_kept.true) in
    let copy : c.in_ok-clone.field-0 ≡ moment = c.in_ok-clone.ensures.cases in
    let is : c.push.new.self.items ≡ c.args.moments.now.items ++ moment ∷ [] =
    subst (λ (x : Moment). c.push.new.self.items ≡ c.args.moments.now.items ++ x ∷ []) copy c.in_ok-push.ensures.items in
    Gains-like (λ m. m ≡ moment) (IsThis series c.args.from c.args.to moment) c.args.moments.now.items c.push.new.self.items
    (kept_is_this series c.args.from c.args.to moment kept) (Gains-push c.args.moments.now.items c.push.new.self.items moment is)
