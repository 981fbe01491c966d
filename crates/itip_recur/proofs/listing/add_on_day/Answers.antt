use Rattle.std.proofs.Common.{◌≡◌, FitsSigned, w32, to_z-of_z}
use Rattle.itip_moment.specs.declared.moment.Moment.{Moment}
use Rattle.itip_moment.specs.Moment.{moment_day}
use Rattle.itip_recur.specs.Adding.{IsOnDay}
use Rattle.itip_recur.proofs.Adds.{Adds-none, IsStep-like}
use Rattle.itip_recur.proofs.Steps.{is_on_day, none_on_day, excluded_on_day}
use Rattle.itip_recur.proofs.listing.add_on_day.Goals.{else-is_up_to-via-then-is_up_to+else-not-is_excluded}
use Rattle.itip_recur.proofs.listing.add_on_day.Goals.{else-is_up_to-via-else-is_up_to}
use Rattle.itip_recur.proofs.listing.add_on_day.Goals as goal

pub returns-then-not-is_excluded : goal.returns-then-not-is_excluded
returns-then-not-is_excluded c =
    let moment = c.in_ok-moment.moment in
    let day : FitsSigned w32 c.args.day = c.ranges.day in
    let is : moment_day moment ≡ c.args.day = simp to_z-of_z at c.in_ok-moment.ensures.day in
    IsStep-like c.args.limit (λ m. m ≡ moment) (IsOnDay c.args.series.now c.args.rule.now c.args.day) c.args.found.now.moments.items
    c.add.new.self.moments.items c.add.result
    (is_on_day c.args.series.now c.args.rule.now c.args.day moment c.in_ok-moment.ensures.time is (c.is_up_to.ensures.0 c.if-is_up_to.true)
    (λ among. let excluded = c.is_excluded.ensures.1 among in cc)) c.add.ensures

pub returns-else-is_up_to : goal.returns-else-is_up_to
returns-else-is_up_to c =
    let series = c.args.series.now in
    let rule = c.args.rule.now in
    let moment = c.in_ok-moment.moment in
    let day : FitsSigned w32 c.args.day = c.ranges.day in
    let is : moment_day moment ≡ c.args.day = simp to_z-of_z at c.in_ok-moment.ensures.day in
    let none : (m : Moment) → IsOnDay series rule c.args.day m → ⊥ =
    elim c.else-is_up_to.branch [
      | else-is_up_to-via-then-is_up_to+else-not-is_excluded w ↦ excluded_on_day series rule c.args.day moment c.in_ok-moment.ensures.time
          is (w.is_excluded.ensures.0 cc)
      | else-is_up_to-via-else-is_up_to w ↦ none_on_day series rule c.args.day moment c.in_ok-moment.ensures.time is (λ up. let is_true =
          c.is_up_to.ensures.1 up in cc)
    ] in
    Adds-none c.args.limit (IsOnDay series rule c.args.day) c.args.found.now.moments.items none
