use Rattle.std.proofs.Common.{◌≡◌, ◌↔◌, IsTrue, true, false, sym, subst, Option, Some, None}
use Rattle.itip_moment.specs.declared.moment.Moment.{Moment}
use Rattle.itip_recur.specs.declared.rule.Rule.{Rule}
use Rattle.itip_recur.specs.declared.prepared_rule.PreparedRule.{PreparedRule}
use Rattle.itip_recur.specs.Members.{IsRuleMember}
use Rattle.itip_recur.specs.PreparedRule.{IsPreparedSeries}
use Rattle.itip_recur.proofs.AskedDays.{never, other_member}
use Rattle.itip_recur.proofs.occurring.has_member.Goals as goal

pub returns-then-is_same : goal.returns-then-is_same
returns-then-is_same c =
    subst (λ (m : Moment). IsTrue c.is_member.result ↔ IsRuleMember c.args.rule.now c.args.start.now m)
    (sym (c.is_same.ensures.0 c.if-is_same.true)) c.is_member.ensures

pub returns-in_default : goal.returns-in_default
returns-in_default c =
    subst (λ (r : Option Rule). IsTrue false ↔ IsRuleMember r c.args.start.now c.args.at.now) (sym c.in_default.is)
    (never (c.args.at.now ≡ c.args.start.now) (λ e. let same = c.is_same.ensures.1 e in cc))

pub returns : goal.returns
returns c =
    let start : Moment = c.args.start.now in
    let at : Moment = c.args.at.now in
    let other = other_member c.in-Some.rule start at (λ e. let same = c.is_same.ensures.1 e in cc) in
    let so = c.repeats.ensures in
    subst (λ (r : Option Rule). IsTrue c.repeats.result ↔ IsRuleMember r start at) (sym c.in-Some.is)
    (λ t. other.0 (so.0 t), λ h. so.1 (other.1 h))
