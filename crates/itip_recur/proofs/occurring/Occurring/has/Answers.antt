use Rattle.std.proofs.Common.{◌≡◌, ◌↔◌, IsTrue, true, false, subst}
use Rattle.itip_moment.specs.declared.moment.Moment.{Moment}
use Rattle.itip_recur.specs.declared.series.Series.{Series}
use Rattle.itip_recur.specs.Members.{Occurs}
use Rattle.itip_recur.proofs.AskedDays.{always, not_so, added_occurs, member_occurs}
use Rattle.itip_recur.proofs.occurring.Occurring.has.Goals as goal

pub returns-then-has : goal.returns-then-has
returns-then-has c =
    let series : Series = c.self.inside.series in
    let at : Moment = c.args.at.now in
    subst (λ (s : Series). IsTrue true ↔ Occurs s at) c.self.view_is
    (always (Occurs series at) (added_occurs series at (not_so c.is_excluded.ensures c.if-is_excluded.false)
    ((c.self.invariant.0 at).0 (c.has.ensures.0 c.if-has.true))))

pub returns : goal.returns
returns c =
    let series : Series = c.self.inside.series in
    let at : Moment = c.args.at.now in
    let member = member_occurs series at (not_so c.is_excluded.ensures c.if-is_excluded.false)
    (λ among. not_so c.has.ensures c.if-has.false ((c.self.invariant.0 at).1 among)) in
    let is = c.has_member.ensures in
    subst (λ (s : Series). IsTrue c.has_member.result ↔ Occurs s at) c.self.view_is (λ t. member.0 (is.0 t), λ o. is.1 (member.1 o))
