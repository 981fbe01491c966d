use Rattle.std.proofs.Common.{◌↔◌, ◌<◌, arith, sym, subst, Option}
use borrow.Author.Tests.{ltb-true}
use Rattle.itip_recur.specs.declared.rule.Rule.{Rule}
use Rattle.itip_recur.specs.Members.{IsRuleMember}
use Rattle.itip_recur.proofs.Steps.{start_in_count}
use Rattle.itip_recur.proofs.listing.is_member.Goals as goal

pub returns-in-Count : goal.returns-in-Count
returns-in-Count c =
    let count = start_in_count c.in-Some.rule c.args.start.now c.in-Count.count c.in-Count.is in
    let member = subst (λ (r : Option Rule). (0 < c.in-Count.count) ↔ IsRuleMember r c.args.start.now c.args.start.now) (sym c.in-Some.is)
    count in (
      λ h. member.0 (omega (arith, ltb-true)),
      λ h. let some = member.1 h in grind arith,
    )
