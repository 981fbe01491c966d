use Rattle.std.proofs.Common.{◌≡◌, ◌∙◌, List, sym, subst, ap, true, false}
use Rattle.std.specs.List.{Contains}
use Rattle.itip_items.specs.declared.item.Item.{Item}
use Rattle.itip_state.specs.Held.{at}
use Rattle.itip_state.specs.UidStates.{uid_state}
use Rattle.itip_state.proofs.Giving.{kept_iff, not_kept}
use Rattle.itip_state.proofs.state.State.has.Goals as goal

pub returns-in-None : goal.returns-in-None
returns-in-None c = (
  λ t. let f : true ≡ false = sym t in absurd (cc),
  λ there. absurd (not_kept c.self.inside.held c.self.invariant c.args.item.now
      (ap (at c.self.inside.held) (sym c.uid.ensures) ∙ sym c.in-None.ensures.found)
      (subst (λ (xs : List Item). Contains xs c.args.item.now) (sym c.self.view_is) there)),
)

pub returns-in-Some : goal.returns-in-Some
returns-in-Some c =
    let both = kept_iff c.self.inside.held c.self.invariant c.args.item.now (uid_state c.in-Some.held.now)
    (ap (at c.self.inside.held) (sym c.uid.ensures) ∙ sym c.in-Some.ensures.found) in (
      λ t. subst (λ (xs : List Item). Contains xs c.args.item.now) c.self.view_is (both.0 (c.holds.ensures.0 t)),
      λ there. c.holds.ensures.1 (both.1 (subst (λ (xs : List Item). Contains xs c.args.item.now) (sym c.self.view_is) there)),
    )
