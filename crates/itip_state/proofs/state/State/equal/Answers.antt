use Rattle.std.proofs.Common.{◌≡◌, List, sym, ◌∙◌, subst, true, false}
use Rattle.itip_items.specs.declared.item.Item.{Item}
use Rattle.itip_state.specs.Kept.{SameItems}
use Rattle.itip_state.specs.Held.{items_of}
use Rattle.itip_state.proofs.Maps.{same_held, below_same}
use Rattle.itip_state.proofs.state.State.equal.Goals as goal

pub returns-then-below : goal.returns-then-below
returns-then-below c = (
  λ t. subst (λ (v : List Item). SameItems v c.args.other.now) c.self.view_is
      (subst (λ (v : List Item). SameItems (items_of c.self.inside.held) v) c.other.view_is
      (same_held c.self.inside.held c.other.inside.held c.self.invariant c.other.invariant (c.below.ensures.0 c.if-below.true)
      (c.below-then-below.ensures.0 t))),
  λ same. c.below-then-below.ensures.1 (below_same c.other.inside.held c.self.inside.held c.other.invariant c.self.invariant
      (subst (λ (v : List Item). SameItems v (items_of c.self.inside.held)) (sym c.other.view_is)
      (subst (λ (v : List Item). SameItems c.args.other.now v) (sym c.self.view_is) (λ item. ((same item).1, (same item).0))))),
)

pub returns-else-below : goal.returns-else-below
returns-else-below c = (
  λ t. let x : true ≡ false = sym t ∙ c.if-below.false in absurd (cc),
  λ same. c.below.ensures.1 (below_same c.self.inside.held c.other.inside.held c.self.invariant c.other.invariant
      (subst (λ (v : List Item). SameItems v (items_of c.other.inside.held)) (sym c.self.view_is)
      (subst (λ (v : List Item). SameItems c.args.self.now v) (sym c.other.view_is) same))),
)
