use Rattle.std.proofs.Common.{List, ◌++◌, ◌∙◌, sym, ap, subst}
use Rattle.itip_join.proofs.Equal.{on_err_then}
use Rattle.itip_items.specs.declared.item.Item.{Item}
use Rattle.itip_state.specs.Kept.{AreKept}
use Rattle.itip_state.specs.Order.{IsBelow, IsLeastUpperBound}
use Rattle.itip_state.specs.Held.{AreHeld, items_of}
use Rattle.itip_state.proofs.Keeping.{least_upper}
use Rattle.itip_state.proofs.Members.{on_both, on_ok_then}
use Rattle.itip_state.proofs.Maps.{held_state, held_below, joined_held}
use Rattle.itip_state.proofs.state.State.merge.Goals as goal

pub invariant_of-self : goal.invariant_of-self
invariant_of-self c = on_both c.join.result
    (λ j. (joined_held c.self.inside.held c.other.inside.held c.join.new.self c.self.invariant c.other.invariant c.join.ensures.ordered
    j).held)
    (λ same. subst AreHeld (sym same) c.self.invariant)
    c.join.ensures.joined c.join.ensures.err

pub returns-clause-ok : goal.returns-clause-ok
returns-clause-ok c = on_ok_then c.join.result
    (λ j. subst (λ (v : List Item). AreKept (items_of c.join.new.self) (v ++ c.args.other.now)) c.self.view_is
    (subst (λ (v : List Item). AreKept (items_of c.join.new.self) (items_of c.self.inside.held ++ v)) c.other.view_is
    (joined_held c.self.inside.held c.other.inside.held c.join.new.self c.self.invariant c.other.invariant c.join.ensures.ordered j).kept))
    c.join.ensures.joined

pub returns-clause-least : goal.returns-clause-least
returns-clause-least c = on_ok_then c.join.result
    (λ j. subst (λ (v : List Item). IsLeastUpperBound v c.args.other.now (items_of c.join.new.self)) c.self.view_is
    (subst (λ (v : List Item). IsLeastUpperBound (items_of c.self.inside.held) v (items_of c.join.new.self)) c.other.view_is
    (least_upper (items_of c.self.inside.held) (items_of c.other.inside.held) (items_of c.join.new.self)
    (held_state c.self.inside.held c.self.invariant) (held_state c.other.inside.held c.other.invariant)
    (joined_held c.self.inside.held c.other.inside.held c.join.new.self c.self.invariant c.other.invariant c.join.ensures.ordered j).kept)))
    c.join.ensures.joined

pub returns-clause-succeeds : goal.returns-clause-succeeds
returns-clause-succeeds c =
    λ below. c.join.ensures.succeeds (held_below c.other.inside.held c.self.inside.held c.other.invariant c.self.invariant
    (subst (λ (v : List Item). IsBelow v (items_of c.self.inside.held)) (sym c.other.view_is)
    (subst (λ (v : List Item). IsBelow c.args.other.now v) (sym c.self.view_is) below)))

pub returns-clause-err : goal.returns-clause-err
returns-clause-err c = on_err_then c.join.result (λ same. ap items_of same ∙ c.self.view_is) c.join.ensures.err
