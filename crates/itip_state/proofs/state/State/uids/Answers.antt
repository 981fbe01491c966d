use Rattle.std.proofs.Common.{◌≡◌, ◌∙◌, ℕ, List, sym, subst, map}
use Rattle.std.specs.Map.{keys_of}
use Rattle.itip_items.specs.declared.item.Item.{Item}
use Rattle.itip_state.specs.Kept.{AreUidsOf}
use Rattle.itip_state.specs.Order.{IsState}
use Rattle.itip_state.proofs.Members.{if_ok_then, on_ok_always}
use Rattle.itip_state.proofs.Maps.{held_state}
use Rattle.itip_state.proofs.Nothing.{no_uids}
use Rattle.itip_state.proofs.Ordered.{uids_of}
use Rattle.itip_state.proofs.state.State.uids.Goals as goal

pub returns-clause-uids : goal.returns-clause-uids
returns-clause-uids c =
    if_ok_then (λ uids. map (λ uid. uid.now) uids.items ≡ keys_of c.self.inside.held)
    (λ uids. AreUidsOf (map (λ uid. uid.now) uids.items) c.args.self.now) c.uids.result
    (λ uids e. subst (λ (us : List (List ℕ)). AreUidsOf us c.args.self.now) (sym e)
    (subst (λ (v : List Item). AreUidsOf (keys_of c.self.inside.held) v) c.self.view_is (uids_of c.self.inside.held c.self.invariant)))
    c.uids.ensures.uids

pub returns-clause-state : goal.returns-clause-state
returns-clause-state c = on_ok_always c.uids.result (subst IsState c.self.view_is (held_state c.self.inside.held c.self.invariant))

pub returns-clause-succeeds : goal.returns-clause-succeeds
returns-clause-succeeds c = λ none. c.uids.ensures.succeeds (no_uids (keys_of c.self.inside.held)
    (subst (AreUidsOf (keys_of c.self.inside.held)) (c.self.view_is ∙ none) (uids_of c.self.inside.held c.self.invariant)))
