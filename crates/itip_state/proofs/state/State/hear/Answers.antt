use Rattle.std.proofs.Common.{List, ◌++◌, ◌∙◌, sym, ap, subst, map}
use Rattle.itip_join.proofs.Equal.{on_err_then}
use Rattle.itip_items.specs.declared.item.Item.{Item}
use Rattle.itip_state.specs.Kept.{AreKept}
use Rattle.itip_state.specs.Order.{IsBelow}
use Rattle.itip_state.specs.Held.{AreHeld, items_of}
use Rattle.itip_state.proofs.Members.{on_both, on_ok_then}
use Rattle.itip_state.proofs.Maps.{held_state}
use Rattle.itip_state.proofs.Nothing.{below_outdone}
use Rattle.itip_state.proofs.state.State.hear.Goals as goal

pub invariant_of-self : goal.invariant_of-self
invariant_of-self c = on_both c.hear_all.result
    (λ kept. (kept (items_of c.self.inside.held)
    (record { held = c.self.invariant; kept = held_state c.self.inside.held c.self.invariant })).held)
    (λ same. subst AreHeld (sym same) c.self.invariant)
    c.hear_all.ensures.ok c.hear_all.ensures.err

pub returns-clause-ok : goal.returns-clause-ok
returns-clause-ok c = on_ok_then c.hear_all.result
    (λ kept. subst (λ (v : List Item). AreKept (items_of c.hear_all.new.held) (v ++ map (λ item. item.now) c.args.items.now)) c.self.view_is
    (kept (items_of c.self.inside.held) (record { held = c.self.invariant; kept = held_state c.self.inside.held c.self.invariant })).kept)
    c.hear_all.ensures.ok

pub returns-clause-err : goal.returns-clause-err
returns-clause-err c = on_err_then c.hear_all.result (λ same. ap items_of same ∙ c.self.view_is) c.hear_all.ensures.err

pub returns-clause-succeeds : goal.returns-clause-succeeds
returns-clause-succeeds c = λ below.
    let items : List Item = map (λ item. item.now) c.args.items.now in
    c.hear_all.ensures.succeeds c.self.invariant (below_outdone (items_of c.self.inside.held) items
    (subst (λ (v : List Item). IsBelow items v) (sym c.self.view_is) below))
