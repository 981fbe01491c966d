use Rattle.std.proofs.Common.{◌∙◌, sym, ap, subst, List, take, [], ◌∷◌, ◌++◌}
use Rattle.std.proofs.lemmas.List.{take_more, take_all}
use Rattle.itip_items.specs.declared.item.Item.{Item}
use Rattle.itip_state.specs.Kept.{AreKept}
use Rattle.itip_state.specs.Held.{HoldKept, items_of}
use Rattle.itip_state.proofs.Hearing.{hold_nothing}
use Rattle.itip_state.proofs.Nothing.{none_left}
use Rattle.itip_state.proofs.state.State.of_shared.Goals as goal

pub loop-item-init : goal.loop-item-init
loop-item-init c = rw c.empty-kept.ensures hold_nothing

pub loop-item-preserved : goal.loop-item-preserved
loop-item-preserved c = subst (λ (xs : List Item). HoldKept xs c.hear.new.held)
    (sym (take_more c.args.items.now c.loop-item.item-index c.item-item.result c.loop-item-test.true
    ∙ ap (λ x. take c.loop-item.item-index c.args.items.now ++ x ∷ []) (sym c.item-item.is)))
    (c.in_ok-hear.ensures.kept (take c.loop-item.item-index c.args.items.now) c.loop-item.invariant)

pub invariant_of-result : goal.invariant_of-result
invariant_of-result c = c.loop-item.invariant.held

pub returns-clause-kept : goal.returns-clause-kept
returns-clause-kept c = subst (λ (xs : List Item). AreKept (items_of c.loop-item.kept) xs)
    (take_all c.loop-item.item-index c.args.items.now c.loop-item-test.false) c.loop-item.invariant.kept

pub returns-in_err-hear-clause-succeeds : goal.returns-in_err-hear-clause-succeeds
returns-in_err-hear-clause-succeeds c =
    λ none. absurd (none_left c.args.items.now c.loop-item.item-index c.loop-item-test.true none)
