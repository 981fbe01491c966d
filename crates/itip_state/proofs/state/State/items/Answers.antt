use Rattle.std.proofs.Common.{sym, subst}
use Rattle.itip_state.specs.Kept.{IsItemsOf}
use Rattle.itip_state.proofs.Nothing.{none_left, nothing_of_none}
use Rattle.itip_state.proofs.state.State.items.Goals as goal

pub returns-in_err-clone-clause-succeeds : goal.returns-in_err-clone-clause-succeeds
returns-in_err-clone-clause-succeeds c = λ none.
    absurd (none_left c.deref-item-items.result.now c.loop-item.item-index c.loop-item-test.true
    (nothing_of_none c.deref-item-items.result.now (subst (IsItemsOf c.deref-item-items.result.now) none
    (subst (λ xs. IsItemsOf xs c.args.self.now) (sym c.deref-item-items.ensures.value) c.in_ok-shared.ensures.items))))

pub returns-in_err-push-clause-succeeds : goal.returns-in_err-push-clause-succeeds
returns-in_err-push-clause-succeeds c = λ none.
    absurd (none_left c.deref-item-items.result.now c.loop-item.item-index c.loop-item-test.true
    (nothing_of_none c.deref-item-items.result.now (subst (IsItemsOf c.deref-item-items.result.now) none
    (subst (λ xs. IsItemsOf xs c.args.self.now) (sym c.deref-item-items.ensures.value) c.in_ok-shared.ensures.items))))
