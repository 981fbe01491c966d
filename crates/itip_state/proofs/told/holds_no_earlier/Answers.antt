use Rattle.std.proofs.Common.{◌≡◌, ◌↔◌, ap, sym, subst, ◌∙◌, IsTrue, Some}
use Rattle.itip_join.specs.KeyByKey.{value_at}
use Rattle.itip_items.specs.RevisionOrder.{IsLater}
use Rattle.itip_items.specs.declared.item.Item.{Item}
use Rattle.itip_state.specs.Slots.{slot_cmp}
use Rattle.itip_state.specs.UidStates.{uid_state}
use Rattle.itip_state.proofs.News.{known_holds, entry_holds}
use Rattle.itip_state.proofs.told.holds_no_earlier.Goals as goal

pub returns-in-Known : goal.returns-in-Known
returns-in-Known c =
    let holds = known_holds (uid_state c.args.series.now) c.args.item.now c.in-Known.best c.in-None.ensures c.in-Known.is in
    let test : IsTrue c.is_no_later.result ↔ (¬ IsLater c.args.item.now c.in-Known.best.value) =
    subst (λ (i : Item). IsTrue c.is_no_later.result ↔ (¬ IsLater i c.in-Known.best.value)) c.item.ensures c.is_no_later.ensures in
    (λ t. holds.1 (test.0 t), λ h. test.1 (holds.0 h))

pub returns-in-Some-get : goal.returns-in-Some-get
returns-in-Some-get c =
    let there : value_at slot_cmp c.args.series.now.entries.map c.args.item.now.key ≡ Some c.in-Some-get.best.now =
    sym (ap (value_at slot_cmp c.args.series.now.entries.map) c.in-Some.ensures.0) ∙ sym c.in-Some-get.ensures in
    let holds = entry_holds (uid_state c.args.series.now) c.args.item.now c.in-Some-get.best.now c.in-Some.ensures.1 there in
    let test : IsTrue c.is_no_later-in-Some-get.result ↔ (¬ IsLater c.args.item.now c.in-Some-get.best.now.value) =
    subst (λ (i : Item). IsTrue c.is_no_later-in-Some-get.result ↔ (¬ IsLater i c.in-Some-get.best.now.value)) c.item-in-Some-get.ensures
    c.is_no_later-in-Some-get.ensures in
    (λ t. holds.1 (test.0 t), λ h. test.1 (holds.0 h))
