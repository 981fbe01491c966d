use Rattle.std.proofs.Common.{◌≡◌, ◌≤◌, ◌↔◌, ℕ, List, ap, map, subst, arith}
use Rattle.std.specs.List.{Contains}
use Rattle.itip_items.specs.declared.item.Item.{Item}
use Rattle.itip_state.specs.Kept.{ArePartOf, IsItemsOf}
use Rattle.itip_state.proofs.Members.{if_ok_then}
use Rattle.itip_desk.specs.Desk.{Shown, CarriesAfter, IsDeltaOf}
use Rattle.itip_desk.specs.MovedSince.{AreUpTo}
use Rattle.itip_desk.proofs.Ticking.{delta_is, nothing_since}
use Rattle.itip_desk.proofs.desk.Desk.delta_since.Goals as goal

-- nothing moved after the tick of the desk
pub returns-then-tick-self-clause-delta : goal.returns-then-tick-self-clause-delta
returns-then-tick-self-clause-delta c =
    let at : c.self.inside.tick ≡ c.args.self.now.tick = ap (λ (d : Shown). d.tick) c.self.view_is in
    let changed : c.self.inside.moves.carried ≡ c.args.self.now.changed = ap (λ (d : Shown). d.changed) c.self.view_is in
    let up : c.args.self.now.tick ≤ c.args.tick = grind arith in
    if_ok_then (λ batch. IsItemsOf batch c.new.result.items) (IsDeltaOf c.args.self.now c.args.tick) c.of_shared.result
    (λ batch is. nothing_since c.args.self.now c.args.tick batch up
    (subst (λ (n : ℕ). AreUpTo n c.args.self.now.changed) at
    (subst (λ (ch : List (List ℕ × ℕ)). AreUpTo c.self.inside.tick ch) changed c.self.invariant.1))
    (subst (IsItemsOf batch) c.new.ensures.items is))
    c.of_shared.ensures.items

pub returns-then-tick-self-clause-succeeds : goal.returns-then-tick-self-clause-succeeds
returns-then-tick-self-clause-succeeds c = λ _. c.of_shared.ensures.succeeds c.new.ensures.items

pub returns-clause-delta : goal.returns-clause-delta
returns-clause-delta c = if_ok_then (λ batch. IsItemsOf batch c.in_ok-shared_of.field-0.items) (IsDeltaOf c.args.self.now c.args.tick)
    c.of_shared-2.result
    (λ batch is. delta_is c.args.self.now c.args.tick c.self.inside.kept c.in_ok-shared_of.field-0.items batch
    (map (λ u. u.now) c.in_ok-uids.uids.items)
    (ap (λ (d : Shown). d.kept) c.self.view_is)
    (λ uid. subst (λ (ch : List (List ℕ × ℕ)). Contains (map (λ u. u.now) c.in_ok-uids.uids.items) uid ↔ CarriesAfter ch c.args.tick uid)
    (ap (λ (d : Shown). d.changed) c.self.view_is)
    (c.in_ok-uids.ensures uid))
    (subst (λ us. ArePartOf c.in_ok-shared_of.field-0.items c.self.inside.kept (map (λ u. u.now) us)) c.deref.ensures.value
    (subst (λ (k : List Item). ArePartOf c.in_ok-shared_of.field-0.items k (map (λ u. u.now) c.deref.result.now)) c.state.ensures
    c.in_ok-shared_of.ensures.part))
    is)
    c.of_shared-2.ensures.items
