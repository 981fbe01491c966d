use Rattle.std.proofs.Common.{◌≡◌, List, [], ◌++◌, sym, ◌∙◌, ap, subst, map}
use Rattle.itip_items.specs.declared.item.Item.{Item}
use Rattle.itip_state.specs.Kept.{ArePart}
use Rattle.itip_state.specs.OfUid.{IsUidPart}
use Rattle.itip_state.specs.Order.{IsState}
use Rattle.itip_state.specs.Held.{uid_state_items}
use Rattle.std.specs.List.{Contains}
use Rattle.itip_state.specs.UidStates.{uid_state}
use Rattle.itip_state.proofs.Maps.{held_state}
use Rattle.itip_state.proofs.Members.{none_in}
use Rattle.itip_state.proofs.Reading.{held_part, held_no_part, held_ascends, held_some}
use Rattle.itip_state.proofs.UidParts.{uid_part}
use Rattle.itip_state.proofs.state.State.of_uid.Goals as goal

pub returns-in_default-clause-items : goal.returns-in_default-clause-items
returns-in_default-clause-items c =
    subst (λ (xs : List Item). ArePart c.args.uid.now xs c.args.self.now)
    (sym (ap (λ p. p.items) c.new.ensures ∙ ap (map (λ item. item.now)) c.new-items.ensures.items))
    (subst (λ (v : List Item). ArePart c.args.uid.now [] v) c.self.view_is
    (held_no_part c.self.inside.held c.self.invariant c.args.uid.now (sym c.in_default.ensures.found)))

pub new-requires-2 : goal.new-requires-2
new-requires-2 c =
    let shown : List Item = uid_state_items (uid_state c.in-Some.held.now) in
    let are : shown ≡ map (λ item. item.now) c.show.new.items.items =
    ap (λ xs. map (λ item. item.now) xs ++ shown) (sym c.new-items.ensures.items) ∙ sym c.in_ok-show.ensures in
    subst (λ (xs : List Item). IsUidPart (record { uid = c.args.uid.now; items = xs })) are
    (uid_part c.args.uid.now shown c.args.self.now
    (subst (λ (v : List Item). ArePart c.args.uid.now shown v) c.self.view_is
    (held_part c.self.inside.held c.self.invariant c.args.uid.now (uid_state c.in-Some.held.now) (sym c.in-Some.ensures.found)))
    (held_ascends c.self.inside.held c.self.invariant c.args.uid.now (uid_state c.in-Some.held.now) (sym c.in-Some.ensures.found))
    (subst IsState c.self.view_is (held_state c.self.inside.held c.self.invariant)))

pub returns-clause-items : goal.returns-clause-items
returns-clause-items c =
    let shown : List Item = uid_state_items (uid_state c.in-Some.held.now) in
    let are : shown ≡ c.new-2.result.items = ap (λ xs. map (λ item. item.now) xs ++ shown) (sym c.new-items.ensures.items) ∙
    sym c.in_ok-show.ensures ∙ sym (ap (λ p. p.items) c.new-2.ensures) in
    subst (λ (xs : List Item). ArePart c.args.uid.now xs c.args.self.now) are
    (subst (λ (v : List Item). ArePart c.args.uid.now shown v) c.self.view_is
    (held_part c.self.inside.held c.self.invariant c.args.uid.now (uid_state c.in-Some.held.now) (sym c.in-Some.ensures.found)))

pub returns-in_err-show-clause-succeeds : goal.returns-in_err-show-clause-succeeds
returns-in_err-show-clause-succeeds c = λ none.
    let some = held_some c.self.inside.held c.self.invariant c.args.uid.now (uid_state c.in-Some.held.now)
    (sym c.in-Some.ensures.found) in
    absurd (none_in some.0 ((none some.0).1 (subst (λ (v : List Item). Contains v some.0) c.self.view_is some.1, some.2)))
