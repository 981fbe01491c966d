use Rattle.std.proofs.Common.{◌≡◌, ◌+◌, List, [], ◌∷◌, ◌++◌, ℕ, map, take, sym, ◌∙◌, ap, subst}
use Rattle.std.proofs.lemmas.List.{take_more, take_all, map-append}
use Rattle.std.specs.List.{Contains}
use Rattle.itip_items.specs.declared.item.Item.{Item}
use Rattle.itip_state.specs.Kept.{ArePartOf}
use Rattle.itip_state.specs.Held.{UidState, items_of, uid_state_items}
use Rattle.itip_state.specs.UidStates.{uid_state}
use Rattle.itip_state.proofs.Nothing.{none_of_these}
use Rattle.itip_state.proofs.Reading.{held_part, held_no_part, held_sound, held_some}
use Rattle.itip_state.proofs.Sharing.{of_none, of_more, of_no_more}
use Rattle.itip_state.proofs.state.State.shared_of.Goals as goal
use Rattle.itip_state.proofs.state.State.shared_of.Goals.{in-Some+in_ok-share, in_default}

pub share-requires : goal.share-requires
share-requires c = (
  c.uid-item.result.now,
  (held_sound c.self.inside.held c.self.invariant c.uid-item.result.now
      (uid_state c.in-Some.series.now) (sym c.in-Some.ensures.found)).placed,
)

pub loop-uid-init : goal.loop-uid-init
loop-uid-init c = subst (λ (xs : List Item). ArePartOf xs (items_of c.self.inside.held) []) (sym c.new-items.ensures.items)
    (of_none (items_of c.self.inside.held))

pub loop-uid-preserved : goal.loop-uid-preserved
loop-uid-preserved c =
    let set : List Item = items_of c.self.inside.held in
    let i : ℕ = c.loop-uid.uid-index in
    let before : List (List ℕ) = map (λ u. u.now) (take i c.args.uids.now) in
    let now : List (List ℕ) = map (λ u. u.now) (take (i + 1) c.args.uids.now) in
    let more : now ≡ before ++ c.uid-item.result.now ∷ [] =
    ap (map (λ u. u.now)) (take_more c.args.uids.now i c.uid-item.result c.loop-uid-test.true ∙
    ap (λ x. take i c.args.uids.now ++ x ∷ []) (sym c.uid-item.is))
    ∙ map-append (λ u. u.now) (take i c.args.uids.now) (c.uid-item.result ∷ []) in
    elim c.match-get.branch [
      | in-Some+in_ok-share w ↦
          let sh : UidState = uid_state w.in-Some.series.now in
          subst (λ (xs : List Item). ArePartOf xs set now) (sym w.in_ok-share.ensures ∙ ap (λ v. v.items) (sym w.items-is))
          (of_more set c.loop-uid.items.items (uid_state_items sh) before now c.uid-item.result.now more c.loop-uid.invariant
          (held_part c.self.inside.held c.self.invariant c.uid-item.result.now sh (sym w.in-Some.ensures.found)))
      | in_default w ↦
          subst (λ (xs : List Item). ArePartOf xs set now) (ap (λ v. v.items) (sym w.items-is))
          (of_no_more set c.loop-uid.items.items [] before now c.uid-item.result.now more c.loop-uid.invariant
          (held_no_part c.self.inside.held c.self.invariant c.uid-item.result.now (sym w.in_default.ensures.found)))
    ]

pub returns-clause-part : goal.returns-clause-part
returns-clause-part c = subst (λ (v : List Item). ArePartOf c.loop-uid.items.items v (map (λ u. u.now) c.args.uids.now)) c.self.view_is
    (subst (λ us. ArePartOf c.loop-uid.items.items (items_of c.self.inside.held) (map (λ u. u.now) us))
    (take_all c.loop-uid.uid-index c.args.uids.now c.loop-uid-test.false) c.loop-uid.invariant)

pub returns-in_err-share-clause-succeeds : goal.returns-in_err-share-clause-succeeds
returns-in_err-share-clause-succeeds c = λ none.
    let some = held_some c.self.inside.held c.self.invariant c.uid-item.result.now (uid_state c.in-Some.series.now)
    (sym c.in-Some.ensures.found) in
    absurd (none_of_these c.args.self.now (λ uid. uid.now) c.args.uids.now c.loop-uid.uid-index c.uid-item.result c.loop-uid-test.true
    c.uid-item.is none some.0 (subst (λ (v : List Item). Contains v some.0) c.self.view_is some.1) some.2)
