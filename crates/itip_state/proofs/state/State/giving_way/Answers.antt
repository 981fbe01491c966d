use Rattle.std.proofs.Common.{◌≡◌, List, [], ◌∷◌, ◌++◌, ◌+◌, ◌∙◌, ℕ, ap, sym, subst, map, take, rules, refl}
use Rattle.std.specs.List.Sorted.{IsStrictlySortedBy}
use Rattle.std.specs.Map.{keys_of}
use Rattle.std.proofs.lemmas.List.{take_more, take_all, map-append}
use Rattle.itip_items.specs.declared.item.Item.{Item}
use Rattle.itip_state.specs.Held.{at, items_of}
use Rattle.itip_state.specs.UidStates.{uid_state}
use Rattle.itip_state.specs.Greatest.{AreNotedWith}
use Rattle.itip_state.proofs.Maps.{uid_cmp}
use Rattle.itip_state.proofs.Reading.{held_sound}
use Rattle.itip_state.proofs.Giving.{GivenFor, GivenBelow, given_past, given_more, below_start, below_more, giving_all}
use Rattle.itip_state.proofs.state.State.giving_way.Goals as goal
use Rattle.itip_state.proofs.state.State.giving_way.Goals.{in-Some+in_ok-share_at+in_ok-note_greatest, in_default}

pub share_at-requires : goal.share_at-requires
share_at-requires c = (
  c.uid.result.now,
  (held_sound c.self.inside.held c.self.invariant c.uid.result.now (uid_state c.in-Some.held.now) (sym c.in-Some.ensures.found)).placed,
)

pub loop-item-preserved : goal.loop-item-preserved
loop-item-preserved c =
    let item : Item = c.item-item.result.now in
    let news : List Item = map (λ item. item.now) (take c.loop-item.item-index c.args.news.now) in
    let more : map (λ item. item.now) (take (c.loop-item.item-index + 1) c.args.news.now) ≡ news ++ item ∷ [] =
    ap (map (λ item. item.now)) (take_more c.args.news.now c.loop-item.item-index c.item-item.result c.loop-item-test.true
    ∙ ap (λ x. take c.loop-item.item-index c.args.news.now ++ x ∷ []) (sym c.item-item.is)) ∙
    map-append (λ item. item.now) (take c.loop-item.item-index c.args.news.now) (c.item-item.result ∷ []) in
    let given : GivenFor (items_of c.self.inside.held) news c.loop-item.items.items c.loop-item.greatest =
    subst (λ (set : List Item). GivenFor set news c.loop-item.items.items c.loop-item.greatest)
    (sym c.self.view_is) c.loop-item.invariant in
    subst (λ (set : List Item). GivenFor set (map (λ item. item.now) (take (c.loop-item.item-index + 1) c.args.news.now))
    c.match-get.items.items c.match-get.greatest) c.self.view_is
    (subst (λ (ns : List Item). GivenFor (items_of c.self.inside.held) ns c.match-get.items.items c.match-get.greatest) (sym more)
    (elim c.match-get.branch [
      | in-Some+in_ok-share_at+in_ok-note_greatest w ↦
          given_more c.self.inside.held c.self.invariant news c.loop-item.items.items c.loop-item.greatest item given
          (uid_state w.in-Some.held.now) (ap (at c.self.inside.held) (sym c.uid.ensures) ∙ sym w.in-Some.ensures.found)
          c.match-get.items.items
          (ap (λ v. v.items) w.items-is ∙ w.in_ok-share_at.ensures) c.match-get.greatest
          (subst (AreNotedWith c.loop-item.greatest item) (sym w.greatest-is) w.in_ok-note_greatest.ensures.noted)
          (subst (λ (g : List (List ℕ × ℕ)). IsStrictlySortedBy uid_cmp (keys_of g)) (sym w.greatest-is) w.note_greatest.ensures.sorted)
      | in_default w ↦
          subst (λ v. GivenFor (items_of c.self.inside.held) (news ++ item ∷ []) v.items c.match-get.greatest) (sym w.items-is)
          (subst (λ g. GivenFor (items_of c.self.inside.held) (news ++ item ∷ []) c.loop-item.items.items g) (sym w.greatest-is)
          (given_past c.self.inside.held c.self.invariant news c.loop-item.items.items c.loop-item.greatest item given
          (ap (at c.self.inside.held) (sym c.uid.ensures) ∙ sym w.in_default.ensures.found)))
    ]))

pub loop-uid-init : goal.loop-uid-init
loop-uid-init c =
    let there : c.loop-item.greatest ≡ c.into_iter-uid-iterator.result = search rules in
    below_start c.args.self.now (map (λ item. item.now) c.args.news.now) c.loop-item.items.items c.into_iter-uid-iterator.result
    c.into_iter-uid-iterator.result refl
    (subst (λ (g : List (List ℕ × ℕ)). GivenFor c.args.self.now (map (λ item. item.now) c.args.news.now) c.loop-item.items.items g) there
    (subst (λ xs. GivenFor c.args.self.now (map (λ item. item.now) xs) c.loop-item.items.items c.loop-item.greatest)
    (take_all c.loop-item.item-index c.args.news.now c.loop-item-test.false) c.loop-item.invariant))

pub loop-uid-preserved : goal.loop-uid-preserved
loop-uid-preserved c =
    let news : List Item = map (λ item. item.now) c.args.news.now in
    subst (λ (set : List Item). GivenBelow set news c.share_under.new.items.items c.into_iter-uid-iterator.result c.next.new.self)
    c.self.view_is
    (below_more c.self.inside.held c.self.invariant news c.loop-uid.items.items c.share_under.new.items.items
    c.into_iter-uid-iterator.result
    c.next.new.self c.loop-uid.uid-iterator c.in-Some-2.uid.now c.in-Some-2.sequence.now c.in-Some-2.ensures.steps
    (subst (λ (set : List Item). GivenBelow set news c.loop-uid.items.items c.into_iter-uid-iterator.result c.loop-uid.uid-iterator)
    (sym c.self.view_is) c.loop-uid.invariant) c.in_ok-share_under.ensures)

pub returns : goal.returns
returns c = giving_all c.args.self.now (map (λ item. item.now) c.args.news.now) c.loop-uid.items.items c.into_iter-uid-iterator.result
    c.loop-uid.uid-iterator c.in-None.ensures.steps.0 c.loop-uid.invariant
