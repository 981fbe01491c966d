use Rattle.std.proofs.Common.{◌≡◌, ◌∙◌, ◌++◌, ◌∷◌, ◌+◌, List, [], map, take, inl, inr, sym, subst, arith}
use Rattle.std.specs.List.{Contains}
use Rattle.std.specs.Vec.Iter.{into_iter_items}
use Rattle.std.proofs.lemmas.List.{nil_from_length}
use Rattle.std.proofs.lemmas.List.Elements.{Contains-append_left, Contains-push, Contains-push_cases}
use Rattle.itip_items.specs.declared.item.Item.{Item}
use Rattle.itip_state.proofs.Members.{none_in, cons_cases}
use Rattle.itip_desk.proofs.Touching.{seen_more, seen_all}
use Rattle.itip_desk.proofs.indexed.changes_of.Goals as goal

held : (now old : List Item) (x item : Item) → now ≡ old ++ x ∷ [] → Contains old item → Contains now item
held now old x item is h = subst (λ (xs : List Item). Contains xs item) (sym is) (Contains-append_left old (x ∷ []) item h)

new_one : (now old : List Item) (x item : Item) → now ≡ old ++ x ∷ [] → x ≡ item → Contains now item
new_one now old x item is same = subst (λ (xs : List Item). Contains xs item) (sym is)
    (subst (λ (i : Item). Contains (old ++ x ∷ []) i) same (Contains-push old x))

pub loop-item-preserved : goal.loop-item-preserved
loop-item-preserved c = λ item h.
    let now : List Item = map (λ ch. ch.item) c.push_change.new.changes.items in
    let old : List Item = map (λ ch. ch.item) c.loop-item.changes.items in
    let x : Item = c.in-Some.item in
    elim (c.loop-item.invariant item h) [
      | inl there ↦ inl (held now old x item c.in_ok-push_change.ensures there)
      | inr comes ↦ elim (cons_cases x (into_iter_items c.next.new.self) item
          (subst (λ (xs : List Item). Contains xs item) c.in-Some.ensures.steps.0 comes)) [
            | inl here ↦ inl (new_one now old x item c.in_ok-push_change.ensures here)
            | inr later ↦ inr later
          ]
    ]

pub loop-item-2-init : goal.loop-item-2-init
loop-item-2-init c =
    let none : into_iter_items c.loop-item.item-iterator ≡ [] =
    nil_from_length _ (omega (arith, c.in-None.ensures.steps.0, c.loop-item.item-iterator.rest.ok.0)) in
    record {
      giving = λ item h. elim (c.loop-item.invariant item h) [
        | inl there ↦ there
        | inr comes ↦ absurd (none_in item (subst (λ (xs : List Item). Contains xs item) none comes))
      ];
      found = λ item h. absurd (none_in item h);
    }

pub loop-item-2-preserved : goal.loop-item-2-preserved
loop-item-2-preserved c =
    let now : List Item = map (λ ch. ch.item) c.push_change-in-loop-item-2.new.changes.items in
    let old : List Item = map (λ ch. ch.item) c.loop-item-2.changes.items in
    let x : Item = c.in_ok-clone.field-0 in
    let found : List Item = map (λ item. item.now) c.args.found.now in
    let more : take (c.loop-item-2.item-index + 1) found ≡ take c.loop-item-2.item-index found ++ c.item-item.result.now ∷ [] =
    seen_more (λ item. item.now) c.args.found.now c.loop-item-2.item-index c.item-item.result c.loop-item-2-test.true c.item-item.is in
    record {
      giving = λ item h. held now old x item c.in_ok-push_change-2.ensures (c.loop-item-2.invariant.giving item h);
      found = λ item h. elim (Contains-push_cases (take c.loop-item-2.item-index found) c.item-item.result.now item
          (subst (λ (xs : List Item). Contains xs item) more h)) [
            | inl before ↦ held now old x item c.in_ok-push_change-2.ensures (c.loop-item-2.invariant.found item before)
            | inr same ↦ new_one now old x item c.in_ok-push_change-2.ensures (c.in_ok-clone.ensures.cases ∙ same)
          ];
    }

pub returns-clause-found : goal.returns-clause-found
returns-clause-found c = λ item h. c.loop-item-2.invariant.found item (subst (λ (xs : List Item). Contains xs item)
    (sym (seen_all (λ item. item.now) c.args.found.now c.loop-item-2.item-index c.loop-item-2-test.false)) h)
