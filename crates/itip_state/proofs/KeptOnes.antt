-- The test of an item says whether it is kept.
use Rattle.std.proofs.Common.{◌≡◌, List, [], ◌∷◌, ◌++◌, refl, sym, ◌∙◌, ap, subst, inl, inr, Bool, true, false, not, ◌&&◌, ◌||◌, arith, ◌↔◌}
use Rattle.std.proofs.Common.{IsTrue}
use Rattle.std.specs.List.{Contains, AllPairs, list_any}
use Rattle.std.specs.Ordering.{is_eq, is_gt, eq_by_cmp}
use Rattle.std.proofs.lemmas.Map.Lookups.{exact_bytes, CmpEqualImpliesEq}
use Rattle.std.proofs.lemmas.Map.Views.{tells_apart}
use Rattle.itip_items.specs.OctetOrder.{octets_cmp, octets_total}
use Rattle.itip_items.proofs.SameItem.{same_item}
use Rattle.std.specs.Cmp.{Equal-is, tied_itself}
use Rattle.std.specs.declared.cmp.Ordering.{Ordering}
use Rattle.std.specs.declared.cmp.Ordering.TheVariants.{Less, Equal, Greater}
use Rattle.std.proofs.lemmas.List.Elements.{Contains-append_left, Contains-push, Contains-push_cases, Contains-get_or}
use Rattle.std.proofs.lemmas.List.Quantifiers.{all_pairs_push}
use Rattle.itip_items.specs.RevisionOrder.{revision_cmp, IsLater}
use Rattle.itip_items.specs.declared.item.Item.{Item}
use Rattle.itip_state.specs.Kept.{IsKept, AreKept}
use Rattle.itip_state.specs.Slots.{slot_cmp, slot_total, slot_exact}
use Rattle.itip_state.specs.Held.{is_series, is_below}
use Rattle.itip_state.specs.Plain.{outdates, kills, keeps}
use Rattle.itip_state.proofs.Members.{by_bool, cons_cases, cons_first, cons_later}
use Rattle.itip_state.proofs.Tests.{both, dead_below, below_dead}

-- ---- some item passes a test
any_found : (p : Item → Bool) (xs : List Item) → list_any p xs ≡ true → (x : Item) × Contains xs x × (p x ≡ true)
any_found p [] e = let x : false ≡ true = e in absurd (cc)
any_found p (x ∷ xs) e = by_bool (p x) ((y : Item) × Contains (x ∷ xs) y × (p y ≡ true))
    (λ k. (x, cons_first x xs, k))
    (λ k. let r = any_found p xs (sym (ap (λ b. b || list_any p xs) k) ∙ e) in (r.0, cons_later x xs r.0 r.1, r.2))

or_right : (a b : Bool) → b ≡ true → (a || b) ≡ true
or_right true b e = refl
or_right false b e = e

any_from : (p : Item → Bool) (xs : List Item) (x : Item) → Contains xs x → p x ≡ true → list_any p xs ≡ true
any_from p [] x h e = absurd (omega (arith, h.1))
any_from p (y ∷ ys) x h e = elim (cons_cases y ys x h) [
  | inl same ↦ ap (λ b. b || list_any p ys) (ap p same ∙ e)
  | inr rest ↦ or_right (p y) (list_any p ys) (any_from p ys x rest e)
]

not_true : (b : Bool) → not b ≡ true → b ≡ false
not_true true e = let x : false ≡ true = e in absurd (cc)
not_true false e = refl

true_not : (b : Bool) → (b ≡ true → ⊥) → not b ≡ true
true_not true n = absurd (n refl)
true_not false n = refl

greater : (o : Ordering) → is_gt o ≡ true → o ≡ Greater
greater Less e = let x : false ≡ true = e in absurd (cc)
greater Equal e = let x : false ≡ true = e in absurd (cc)
greater Greater e = refl

-- ---- the test
outdates_from : (o i : Item) → o.key ≡ i.key → IsLater o i → outdates o i ≡ true
outdates_from o i about later =
    ap (λ b. b && is_gt (revision_cmp o i)) (ap is_eq (ap (λ k. slot_cmp k i.key) about ∙ tied_itself slot_total i.key)) ∙ ap is_gt later

pub kept_from_test : (heard : List Item) (i : Item) → Contains heard i → keeps heard i ≡ true → IsKept heard i
kept_from_test heard i h e =
    let tests = both (not (list_any (λ (o : Item). outdates o i) heard)) (not (list_any (λ (s : Item). kills s i) heard)) e in
    let none_later : list_any (λ (o : Item). outdates o i) heard ≡ false = not_true _ tests.0 in
    let none_kills : list_any (λ (s : Item). kills s i) heard ≡ false = not_true _ tests.1 in
    record {
      best = record {
        is_heard = h;
        about = refl;
        none_later = λ o g about later.
            let x : true ≡ false = sym (any_from (λ (o : Item). outdates o i) heard o g (outdates_from o i about later)) ∙ none_later in cc;
      };
      alive = λ dead.
          let kill : kills dead.series i ≡ true = ap (λ b. b && is_below dead.series i) (ap is_series dead.best.about) ∙
          below_dead heard i dead in
          let x : true ≡ false = sym (any_from (λ (s : Item). kills s i) heard dead.series dead.best.is_heard kill) ∙ none_kills in cc;
    }

pub test_from_kept : (heard : List Item) (i : Item) → IsKept heard i → keeps heard i ≡ true
test_from_kept heard i kept =
    ap (λ b. b && not (list_any (λ (s : Item). kills s i) heard)) (true_not (list_any (λ (o : Item). outdates o i) heard) (λ e.
    let found = any_found (λ (o : Item). outdates o i) heard e in
    let tests = both (is_eq (slot_cmp found.0.key i.key)) (is_gt (revision_cmp found.0 i)) found.2 in
    kept.best.none_later found.0 found.1 (slot_exact found.0.key i.key ((Equal-is (slot_cmp found.0.key i.key)).0 tests.0))
    (greater (revision_cmp found.0 i) tests.1)))
    ∙ true_not (list_any (λ (s : Item). kills s i) heard) (λ e.
    let found = any_found (λ (s : Item). kills s i) heard e in
    let tests = both (is_series found.0.key) (is_below found.0 i) found.2 in
    kept.alive (dead_below heard found.0 i found.1 tests.0 tests.1))

-- ---- collecting them
pub record Collects (heard done kept : List Item) : Type 0 where
  pub each : (i : Item) → Contains kept i ↔ (Contains done i × (keeps heard i ≡ true))
  pub once : AllPairs (λ (a b : Item). a ≡ b → ⊥) kept

pub collect_one : (heard done kept : List Item) (x : Item) → Collects heard done kept → keeps heard x ≡ true → (Contains kept x → ⊥) →
    Collects heard (done ++ x ∷ []) (kept ++ x ∷ [])
collect_one heard done kept x c k new = record {
  each = λ i. (
    λ h. elim (Contains-push_cases kept x i h) [
      | inl old ↦ (Contains-append_left done (x ∷ []) i ((c.each i).0 old).0, ((c.each i).0 old).1)
      | inr same ↦ (subst (Contains (done ++ x ∷ [])) same (Contains-push done x), subst (λ (j : Item). keeps heard j ≡ true) same k)
    ],
    λ h. elim (Contains-push_cases done x i h.0) [
      | inl old ↦ Contains-append_left kept (x ∷ []) i ((c.each i).1 (old, h.1))
      | inr same ↦ subst (Contains (kept ++ x ∷ [])) same (Contains-push kept x)
    ],
  );
  once = all_pairs_push (λ (a b : Item). a ≡ b → ⊥) kept x c.once
      (λ j d below same. new (subst (Contains kept) same (Contains-get_or kept j d below)));
}

pub collect_other : (heard done kept : List Item) (x : Item) → Collects heard done kept → (keeps heard x ≡ true → Contains kept x) →
    Collects heard (done ++ x ∷ []) kept
collect_other heard done kept x c there = record {
  each = λ i. (
    λ h. (Contains-append_left done (x ∷ []) i ((c.each i).0 h).0, ((c.each i).0 h).1),
    λ h. elim (Contains-push_cases done x i h.0) [
      | inl old ↦ (c.each i).1 (old, h.1)
      | inr same ↦ subst (Contains kept) same (there (subst (λ (j : Item). keeps heard j ≡ true) (sym same) h.1))
    ],
  );
  once = c.once;
}

pub collected : (heard kept : List Item) → Collects heard heard kept → AreKept kept heard
collected heard kept c i =
    (λ h. let r = (c.each i).0 h in kept_from_test heard i r.0 r.1, λ k. (c.each i).1 (k.best.is_heard, test_from_kept heard i k))

-- ---- equal items
exact : CmpEqualImpliesEq octets_cmp
exact i j tied = same_item i j (exact_bytes i.bytes j.bytes tied)

pub has_from_test : (r : Bool) (xs : List Item) (x : Item) → r ≡ list_any (λ y. eq_by_cmp octets_cmp y x) xs → IsTrue r ↔ Contains xs x
has_from_test r xs x e = (
  λ t. let found = any_found (λ y. eq_by_cmp octets_cmp y x) xs (sym e ∙ t) in
      subst (Contains xs) (tells_apart exact found.0 x found.2) found.1,
  λ h. e ∙ any_from (λ y. eq_by_cmp octets_cmp y x) xs x h (ap is_eq (tied_itself octets_total x)),
)
