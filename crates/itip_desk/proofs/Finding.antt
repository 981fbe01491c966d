-- Going through entries for the UIDs of their items.
use Rattle.std.proofs.Common.{◌≡◌, ◌⊎◌, ◌++◌, ◌∷◌, ◌∙◌, ℕ, List, [], ◌<◌, length, inl, inr, refl, sym, ap, subst, true, false, arith}
use Rattle.std.specs.List.{Contains, list_any}
use Rattle.std.specs.BTreeMap.{is_at}
use Rattle.std.specs.BTreeSet.{BTreeSet, contains}
use Rattle.std.specs.declared.cmp.Ordering.{Ordering}
use Rattle.std.proofs.lemmas.List.Elements.{Contains-append_left, Contains-push}
use Rattle.itip_items.specs.KeyParts.{uid_of}
use Rattle.itip_items.specs.declared.item.Item.{Item}
use Rattle.itip_state.proofs.Members.{none_in, cons_cases}
use Rattle.itip_desk.specs.Found.{AddsFound}

-- the UIDs of the entries that were passed are found
pub record FoundUpTo {E : Type 0} (item_of : E → Item) (P : Item → Type 0) (all : List E) (old now : List (List ℕ))
    (rest : List E) : Type 0 where
  pub keeps : (uid : List ℕ) → Contains old uid → Contains now uid
  pub coming : (entry : E) → Contains all entry → P (item_of entry) → Contains now (uid_of (item_of entry).key) ⊎ Contains rest entry

module _ {E : Type 0} (item_of : E → Item) (P : Item → Type 0) (all : List E) (old now : List (List ℕ)) where
  pub found_start : now ≡ old → FoundUpTo item_of P all old now all
  found_start same = record {
    keeps = λ uid h. subst (λ (us : List (List ℕ)). Contains us uid) (sym same) h;
    coming = λ entry there holds. inr there;
  }

  module _ (before rest : List E) (e : E) (cut : before ≡ e ∷ rest) (so : FoundUpTo item_of P all old now before) where
    pub found_one : (next : List (List ℕ)) → next ≡ now ++ uid_of (item_of e).key ∷ [] → FoundUpTo item_of P all old next rest
    found_one next is = record {
      keeps = λ uid h. still uid (so.keeps uid h);
      coming = λ entry there holds. elim (so.coming entry there holds) [
        | inl found ↦ inl (still (uid_of (item_of entry).key) found)
        | inr comes ↦ elim (cons_cases e rest entry (subst (λ (es : List E). Contains es entry) cut comes)) [
          | inl here ↦ inl (subst (λ (us : List (List ℕ)). Contains us (uid_of (item_of entry).key)) (sym is)
              (subst (λ (k : E). Contains (now ++ uid_of (item_of e).key ∷ []) (uid_of (item_of k).key)) here
              (Contains-push now (uid_of (item_of e).key))))
          | inr later ↦ inr later
        ]
      ];
    }
      where
        still : (uid : List ℕ) → Contains now uid → Contains next uid
        still uid h =
            subst (λ (us : List (List ℕ)). Contains us uid) (sym is) (Contains-append_left now (uid_of (item_of e).key ∷ []) uid h)

    pub found_none : (P (item_of e) → ⊥) → FoundUpTo item_of P all old now rest
    found_none none = record {
      keeps = so.keeps;
      coming = λ entry there holds. elim (so.coming entry there holds) [
        | inl found ↦ inl found
        | inr comes ↦ elim (cons_cases e rest entry (subst (λ (es : List E). Contains es entry) cut comes)) [
          | inl here ↦ absurd (none (subst (λ (k : E). P (item_of k)) (sym here) holds))
          | inr later ↦ inr later
        ]
      ];
    }

  pub found_end : (rest : List E) → rest ≡ [] → FoundUpTo item_of P all old now rest → AddsFound item_of P all old now
  found_end rest none so = record {
    keeps = so.keeps;
    adds = λ entry there holds. elim (so.coming entry there holds) [
      | inl found ↦ found
      | inr comes ↦ absurd (none_in entry (subst (λ (es : List E). Contains es entry) none comes))
    ];
  }

pub nil_if : {A : Type 0} (xs : List A) → (0 < length xs → ⊥) → xs ≡ []
nil_if [] none = refl
nil_if (x ∷ xs) none = absurd (none (omega arith))

pub not_nil : {A : Type 0} (xs : List A) → 0 < length xs → xs ≡ [] → ⊥
not_nil xs some none = let e : length xs ≡ 0 = ap length none in omega (arith, e, some)

-- an empty set has no entries
pub none_there : {K : Type 0} (cmp : K → K → Ordering) (set : BTreeSet K) (e : K) → set.keys ≡ [] → contains cmp set e ≡ true → ⊥
none_there cmp set e none there =
    let x : false ≡ true = sym (ap (λ keys. list_any (is_at (cmp e)) keys) none) ∙ there in cc
