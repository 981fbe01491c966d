-- Whether an item is kept is decidable, so two sets keep the same if it can't be refuted that they do.
use Rattle.std.proofs.Common.{◌≡◌, ℕ, List, [], ◌∷◌, ◌↔◌, ◌⊎◌, inl, inr, sym, ap, subst, ◌∙◌, true, false}
use Rattle.std.specs.List.{Contains}
use Rattle.itip_items.specs.KeyParts.{uid_of}
use Rattle.itip_items.specs.declared.item.Item.{Item}
use Rattle.itip_items.specs.declared.key.Key.{Key}
use Rattle.itip_items.specs.declared.key.Key.TheVariants.{Series}
use Rattle.itip_items.proofs.Keys.{Told, told_bytes}
use Rattle.itip_items.proofs.SameItem.{same_item}
use Rattle.itip_state.specs.Kept.{IsBest, IsKept, KeepSame}
use Rattle.itip_state.specs.Plain.{keeps}
use Rattle.itip_state.proofs.Members.{by_bool, none_in, cons_cases, cons_first, cons_later}
use Rattle.itip_state.proofs.KeptOnes.{kept_from_test, test_from_kept}

told_items : (i j : Item) → Told i j
told_items i j = elim (told_bytes i.bytes j.bytes)
    [ inl same ↦ inl (same_item i j same) | inr other ↦ inr (λ e. other (ap (λ (k : Item). k.bytes) e)) ]

pub told_in : (xs : List Item) (i : Item) → Contains xs i ⊎ (¬ Contains xs i)
told_in [] i = inr (none_in i)
told_in (x ∷ xs) i = elim (told_items x i) [
  | inl same ↦ inl (subst (Contains (x ∷ xs)) same (cons_first x xs))
  | inr other ↦ elim (told_in xs i) [
    | inl there ↦ inl (cons_later x xs i there)
    | inr none ↦ inr (λ h. elim (cons_cases x xs i h) [ inl e ↦ other e | inr rest ↦ none rest ])
  ]
]

pub told_kept : (heard : List Item) (i : Item) → IsKept heard i ⊎ (¬ IsKept heard i)
told_kept heard i = elim (told_in heard i) [
  | inl there ↦ by_bool (keeps heard i) (IsKept heard i ⊎ (¬ IsKept heard i))
      (λ k. inl (kept_from_test heard i there k))
      (λ k. inr (λ kept. let x : true ≡ false = sym (test_from_kept heard i kept) ∙ k in cc))
  | inr none ↦ inr (λ kept. none kept.best.is_heard)
]

pub keep_same_stable : (uid : List ℕ) (x y : List Item) → (¬ (¬ KeepSame uid x y)) → KeepSame uid x y
keep_same_stable uid x y not i about = (
  λ k. elim (told_kept y i) [ inl there ↦ there | inr none ↦ absurd (not (λ same. none ((same i about).0 k))) ],
  λ k. elim (told_kept x i) [ inl there ↦ there | inr none ↦ absurd (not (λ same. none ((same i about).1 k))) ],
)

-- two sets with the same items of a UID keep the same of it
pub kept_alike : (uid : List ℕ) (x y : List Item) → ((j : Item) → uid_of j.key ≡ uid → Contains x j ↔ Contains y j) → (i : Item) →
    uid_of i.key ≡ uid → IsKept x i ↔ IsKept y i
kept_alike uid x y same i about = (across x y same, across y x (λ j of_uid. ((same j of_uid).1, (same j of_uid).0)))
  where
    best_across : (a b : List Item) → ((j : Item) → uid_of j.key ≡ uid → Contains a j ↔ Contains b j) → (key : Key) → uid_of key ≡ uid →
        (s : Item) → IsBest a key s → IsBest b key s
    best_across a b alike key of_uid s is = record {
      is_heard = (alike s (ap uid_of is.about ∙ of_uid)).0 is.is_heard;
      about = is.about;
      none_later = λ j h e. is.none_later j ((alike j (ap uid_of e ∙ of_uid)).1 h) e;
    }

    across : (a b : List Item) → ((j : Item) → uid_of j.key ≡ uid → Contains a j ↔ Contains b j) → IsKept a i → IsKept b i
    across a b alike kept = record {
      best = best_across a b alike i.key about i kept.best;
      alive = λ dead. kept.alive (record {
        can_die = dead.can_die;
        series = dead.series;
        best = best_across b a (λ j of_uid. ((alike j of_uid).1, (alike j of_uid).0)) (Series (uid_of i.key)) about dead.series dead.best;
        below = dead.below;
      });
    }
