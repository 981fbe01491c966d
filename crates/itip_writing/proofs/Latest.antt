-- What is written to be later than the latest of some stamps is later than each, and the kept item of a key tells the latest of its key.
use Rattle.std.proofs.Common.{◌≡◌, ◌≢◌, ◌∙◌, sym, ap, refl, ℕ, ◌==◌, ◌⊎◌, Bool, true, false, List, [], ◌∷◌, subst, inl, inr}
use Rattle.std.proofs.Common.{Option, Some, None}
use Rattle.std.specs.Prelude.{if◌then◌else◌}
use Rattle.std.specs.List.{Contains}
use Rattle.std.specs.Cmp.{tied_itself}
use Rattle.std.specs.Ordering.{is_lt, ordering_reverse}
use Rattle.std.specs.declared.cmp.Ordering.{Ordering}
use Rattle.std.specs.declared.cmp.Ordering.TheVariants.{Less, Equal, Greater}
use Rattle.std.proofs.lemmas.Bool.{eqb-false, eqb-true}
use Rattle.itip_moment.specs.Order.{stamp_cmp}
use Rattle.itip_moment.specs.OrderLaws.{stamp_total}
use Rattle.itip_moment.specs.declared.stamp.Stamp.{Stamp}
use Rattle.itip_items.specs.declared.item.Item.{Item}
use Rattle.itip_items.specs.declared.key.Key.{Key}
use Rattle.itip_state.specs.Kept.{IsBest, IsBestOf, IsKept}
use Rattle.itip_state.specs.Order.{IsState}
use Rattle.itip_state.proofs.Members.{cons_cases, cons_first, none_in}
use Rattle.itip_view.proofs.OneRow.{one_best}
use Rattle.itip_writing.specs.Stamping.{IsEqualRevision, IsKeptOf, IsLatest, IsLatestOf, IsSpentBehind}
use Rattle.itip_writing.specs.Stamping.{IsStampAfter, IsStampBehind, IsTimeSpent, equal_stamp, later_stamp}

-- ---- the order of stamps

not_itself : (s : Stamp) → stamp_cmp s s ≢ Less
not_itself s e = let x : Less ≡ Equal = sym e ∙ tied_itself stamp_total s in cc

-- what isn't later than one before a third is before the third
up_to : (latest other at : Stamp) → stamp_cmp latest other ≢ Less → stamp_cmp latest at ≡ Less → stamp_cmp other at ≡ Less
up_to latest other at not less = by (stamp_cmp latest other) refl
  where
    by : (o : Ordering) → stamp_cmp latest other ≡ o → stamp_cmp other at ≡ Less
    by Less e = absurd (not e)
    by Equal e = sym (stamp_total.congr latest other at e) ∙ less
    by Greater e = stamp_total.trans other latest at (stamp_total.antisymm other latest ∙ ap ordering_reverse e) less

-- ---- the latest of some stamps

module _ (P : Stamp → Type 0) (at : Stamp) where
  pub stamp_of_latest : (latest : Option Stamp) (stamp : Stamp) → IsLatestOf P latest → IsStampBehind latest at stamp →
      IsStampAfter P at stamp
  stamp_of_latest None stamp none is = inl (record { stamp_is = is; later = λ other h. absurd (none other h) })
  stamp_of_latest (Some latest) stamp is (inl (less, same)) =
      inl (record { stamp_is = same; later = λ other h. up_to latest other at (is.none_later other h) less })
  stamp_of_latest (Some latest) stamp is (inr (not, next)) =
      inr (record { latest = latest; is_latest = is; not_before = not; next = next })

  pub spent_of_latest : (latest : Option Stamp) → IsLatestOf P latest → IsSpentBehind latest at → IsTimeSpent P at
  spent_of_latest None none spent = absurd spent
  spent_of_latest (Some latest) is spent = record { latest = latest; is_latest = is; not_before = spent.0; last = spent.1 }

-- the latest of some stamps and one more
module _ (P : Stamp → Type 0) (other : Stamp) where
  abbrev Or : Stamp → Type 0
  Or stamp = P stamp ⊎ (stamp ≡ other)

  alone : ((stamp : Stamp) → ¬ P stamp) → IsLatest Or other
  alone none = record {
    is_one = inr refl;
    none_later = λ stamp h. elim h [
      | inl of ↦ absurd (none stamp of)
      | inr same ↦ subst (λ (s : Stamp). stamp_cmp other s ≢ Less) (sym same) (not_itself other)
    ];
  }

  -- the other is later
  later_other : (stamp : Stamp) → IsLatest P stamp → stamp_cmp stamp other ≡ Less → IsLatest Or other
  later_other stamp is less = record {
    is_one = inr refl;
    none_later = λ s h. elim h [
      | inl of ↦ λ over. not_itself other
          (stamp_total.trans other s other over (up_to stamp s other (is.none_later s of) less))
      | inr same ↦ subst (λ (t : Stamp). stamp_cmp other t ≢ Less) (sym same) (not_itself other)
    ];
  }

  -- the other isn't later
  no_later_other : (stamp : Stamp) → IsLatest P stamp → stamp_cmp stamp other ≢ Less → IsLatest Or stamp
  no_later_other stamp is not = record {
    is_one = inl is.is_one;
    none_later = λ s h. elim h [
      | inl of ↦ is.none_later s of
      | inr same ↦ subst (λ (t : Stamp). stamp_cmp stamp t ≢ Less) (sym same) not
    ];
  }

  pub latest_with : (latest : Option Stamp) → IsLatestOf P latest → IsLatestOf Or (Some (later_stamp latest other))
  latest_with None none = alone none
  latest_with (Some stamp) is = by (stamp_cmp stamp other) refl
    where
      by : (o : Ordering) → stamp_cmp stamp other ≡ o → IsLatest Or (if is_lt o then other else stamp)
      by Less e = later_other stamp is e
      by Equal e = no_later_other stamp is (λ less. let x : Less ≡ Equal = sym less ∙ e in cc)
      by Greater e = no_later_other stamp is (λ less. let x : Less ≡ Greater = sym less ∙ e in cc)

-- ---- the kept item of a key

-- a key has one kept item
pub one_kept : (heard : List Item) (key : Key) (a b : Item) → IsKept heard a → IsKept heard b → a.key ≡ key → b.key ≡ key → a ≡ b
one_kept heard key a b p q about same =
    one_best heard key a b (subst (λ (k : Key). IsBest heard k a) about p.best) (subst (λ (k : Key). IsBest heard k b) same q.best)

-- among items that are all kept, the best of a key is the kept one
pub kept_of_best : (items : List Item) (key : Key) (found : Option Item) → IsState items → IsBestOf items key found →
    IsKeptOf items key found
kept_of_best items key None is none = λ item kept about. none item kept.best.is_heard about
kept_of_best items key (Some item) is best = ((is item).0 best.is_heard, best.about)

only_key : (key : Key) (k : Key) → Contains (key ∷ []) k → k ≡ key
only_key key k h = elim (cons_cases key [] k h) [ inl same ↦ sym same | inr none ↦ absurd (none_in k none) ]

module _ (heard : List Item) (key : Key) (sequence : ℕ) where
  abbrev P : Stamp → Type 0
  P = IsEqualRevision heard (key ∷ []) sequence

  -- the kept item of the key is the only one of its revisions
  only_one : (item : Item) → IsKept heard item → item.key ≡ key → (stamp : Stamp) (is : P stamp) → is.item ≡ item
  only_one item kept about stamp is = one_kept heard key is.item item is.kept kept (only_key key is.item.key is.about) about

  equal_latest : (item : Item) → IsKept heard item → item.key ≡ key → item.eff ≡ sequence → IsLatest P item.stamp
  equal_latest item kept about same = record {
    is_one = record {
      item = item;
      kept = kept;
      about = subst (Contains (key ∷ [])) (sym about) (cons_first key []);
      same = same;
      stamp_is = refl;
    };
    none_later = λ stamp is.
        let there : stamp ≡ item.stamp = is.stamp_is ∙ ap (λ (i : Item). i.stamp) (only_one item kept about stamp is) in
        subst (λ (s : Stamp). stamp_cmp item.stamp s ≢ Less) (sym there) (not_itself item.stamp);
  }

  pub latest_of_kept : (found : Option Item) → IsKeptOf heard key found → IsLatestOf P (equal_stamp sequence found)
  latest_of_kept None none = λ stamp is. none is.item is.kept (only_key key is.item.key is.about)
  latest_of_kept (Some item) (kept, about) = by (item.eff == sequence) refl
    where
      by : (b : Bool) → (item.eff == sequence) ≡ b → IsLatestOf P (if b then Some item.stamp else None)
      by true e = equal_latest item kept about (eqb-true item.eff sequence e)
      by false e = λ stamp is.
          eqb-false item.eff sequence e (ap (λ (i : Item). i.eff) (sym (only_one item kept about stamp is)) ∙ is.same)
