-- A finite set has a best item of each key that it speaks of.
use Rattle.std.proofs.Common.{◌≡◌, List, [], ◌∷◌, ◌<◌, refl, sym, ◌∙◌, ap, subst, ◌⊎◌, inl, inr, arith}
use Rattle.std.specs.List.{Contains}
use Rattle.std.specs.Cmp.Lexicographic.{slice_cmp}
use Rattle.std.specs.Ordering.{nat_cmp, ordering_reverse, ordering_then, MatchOrdering}
use Rattle.std.specs.declared.cmp.Ordering.TheVariants.{Less, Equal, Greater}
use Rattle.std.proofs.lemmas.Cmp.{ranked, tied_itself}
use Rattle.std.proofs.lemmas.List.Elements.{Contains-append_cases, Contains-append_left, Contains-append_right, Contains-push}
use Rattle.std.proofs.lemmas.List.Elements.{Contains-push_cases}
use Rattle.itip_moment.specs.Order.{stamp_cmp}
use Rattle.itip_items.specs.RevisionOrder.{revision_cmp, IsLater}
use Rattle.itip_items.specs.declared.item.Item.{Item}
use Rattle.itip_items.specs.declared.key.Key.{Key}
use Rattle.itip_items.proofs.Keys.{told_keys}
use Rattle.itip_items.specs.Revisions.{revisions_total}
use Rattle.itip_state.specs.Kept.{IsBest}

-- the first of a list, or one of the others
pub Contains-cons_cases : (x : Item) (xs : List Item) (y : Item) → Contains (x ∷ xs) y → (x ≡ y) ⊎ Contains xs y
Contains-cons_cases x xs y h =
    elim (Contains-append_cases (x ∷ []) xs y h) [
      | inl first ↦ elim (Contains-push_cases [] x y first) [ inl none ↦ absurd (omega (arith, none.1)) | inr same ↦ inl same ]
      | inr other ↦ inr other
    ]

pub later_than_less : (i j : Item) → revision_cmp j i ≡ Less → IsLater i j
later_than_less i j e = revisions_total.antisymm i j ∙ ap ordering_reverse e

pub less_than_later : (i j : Item) → IsLater i j → revision_cmp j i ≡ Less
less_than_later i j e = revisions_total.antisymm j i ∙ ap ordering_reverse e

pub later_transitive : (i j k : Item) → IsLater i j → IsLater j k → IsLater i k
later_transitive i j k a b = later_than_less i k (revisions_total.trans k j i (less_than_later j k b) (less_than_later i j a))

pub not_later_itself : (i : Item) → ¬ IsLater i i
not_later_itself i e = let x : Greater ≡ Equal = sym e ∙ tied_itself revisions_total i in cc

-- an item is later, or it is not
pub told_later : (i j : Item) → IsLater i j ⊎ (¬ IsLater i j)
told_later i j =
    elim (revision_cmp i j) as (λ o. revision_cmp i j ≡ o → IsLater i j ⊎ (¬ IsLater i j)) [
      | Less ↦ λ e. inr (λ later. let x : Less ≡ Greater = sym e ∙ later in cc)
      | Equal ↦ λ e. inr (λ later. let x : Equal ≡ Greater = sym e ∙ later in cc)
      | Greater ↦ λ e. inl e
    ] refl

-- if i is not later than j, and j not later than k, i is not later than k
pub not_later_transitive : (i j k : Item) → (¬ IsLater i j) → (¬ IsLater j k) → ¬ IsLater i k
not_later_transitive i j k a b later =
    elim (revision_cmp j k) as (λ o. revision_cmp j k ≡ o → ⊥) [
      | Less ↦ λ e. a (later_transitive i k j later (later_than_less k j e))
      | Equal ↦ λ e. a (subst (λ o. o ≡ Greater) (tied_right e) later)
      | Greater ↦ λ e. b e
    ] refl
  where
    tied_right : revision_cmp j k ≡ Equal → revision_cmp i k ≡ revision_cmp i j
    tied_right e = revisions_total.antisymm i k ∙ ap ordering_reverse (sym (revisions_total.congr j k i e)) ∙
        sym (revisions_total.antisymm i j)

-- a lower effective sequence is earlier
pub greater_eff : (i j : Item) → j.eff < i.eff → IsLater i j
greater_eff i j h =
    elim (nat_cmp i.eff j.eff) as (λ o. nat_cmp i.eff j.eff ≡ o → IsLater i j) [
      | Less ↦ λ e. let x : i.eff < j.eff =
          subst (λ o. MatchOrdering o (i.eff < j.eff) (i.eff ≡ j.eff) (j.eff < i.eff)) e (ranked i.eff j.eff (nat_cmp i.eff j.eff) refl) in
          absurd (omega arith)
      | Equal ↦ λ e. let x : i.eff ≡ j.eff =
          subst (λ o. MatchOrdering o (i.eff < j.eff) (i.eff ≡ j.eff) (j.eff < i.eff)) e (ranked i.eff j.eff (nat_cmp i.eff j.eff) refl) in
          absurd (omega arith)
      | Greater ↦ λ e. ap (λ o. ordering_then o (ordering_then (stamp_cmp i.stamp j.stamp) (slice_cmp nat_cmp i.bytes j.bytes))) e
    ] refl

-- Of a set, either nothing is about a key, or there is a best item of it.
abbrev pub HasBest : List Item → Key → Type 0
HasBest heard key = ((item : Item) → Contains heard item → item.key ≡ key → ⊥) ⊎ ((best : Item) × IsBest heard key best)

with_other : (x : Item) (xs : List Item) (key : Key) → (x.key ≡ key → ⊥) → HasBest xs key → HasBest (x ∷ xs) key
with_other x xs key other (inl none) = inl (λ i h about.
    elim (Contains-cons_cases x xs i h) [ inl same ↦ other (ap (λ (j : Item). j.key) same ∙ about) | inr rest ↦ none i rest about ])
with_other x xs key other (inr (best, is)) = inr (
  best,
  record {
    is_heard = Contains-append_right (x ∷ []) xs best is.is_heard;
    about = is.about;
    none_later = λ i h about. elim (Contains-cons_cases x xs i h)
        [ inl same ↦ absurd (other (ap (λ (j : Item). j.key) same ∙ about)) | inr rest ↦ is.none_later i rest about ];
  },
)

with_one : (x : Item) (xs : List Item) (key : Key) → x.key ≡ key → HasBest xs key → HasBest (x ∷ xs) key
with_one x xs key about (inl none) = inr (
  x,
  record {
    is_heard = Contains-append_left (x ∷ []) xs x (Contains-push [] x);
    about = about;
    none_later = λ i h at. elim (Contains-cons_cases x xs i h)
        [ inl same ↦ subst (λ (j : Item). ¬ IsLater j x) same (not_later_itself x) | inr rest ↦ absurd (none i rest at) ];
  },
)
with_one x xs key about (inr (best, is)) =
    elim (told_later x best) [
      | inl later ↦ inr (
        x,
        record {
          is_heard = Contains-append_left (x ∷ []) xs x (Contains-push [] x);
          about = about;
          none_later = λ i h at. elim (Contains-cons_cases x xs i h) [
            | inl same ↦ subst (λ (j : Item). ¬ IsLater j x) same (not_later_itself x)
            | inr rest ↦ λ over. is.none_later i rest at (later_transitive i x best over later)
          ];
        },
      )
      | inr not ↦ inr (
        best,
        record {
          is_heard = Contains-append_right (x ∷ []) xs best is.is_heard;
          about = is.about;
          none_later = λ i h at. elim (Contains-cons_cases x xs i h) [
            | inl same ↦ subst (λ (j : Item). ¬ IsLater j best) same not
            | inr rest ↦ is.none_later i rest at
          ];
        },
      )
    ]

pub has_best : (heard : List Item) (key : Key) → HasBest heard key
has_best [] key = inl (λ i h about. omega (arith, h.1))
has_best (x ∷ xs) key =
    elim (told_keys x.key key) [
      | inl about ↦ with_one x xs key about (has_best xs key)
      | inr other ↦ with_other x xs key other (has_best xs key)
    ]

-- the best item of a key that something heard is about
pub best_above : (heard : List Item) (item : Item) → Contains heard item → (best : Item) × IsBest heard item.key best
best_above heard item h =
    elim (has_best heard item.key) [ inl none ↦ absurd (none item h refl) | inr found ↦ found ]
