-- A binary search by key among the items of one UID in the order of their keys.
use Rattle.std.proofs.Common.{◌≡◌, ◌<◌, ◌≤◌, ℕ, List, [], ◌∷◌, map, length, get_or, refl, sym, ◌∙◌, ap, subst, inl, inr, arith}
use Rattle.std.specs.List.{Contains, AllPairs}
use Rattle.std.specs.List.Sorted.{IsNonDecreasingBy, IsPartitionPoint}
use Rattle.std.specs.Ordering.{nat_cmp, ordering_index, ordering_then}
use Rattle.std.specs.Option.{option_cmp}
use Rattle.std.specs.Cmp.Lexicographic.{slice_cmp}
use Rattle.std.specs.Cmp.{tied_itself}
use Rattle.std.specs.declared.cmp.Ordering.{Ordering}
use Rattle.std.specs.declared.cmp.Ordering.TheVariants.{Less, Equal, Greater}
use Rattle.std.proofs.lemmas.Bool.{cases_lt}
use Rattle.std.proofs.lemmas.List.{length-map}
use Rattle.std.proofs.lemmas.List.Elements.{Contains-get_or}
use Rattle.std.proofs.Math.ListN.{get_or-map}
use Rattle.itip_moment.specs.Order.{moment_cmp}
use Rattle.itip_items.specs.KeyParts.{uid_of, rank_of, instance_of, attendee_of}
use Rattle.itip_items.specs.declared.item.Item.{Item}
use Rattle.itip_items.specs.declared.key.Key.{Key}
use Rattle.itip_state.specs.declared.parts.KeyParts.{KeyParts}
use Rattle.itip_state.specs.Kept.{AreOf, AscendKeys}
use Rattle.itip_state.specs.Parts.{HasParts, parts_cmp}
use Rattle.itip_state.specs.Slots.{time_cmp, slot_cmp, slot_total, slot_exact}
use Rattle.itip_state.proofs.Members.{none_in, cons_cases, cons_first, cons_later}
use Rattle.itip_state.proofs.Ordered.{slot_is_key}

-- comparing a key with the parts of another is comparing it with the other
pub as_key : (a key : Key) (parts : KeyParts) → HasParts key parts → parts_cmp a parts ≡ slot_cmp a key
as_key a key parts has = λ i.
    ordering_then (ordering_then (nat_cmp (rank_of a) (sym has.rank i))
    (ordering_then (option_cmp time_cmp (instance_of a) (sym has.instance i))
    (ordering_then (slice_cmp nat_cmp (attendee_of a) (sym has.attendee i)) (option_cmp moment_cmp (instance_of a) (sym has.instance i)))))
    (slice_cmp nat_cmp (uid_of a) (sym has.uid i))

-- each item's slot is before those of the later ones
abbrev pub AscendSlots : List Item → Type 0
AscendSlots = AllPairs (λ (a b : Item). slot_cmp a.key b.key ≡ Less)

-- items of one UID in the order of their keys are in the order of their slots
pub slots_ascend : (uid : List ℕ) (items : List Item) → AreOf uid items → AscendKeys items → AscendSlots items
slots_ascend uid items about ascend = λ i j d below inside.
    slot_is_key (get_or items i d).key (get_or items j d).key
    (about (get_or items i d) (Contains-get_or items i d (omega (arith, below, inside))) ∙
    sym (about (get_or items j d) (Contains-get_or items j d inside))) ∙ ascend i j d below inside

rises : (a b k : Key) → slot_cmp a b ≡ Less → ordering_index (slot_cmp a k) ≤ ordering_index (slot_cmp b k)
rises a b k below = elim (slot_cmp b k) as (λ o. slot_cmp b k ≡ o → ordering_index (slot_cmp a k) ≤ ordering_index o) [
  | Less ↦ λ e. subst (λ o. ordering_index o ≤ 0) (sym (slot_total.trans a b k below e)) (omega arith)
  | Equal ↦ λ e. subst (λ o. ordering_index o ≤ 1) (sym (ap (slot_cmp a) (sym (slot_exact b k e)) ∙ below)) (omega arith)
  | Greater ↦ λ e. top (slot_cmp a k)
] refl
  where
    top : (o : Ordering) → ordering_index o ≤ 2
    top Less = omega arith
    top Equal = omega arith
    top Greater = omega arith

module _ {X : Type 0} (item : X → Item) where
  keys_rise : (xs : List X) (k : Key) → AscendSlots (map item xs) → IsNonDecreasingBy (λ x. ordering_index (slot_cmp (item x).key k)) xs
  keys_rise xs k ascend i j d up inside = elim (cases_lt i j) [
    | inl lt ↦ rises (item (get_or xs i d)).key (item (get_or xs j d)).key k
        (subst (λ (a : Item). slot_cmp a.key (item (get_or xs j d)).key ≡ Less) (get_or-map item xs i d)
        (subst (λ (b : Item). slot_cmp (get_or (map item xs) i (item d)).key b.key ≡ Less) (get_or-map item xs j d)
        (ascend i j (item d) lt (rw (length-map xs item) inside))))
    | inr ge ↦ let same : i ≡ j = omega arith in
        subst (λ (n : ℕ). ordering_index (slot_cmp (item (get_or xs i d)).key k) ≤ ordering_index (slot_cmp (item (get_or xs n d)).key k))
        same (omega arith)
  ]

  pub mapped_in : (xs : List X) (k : ℕ) (x : X) → k < length xs → x ≡ get_or xs k x → Contains (map item xs) (item x)
  mapped_in xs k x below is = (k, rw (length-map xs item) below, get_or-map item xs k x ∙ ap item (sym is))

  from_mapped : (xs : List X) (i : Item) → Contains (map item xs) i → (x : X) × Contains xs x × (item x ≡ i)
  from_mapped [] i h = absurd (none_in i h)
  from_mapped (x ∷ xs) i h = elim (cons_cases (item x) (map item xs) i h) [
    | inl first ↦ (x, cons_first x xs, first)
    | inr rest ↦ let r = from_mapped xs i rest in (r.0, cons_later x xs r.0 r.1, r.2)
  ]

  not_there : (xs : List X) (k : Key) (place : ℕ) →
      IsPartitionPoint (λ x. slot_cmp (item x).key k ≡ Less) (λ x. slot_cmp (item x).key k ≡ Greater) xs place → (i : Item) →
      Contains (map item xs) i → i.key ≡ k → ⊥
  not_there xs k place parts i h about =
      let found = from_mapped xs i h in
      let at : ℕ = found.1.0 in
      let equal : slot_cmp (item (get_or xs at found.0)).key k ≡ Equal =
      ap (λ (x : X). slot_cmp (item x).key k) found.1.2 ∙ ap (λ (y : Item). slot_cmp y.key k) found.2 ∙
      ap (λ (q : Key). slot_cmp q k) about ∙
      tied_itself slot_total k in
      elim (cases_lt at place) [
        | inl lt ↦ let x : Less ≡ Equal = sym (parts.0 at found.0 (omega arith) lt) ∙ equal in cc
        | inr ge ↦ let x : Greater ≡ Equal = sym (parts.1 at found.0 ge found.1.1) ∙ equal in cc
      ]

module _ {X : Type 0} (item : X → Item) (key : Key) (parts : KeyParts) (has : HasParts key parts) where
  -- the order by the parts is the order by the key
  same_order : ◌≡◌ {A = X → Ordering} (λ x. slot_cmp (item x).key key) (λ x. parts_cmp (item x).key parts)
  same_order = λ i x. sym (as_key (item x).key key parts has) i

  pub parts_rise : (xs : List X) → AscendSlots (map item xs) → IsNonDecreasingBy (λ x. ordering_index (parts_cmp (item x).key parts)) xs
  parts_rise xs ascend =
      subst (λ (f : X → Ordering). IsNonDecreasingBy (λ x. ordering_index (f x)) xs) same_order (keys_rise item xs key ascend)

  pub none_with_parts : (xs : List X) (place : ℕ) →
      IsPartitionPoint (λ x. parts_cmp (item x).key parts ≡ Less) (λ x. parts_cmp (item x).key parts ≡ Greater) xs place
      → (i : Item) → Contains (map item xs) i → i.key ≡ key → ⊥
  none_with_parts xs place point =
      not_there item xs key place (subst (λ (f : X → Ordering). IsPartitionPoint (λ x. f x ≡ Less) (λ x. f x ≡ Greater) xs place)
      (sym same_order) point)
