-- Ascending lists that are cut at a pivot, merged apart and put side by side.
use Rattle.std.proofs.Common.{◌≡◌, ◌∙◌, ◌<◌, ◌≤◌, ◌+◌, ◌*◌, ◌/◌, sym, ap, subst, refl, ℕ, List, [], ◌∷◌, ◌++◌, length, get_or}
use Rattle.std.proofs.Common.{inl, inr, ◌⊎◌, arith, Bool, true, false, Result, Ok, Err, take, drop, append-nil}
use Rattle.std.proofs.Math.Nat.{eq-or-lt_of_le, div-mul-le_self}
use Rattle.std.proofs.lemmas.List.{get_or-take, get_or-drop, get_or_default, get_or_append_left, get_or-append-add, take-append-drop}
use Rattle.std.proofs.lemmas.List.{length-append, length-take, length-drop}
use Rattle.std.proofs.lemmas.List.Concat.{flat_map-append}
use Rattle.std.proofs.lemmas.List.Elements.{All-append, All-head, All-push, All-contains, All-nil}
use Rattle.std.proofs.lemmas.List.Elements.{Contains-append_cases, Contains-append_left, Contains-append_right}
use Rattle.std.proofs.lemmas.List.Sorted.{Contains-permutation, IsPermutation-sym}
use Rattle.std.specs.Prelude.{OnOk, IfOk}
use Rattle.std.specs.List.{All, AllPairs, Contains}
use Rattle.std.specs.List.Sorted.{IsPartitionedBy, IsPartitionPoint, IsPermutation}
use Rattle.std.specs.Cmp.{IsTotalOrder}
use Rattle.std.specs.Global.{Vec}
use Rattle.std.specs.Ordering.{is_lt, ordering_reverse}
use Rattle.std.specs.declared.cmp.Ordering.{Ordering}
use Rattle.std.specs.declared.cmp.Ordering.TheVariants.{Less, Equal, Greater}
use Rattle.itip_items.specs.OctetOrder.{octets_cmp, octets_total}
use Rattle.itip_items.specs.declared.item.Item.{Item}
use Rattle.itip_state.specs.Kept.{IsItemsOf, SameItems}
use Rattle.itip_desk.specs.Octets.{AscendOctets}
use Rattle.itip_inbox.specs.Ranges.{AreCut, EachAscends, IsBefore, IsCut, items_in}
use Rattle.itip_state.proofs.Members.{none_in, no_pairs, cons_cases, cons_first, cons_later, pairs_append}
use Rattle.itip_state.proofs.Keeping.{same_swapped}

-- ---- the two sides of a pivot

less_from_lt : (o : Ordering) → is_lt o ≡ true → o ≡ Less
less_from_lt Less e = refl
less_from_lt Equal e = absurd (cc)
less_from_lt Greater e = absurd (cc)

not_less : (o : Ordering) → is_lt o ≡ false → ¬ (o ≡ Less)
not_less o e less = let z : true ≡ false = sym (ap is_lt less) ∙ e in cc

-- what is before a pivot is before all that is not
across : {X : Type 0} {cmp : X → X → Ordering} → IsTotalOrder cmp → (i p j : X) → cmp i p ≡ Less → (¬ (cmp j p ≡ Less)) → cmp i j ≡ Less
across {X} {cmp} total i p j before behind =
    elim (cmp j p) as (λ (o : Ordering). cmp j p ≡ o → cmp i j ≡ Less) [
      | Less ↦ λ e. absurd (behind e)
      | Equal ↦ λ e. total.antisymm i j ∙ ap ordering_reverse (total.congr j p i e) ∙ sym (total.antisymm i p) ∙ before
      | Greater ↦ λ e. total.trans i p j before (total.antisymm p j ∙ ap ordering_reverse e)
    ] refl

not_before_itself : {X : Type 0} {cmp : X → X → Ordering} → IsTotalOrder cmp → (i : X) → ¬ (cmp i i ≡ Less)
not_before_itself total i less =
    let z : Less ≡ Greater = sym less ∙ total.antisymm i i ∙ ap ordering_reverse less in absurd (cc)

not_both_ways : {X : Type 0} {cmp : X → X → Ordering} → IsTotalOrder cmp → (i j : X) → cmp i j ≡ Less → ¬ (cmp j i ≡ Less)
not_both_ways total i j one two = not_before_itself total i (total.trans i j i one two)

-- ---- the two parts of a list

module _ {X : Type 0} (R : X → X → Type 0) (xs ys : List X) (up : AllPairs R (xs ++ ys)) where
  pairs_front : AllPairs R xs
  pairs_front i j d below inside =
      subst (λ (x : X). R x (get_or xs j d)) (get_or_append_left xs ys d i (omega (arith, below, inside)))
      (subst (R (get_or (xs ++ ys) i d)) (get_or_append_left xs ys d j inside)
      (up i j d below (omega (arith, inside, length-append xs ys))))

  pairs_back : AllPairs R ys
  pairs_back i j d below inside =
      subst (λ (x : X). R x (get_or ys j d)) (get_or-append-add xs ys i d)
      (subst (R (get_or (xs ++ ys) (length xs + i) d)) (get_or-append-add xs ys j d)
      (up (length xs + i) (length xs + j) d (omega (arith, below)) (omega (arith, inside, length-append xs ys))))

-- what holds below a place holds of the front that ends there
all_front : {X : Type 0} (P : X → Type 0) (xs : List X) (at : ℕ) → ((k : ℕ) (d : X) → k < at → k < length xs → P (get_or xs k d)) →
    All P (take at xs)
all_front P xs at holds k d inside =
    let long = length-take at xs in
    let below : k < at = omega (arith, inside, long) in
    subst P (sym (get_or-take at xs k d below)) (holds k d below (omega (arith, inside, long)))

all_back : {X : Type 0} (P : X → Type 0) (xs : List X) (at : ℕ) → ((k : ℕ) (d : X) → at ≤ k → k < length xs → P (get_or xs k d)) →
    All P (drop at xs)
all_back P xs at holds k d inside =
    let long = length-drop at xs in
    subst P (sym (get_or-drop at xs k d)) (holds (at + k) d (omega arith) (omega (arith, inside, long)))

-- ---- one list, cut

-- the test whether an item is before a pivot
abbrev pub is_before : Item → Item → Bool
is_before pivot item = is_lt (octets_cmp item pivot)

pub is_partitioned : (pivot : Item) (xs : List Item) → AscendOctets xs → IsPartitionedBy (is_before pivot) xs
is_partitioned pivot xs up i j d low inside holds =
    elim (eq-or-lt_of_le low) [
      | inl same ↦ subst (λ (k : ℕ). is_before pivot (get_or xs k d) ≡ true) (sym same) holds
      | inr below ↦ ap is_lt (octets_total.trans (get_or xs i d) (get_or xs j d) pivot (up i j d below inside) (less_from_lt _ holds))
    ]

cut_at : (pivot : Item) (xs : List Item) (at : ℕ) →
    IsPartitionPoint (λ (y : Item). is_before pivot y ≡ true) (λ (y : Item). is_before pivot y ≡ false) xs at →
    IsCut pivot xs (take at xs) (drop at xs)
cut_at pivot xs at point = record {
  whole = sym (take-append-drop at xs);
  before = all_front (λ (i : Item). IsBefore i pivot) xs at (λ k d below inside. less_from_lt _ (point.0 k d (omega arith) below));
  behind = all_back (λ (i : Item). ¬ IsBefore i pivot) xs at (λ k d low inside. not_less _ (point.1 k d low inside));
}

-- a list split where a search for the pivot ended
pub cut_by_split : {E : Type 0} (pivot : Item) (xs left : List Item) (at : ℕ) (r : Result (Vec Item) E) →
    IsPartitionPoint (λ (y : Item). is_before pivot y ≡ true) (λ (y : Item). is_before pivot y ≡ false) xs at →
    OnOk r (left ≡ take at xs) → IfOk r (λ rest. rest.items ≡ drop at xs) → IfOk r (λ rest. IsCut pivot xs left rest.items)
cut_by_split pivot xs left at (Ok rest) point front back =
    subst (λ (ys : List Item). IsCut pivot xs ys rest.items) (sym front)
    (subst (IsCut pivot xs (take at xs)) (sym back) (cut_at pivot xs at point))
cut_by_split pivot xs left at (Err refused) point front back = tt

-- a list split at an item of its own
pub cut_at_own : (pivot : Item) (xs front back : List Item) (at : ℕ) → AscendOctets xs → at < length xs → front ≡ take at xs →
    back ≡ drop at xs → pivot ≡ get_or back 0 pivot → IsCut pivot xs front back
cut_at_own pivot xs front back at up inside front_is back_is first =
    subst (λ (ys : List Item). IsCut pivot xs ys back) (sym front_is) (subst (IsCut pivot xs (take at xs)) (sym back_is) (record {
      whole = sym (take-append-drop at xs);
      before = all_front (λ (i : Item). IsBefore i pivot) xs at (λ k d below within. at_pivot k d below);
      behind = all_back (λ (i : Item). ¬ IsBefore i pivot) xs at (λ k d low within. elim (eq-or-lt_of_le low) [
        | inl same ↦ subst (λ (i : Item). ¬ IsBefore i pivot) (sym (here_at k d same)) (not_before_itself octets_total pivot)
        | inr below ↦ not_both_ways octets_total pivot (get_or xs k d)
            (subst (λ (i : Item). IsBefore i (get_or xs k d)) (here_at at d refl) (up at k d below within))
      ]);
    }))
  where
    here_at : (k : ℕ) (d : Item) → at ≡ k → get_or xs k d ≡ pivot
    here_at k d same = sym (ap (λ (n : ℕ). get_or xs n d) same) ∙ get_or_default xs at d pivot inside ∙
        sym (first ∙ ap (λ (ys : List Item). get_or ys 0 pivot) back_is ∙ get_or-drop at xs 0 pivot ∙
        ap (λ (n : ℕ). get_or xs n pivot) (omega arith))

    at_pivot : (k : ℕ) (d : Item) → k < at → IsBefore (get_or xs k d) pivot
    at_pivot k d below = subst (IsBefore (get_or xs k d)) (here_at at d refl) (up k at d below inside)

-- a part of a length is shorter
pub part_below : (n half threads : ℕ) → 0 < n → half < threads → n / threads * half < n
part_below n half threads some less = grind (arith, div-mul-le_self n threads)

-- ---- the items of lists

in_all : (lists : List (Vec Item)) (list : Vec Item) (i : Item) → Contains lists list → Contains list.items i →
    Contains (items_in lists) i
in_all [] list i here h = absurd (none_in list here)
in_all (l ∷ ls) list i here h = elim (cons_cases l ls list here) [
  | inl is ↦ Contains-append_left l.items (items_in ls) i (subst (λ (v : Vec Item). Contains v.items i) (sym is) h)
  | inr later ↦ Contains-append_right l.items (items_in ls) i (in_all ls list i later h)
]

in_some : (lists : List (Vec Item)) (i : Item) → Contains (items_in lists) i →
    (list : Vec Item) × Contains lists list × Contains list.items i
in_some [] i h = absurd (none_in i h)
in_some (l ∷ ls) i h = elim (Contains-append_cases l.items (items_in ls) i h) [
  | inl here ↦ (l, cons_first l ls, here)
  | inr later ↦ let found = in_some ls i later in (found.0, cons_later l ls found.0 found.1, found.2)
]

-- the order of the lists is no matter
reordered : (xs ys : List (Vec Item)) → IsPermutation xs ys → (i : Item) → Contains (items_in xs) i → Contains (items_in ys) i
reordered xs ys moved i h =
    let found = in_some xs i h in in_all ys found.0 i (Contains-permutation xs ys found.0 moved found.1) found.2

pub items_more : (lists : List (Vec Item)) (list : Vec Item) → items_in (lists ++ list ∷ []) ≡ items_in lists ++ list.items
items_more lists list =
    flat_map-append (λ (v : Vec Item). v.items) lists (list ∷ []) ∙ ap (λ (t : List Item). items_in lists ++ t) (append-nil list.items)

-- sorted items of a set are those of another with the same items
pub items_alike : (items set other : List Item) → SameItems set other → IsItemsOf items set → IsItemsOf items other
items_alike items set other same are = record {
  ascend = are.ascend;
  same = λ i. (λ h. (same i).0 ((are.same i).0 h), λ h. (are.same i).1 ((same i).1 h));
}

-- of no list there are no items
pub none_in_none : (items : List Item) (lists : List (Vec Item)) → items ≡ [] → lists ≡ [] → IsItemsOf items (items_in lists)
none_in_none items lists no_items no_lists = rw (no_items, no_lists) (record { ascend = no_pairs IsBefore; same = λ i. (λ h. h, λ h. h) })

-- the items of one list are its own
pub one_in_one : (list : Vec Item) (lists : List (Vec Item)) → EachAscends lists → lists ≡ list ∷ [] → IsItemsOf list.items (items_in lists)
one_in_one list lists up is =
    let whole : items_in lists ≡ list.items = ap items_in is ∙ append-nil list.items in
    rw whole (record {
      ascend = All-head (λ (v : Vec Item). AscendOctets v.items) list [] (subst EachAscends is up);
      same = λ i. (λ h. h, λ h. h);
    })

-- the last list put before the others
pub last_first : (lists others : List (Vec Item)) (last : Vec Item) (items : List Item) → lists ≡ others ++ last ∷ [] →
    IsItemsOf items (last.items ++ items_in others) → IsItemsOf items (items_in lists)
last_first lists others last items is are =
    rw (is, items_more others last)
    (items_alike items (last.items ++ items_in others) (items_in others ++ last.items) (same_swapped last.items (items_in others)) are)

-- ---- lists, cut

pub cut_none : (pivot : Item) → AreCut pivot [] [] []
cut_none pivot = record {
  fronts_ascend = All-nil _;
  backs_ascend = All-nil _;
  before = All-nil _;
  behind = All-nil _;
  same = λ i. (λ h. absurd (none_in i h), λ h. elim h [ inl none ↦ absurd (none_in i none) | inr none ↦ absurd (none_in i none) ]);
}

module _ (pivot : Item) (lists fronts backs : List (Vec Item)) (are : AreCut pivot lists fronts backs) where
  abbrev Up : Vec Item → Type 0
  Up list = AscendOctets list.items

  abbrev Front : Item → Type 0
  Front i = IsBefore i pivot

  abbrev Back : Item → Type 0
  Back i = ¬ IsBefore i pivot

  -- one list more
  pub cut_more : (list front back : Vec Item) → AscendOctets list.items → IsCut pivot list.items front.items back.items →
      AreCut pivot (lists ++ list ∷ []) (fronts ++ front ∷ []) (backs ++ back ∷ [])
  cut_more list front back up cut =
      let both : AscendOctets (front.items ++ back.items) = subst AscendOctets cut.whole up in record {
        fronts_ascend = All-push Up fronts front are.fronts_ascend (pairs_front IsBefore front.items back.items both);
        backs_ascend = All-push Up backs back are.backs_ascend (pairs_back IsBefore front.items back.items both);
        before = subst (All Front) (sym (items_more fronts front))
            (All-append Front (items_in fronts) front.items are.before cut.before);
        behind = subst (All Back) (sym (items_more backs back))
            (All-append Back (items_in backs) back.items are.behind cut.behind);
        same = λ i. (parted i, joined i);
      }
    where
      parted : (i : Item) → Contains (items_in (lists ++ list ∷ [])) i →
          Contains (items_in (fronts ++ front ∷ [])) i ⊎ Contains (items_in (backs ++ back ∷ [])) i
      parted i h = rw (items_more fronts front, items_more backs back)
          (elim (Contains-append_cases (items_in lists) list.items i (subst (λ (t : List Item). Contains t i) (items_more lists list) h)) [
            | inl before ↦ elim ((are.same i).0 before) [
              | inl left ↦ inl (Contains-append_left (items_in fronts) front.items i left)
              | inr right ↦ inr (Contains-append_left (items_in backs) back.items i right)
            ]
            | inr now ↦ elim (Contains-append_cases front.items back.items i (subst (λ (t : List Item). Contains t i) cut.whole now)) [
              | inl left ↦ inl (Contains-append_right (items_in fronts) front.items i left)
              | inr right ↦ inr (Contains-append_right (items_in backs) back.items i right)
            ]
          ])

      here : (i : Item) → Contains (front.items ++ back.items) i → Contains (items_in (lists ++ list ∷ [])) i
      here i h = rw (items_more lists list) (Contains-append_right (items_in lists) list.items i
          (subst (λ (t : List Item). Contains t i) (sym cut.whole) h))

      there : (i : Item) → Contains (items_in lists) i → Contains (items_in (lists ++ list ∷ [])) i
      there i h = rw (items_more lists list) (Contains-append_left (items_in lists) list.items i h)

      joined : (i : Item) → Contains (items_in (fronts ++ front ∷ [])) i ⊎ Contains (items_in (backs ++ back ∷ [])) i →
          Contains (items_in (lists ++ list ∷ [])) i
      joined i h = elim h [
        | inl left ↦ elim (Contains-append_cases (items_in fronts) front.items i
            (subst (λ (t : List Item). Contains t i) (items_more fronts front) left)) [
              | inl old ↦ there i ((are.same i).1 (inl old))
              | inr new ↦ here i (Contains-append_left front.items back.items i new)
            ]
        | inr right ↦ elim (Contains-append_cases (items_in backs) back.items i
            (subst (λ (t : List Item). Contains t i) (items_more backs back) right)) [
              | inl old ↦ there i ((are.same i).1 (inr old))
              | inr new ↦ here i (Contains-append_right front.items back.items i new)
            ]
      ]

  -- the lists in another order
  pub cut_reordered : (all : List (Vec Item)) → IsPermutation all lists → AreCut pivot all fronts backs
  cut_reordered all moved = record {
    fronts_ascend = are.fronts_ascend;
    backs_ascend = are.backs_ascend;
    before = are.before;
    behind = are.behind;
    same = λ i. (
      λ h. (are.same i).0 (reordered all lists moved i h),
      λ h. reordered lists all (IsPermutation-sym all lists moved) i ((are.same i).1 h),
    );
  }

  -- the items of the two sides, put side by side, are those of all
  pub side_by_side : (front back : List Item) → IsItemsOf front (items_in fronts) → IsItemsOf back (items_in backs) →
      IsItemsOf (front ++ back) (items_in lists)
  side_by_side front back one two = record {
    ascend = pairs_append IsBefore front back one.ascend two.ascend (λ i j h g. across octets_total i pivot j
        (All-contains Front (items_in fronts) i are.before ((one.same i).0 h))
        (All-contains Back (items_in backs) j are.behind ((two.same j).0 g)));
    same = λ i. (
      λ h. (are.same i).1 (elim (Contains-append_cases front back i h)
          [ inl left ↦ inl ((one.same i).0 left) | inr right ↦ inr ((two.same i).0 right) ]),
      λ h. elim ((are.same i).0 h) [
        | inl left ↦ Contains-append_left front back i ((one.same i).1 left)
        | inr right ↦ Contains-append_right front back i ((two.same i).1 right)
      ],
    );
  }
