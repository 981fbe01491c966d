-- What is held is in the order of keys, each item once.
use Rattle.std.proofs.Common.{◌≡◌, ℕ, ◌<◌, List, [], ◌∷◌, refl, sym, ◌∙◌, ap, subst, inl, inr, true, false, get_or, length, arith}
use Rattle.std.specs.List.{Contains, AllByRecursion, AllPairs}
use Rattle.std.specs.Map.{keys_of}
use Rattle.std.specs.Ordering.{nat_cmp, ordering_then}
use Rattle.std.specs.Cmp.{tied_itself}
use Rattle.std.specs.Cmp.Lexicographic.{slice_cmp}
use Rattle.std.specs.declared.cmp.Ordering.{Ordering}
use Rattle.std.specs.declared.cmp.Ordering.TheVariants.{Less, Equal, Greater}
use Rattle.std.proofs.lemmas.Cmp.{nat_list_cmp_total}
use Rattle.std.proofs.lemmas.List.Elements.{Contains-append_cases, Contains-append_left, Contains-append_right}
use Rattle.std.proofs.lemmas.List.Kept.{AllPairs-cons}
use Rattle.std.proofs.lemmas.Map.Keys.{sorted_head, sorted_tail}
use Rattle.itip_join.specs.declared.lift.Lift.{Lift}
use Rattle.itip_join.specs.declared.lift.Lift.TheVariants.{Nothing, Known}
use Rattle.itip_items.specs.KeyParts.{uid_of}
use Rattle.itip_items.specs.declared.item.Item.{Item}
use Rattle.itip_items.specs.declared.key.Key.{Key}
use Rattle.itip_items.specs.declared.key.Key.TheVariants.{Series, Instance, Range, Answer, Refresh}
use Rattle.itip_state.specs.Kept.{AreSeriesOf, AreUidsOf, IsSeries, HasEachOnce, AscendKeys}
use Rattle.itip_state.specs.Slots.{rest_cmp, key_cmp, slot_cmp, key_total}
use Rattle.itip_state.specs.Held.{Best, UidState, is_series, series_items, entry_items, uid_state_items, items_of, series_list, IsEntryAt}
use Rattle.itip_state.specs.Held.{IsSound, AreOrdered, AreSound, AreHeld}
use Rattle.itip_state.proofs.Ascending.{pairs_ascend}
use Rattle.itip_state.proofs.Members.{none_in, cons_cases, cons_first, cons_later, all_each, no_pairs, pairs_append}
use Rattle.itip_state.proofs.UidStates.{AreSorted, known_items, known_key, held_as, about, entry_there}

abbrev pub IsBefore : Item → Item → Type 0
IsBefore a b = key_cmp a.key b.key ≡ Less

tie_uid : (a b : Key) → uid_of a ≡ uid_of b → key_cmp a b ≡ rest_cmp a b
tie_uid a b e = ap (λ o. ordering_then o (rest_cmp a b)) (ap (λ u. slice_cmp nat_cmp u (uid_of b)) e ∙
    tied_itself nat_list_cmp_total (uid_of b))

then_tied : (o p : Ordering) → p ≡ Equal → ordering_then o p ≡ o
then_tied Less p e = refl
then_tied Equal p e = e
then_tied Greater p e = refl

-- keys of one UID are in the same order as keys and as slots
pub slot_is_key : (a b : Key) → uid_of a ≡ uid_of b → slot_cmp a b ≡ key_cmp a b
slot_is_key a b e =
    let tied : slice_cmp nat_cmp (uid_of a) (uid_of b) ≡ Equal = ap (λ u. slice_cmp nat_cmp u (uid_of b)) e ∙
    tied_itself nat_list_cmp_total (uid_of b) in
    then_tied (rest_cmp a b) (slice_cmp nat_cmp (uid_of a) (uid_of b)) tied ∙ sym (tie_uid a b e)

-- a series item comes before the other items of its UID
series_before : (k : Key) (uid : List ℕ) → uid_of k ≡ uid → is_series k ≡ false → key_cmp (Series uid) k ≡ Less
series_before (Series u) uid e s = let x : true ≡ false = s in absurd (cc)
series_before (Instance u i) uid e s = tie_uid (Series uid) (Instance u i) (sym e)
series_before (Range u i) uid e s = tie_uid (Series uid) (Range u i) (sym e)
series_before (Answer u i a) uid e s = tie_uid (Series uid) (Answer u i a) (sym e)
series_before (Refresh u i a) uid e s = tie_uid (Series uid) (Refresh u i a) (sym e)

-- ---- one UID
all_after : (uid : List ℕ) (k : Key) (es : List (Key × Best)) → uid_of k ≡ uid →
    AllByRecursion (λ (y : Key). slot_cmp k y ≡ Less) (keys_of es) → AllByRecursion (λ e. IsEntryAt uid e.0 e.1) es
    → (i : Item) → Contains (entry_items es) i → key_cmp k i.key ≡ Less
all_after uid k [] of_uid a p i h = absurd (none_in i h)
all_after uid k (e ∷ es) of_uid a p i h = elim (cons_cases e.1.value (entry_items es) i h) [
  | inl same ↦ subst (λ (q : Key). key_cmp k q ≡ Less) (sym p.0.in_place ∙ ap (λ (j : Item). j.key) same)
      (sym (slot_is_key k e.0 (of_uid ∙ sym p.0.about)) ∙ a.0)
  | inr rest ↦ all_after uid k es of_uid a.1 p.1 i rest
]

entries_ascend : (uid : List ℕ) (es : List (Key × Best)) → AreSorted es → AllByRecursion (λ e. IsEntryAt uid e.0 e.1) es →
    AllPairs IsBefore (entry_items es)
entries_ascend uid [] s p = no_pairs IsBefore
entries_ascend uid (e ∷ es) s p = AllPairs-cons IsBefore e.1.value (entry_items es)
    (all_each (IsBefore e.1.value) (entry_items es)
    (λ i h. subst (λ (q : Key). key_cmp q i.key ≡ Less) (sym p.0.in_place)
    (all_after uid e.0 es p.0.about (sorted_head slot_cmp e.0 (keys_of es) s) p.1 i h)))
    (entries_ascend uid es (sorted_tail slot_cmp e.0 (keys_of es) s) p.1)

one_pair : (s : Lift Best) → AllPairs IsBefore (series_items s)
one_pair Nothing = no_pairs IsBefore
one_pair (Known s) = AllPairs-cons IsBefore s.value [] (all_each (IsBefore s.value) [] (λ i h. absurd (none_in i h))) (no_pairs IsBefore)

pub uid_state_ascends : (uid : List ℕ) (sh : UidState) → IsSound uid sh → AscendKeys (uid_state_items sh)
uid_state_ascends uid sh sound =
    pairs_append IsBefore (series_items sh.series) (entry_items sh.entries) (one_pair sh.series)
    (entries_ascend uid sh.entries sound.whole.sorted sound.placed.entries)
    (λ i j h g.
    let there = (entry_there uid sh.entries sound.whole.sorted sound.placed.entries j g).1 in
    subst (λ (q : Key). key_cmp q j.key ≡ Less) (sym (known_key uid sh sound i (known_items sh.series i h)))
    (series_before j.key uid there.about there.other))

-- ---- all UIDs
-- what holds for each UID that is held holds for the UID of each item
of_uids : (P : List ℕ → Type 0) (es : List (List ℕ × UidState)) → AreSound es → AllByRecursion P (keys_of es) → (i : Item) →
    Contains (items_of es) i → P (uid_of i.key)
of_uids P [] s a i h = absurd (none_in i h)
of_uids P (e ∷ es) s a i h = elim (Contains-append_cases (uid_state_items e.1) (items_of es) i h) [
  | inl here ↦ subst P (sym (about e.0 e.1 s.0.0 i here)) a.0
  | inr rest ↦ of_uids P es s.1 a.1 i rest
]

uid_below : (a b : Key) → slice_cmp nat_cmp (uid_of a) (uid_of b) ≡ Less → key_cmp a b ≡ Less
uid_below a b e = ap (λ o. ordering_then o (rest_cmp a b)) e

items_ascend : (es : List (List ℕ × UidState)) → AreOrdered es → AreSound es → AscendKeys (items_of es)
items_ascend [] s p = no_pairs IsBefore
items_ascend (e ∷ es) s p =
    pairs_append IsBefore (uid_state_items e.1) (items_of es) (uid_state_ascends e.0 e.1 p.0.0)
    (items_ascend es (sorted_tail (slice_cmp nat_cmp) e.0 (keys_of es) s) p.1)
    (λ i j h g. uid_below i.key j.key (subst (λ (u : List ℕ). slice_cmp nat_cmp u (uid_of j.key) ≡ Less) (sym (about e.0 e.1 p.0.0 i h))
    (of_uids (λ u. slice_cmp nat_cmp e.0 u ≡ Less) es p.1 (sorted_head (slice_cmp nat_cmp) e.0 (keys_of es) s) j g)))

once_from_ascending : (xs : List Item) → AscendKeys xs → HasEachOnce xs
once_from_ascending xs a = λ i j d below inside. apart (get_or xs i d) (get_or xs j d) (a i j d below inside)
  where
    apart : (x y : Item) → key_cmp x.key y.key ≡ Less → x ≡ y → ⊥
    apart x y e same = let z : Less ≡ Equal = sym e ∙ ap (λ (k : Item). key_cmp k.key y.key) same ∙ tied_itself key_total y.key in cc

pub held_once : (es : List (List ℕ × UidState)) → AreHeld es → HasEachOnce (items_of es)
held_once es held = once_from_ascending (items_of es) (items_ascend es held.ordered held.sound)

-- ---- series items
abbrev IsUidBefore : Item → Item → Type 0
IsUidBefore a b = slice_cmp nat_cmp (uid_of a.key) (uid_of b.key) ≡ Less

series_among : (es : List (List ℕ × UidState)) → AreSound es → (i : Item) → Contains (series_list es) i → Contains (items_of es) i ×
    IsSeries i
series_among [] s i h = absurd (none_in i h)
series_among (e ∷ es) s i h = elim (Contains-append_cases (series_items e.1.series) (series_list es) i h) [
  | inl here ↦
      let key : i.key ≡ Series e.0 = known_key e.0 e.1 s.0.0 i (known_items e.1.series i here) in (
        Contains-append_left (uid_state_items e.1) (items_of es) i
            (Contains-append_left (series_items e.1.series) (entry_items e.1.entries) i here),
        key ∙ ap Series (sym (ap uid_of key)),
      )
  | inr rest ↦ let r = series_among es s.1 i rest in (Contains-append_right (uid_state_items e.1) (items_of es) i r.0, r.1)
]

series_all : (es : List (List ℕ × UidState)) → AreSound es → (i : Item) → Contains (items_of es) i → IsSeries i →
    Contains (series_list es) i
series_all [] s i h is = absurd (none_in i h)
series_all (e ∷ es) s i h is = elim (Contains-append_cases (uid_state_items e.1) (items_of es) i h) [
  | inl here ↦ elim (held_as e.0 e.1 s.0.0 i here) [
    | inl known ↦ Contains-append_left (series_items e.1.series) (series_list es) i
        (subst (λ (t : Lift Best). Contains (series_items t) i) (sym known.0) (cons_first i []))
    | inr other ↦ let x : true ≡ false = sym (ap is_series is) ∙ other.1 in absurd (cc)
  ]
  | inr rest ↦ Contains-append_right (series_items e.1.series) (series_list es) i (series_all es s.1 i rest is)
]

one_series : (s : Lift Best) → AllPairs IsUidBefore (series_items s)
one_series Nothing = no_pairs IsUidBefore
one_series (Known s) =
    AllPairs-cons IsUidBefore s.value [] (all_each (IsUidBefore s.value) [] (λ i h. absurd (none_in i h))) (no_pairs IsUidBefore)

series_ascend : (es : List (List ℕ × UidState)) → AreOrdered es → AreSound es → AllPairs IsUidBefore (series_list es)
series_ascend [] s p = no_pairs IsUidBefore
series_ascend (e ∷ es) s p =
    pairs_append IsUidBefore (series_items e.1.series) (series_list es) (one_series e.1.series)
    (series_ascend es (sorted_tail (slice_cmp nat_cmp) e.0 (keys_of es) s) p.1)
    (λ i j h g. subst (λ (u : List ℕ). slice_cmp nat_cmp u (uid_of j.key) ≡ Less)
    (sym (ap uid_of (known_key e.0 e.1 p.0.0 i (known_items e.1.series i h))))
    (of_uids (λ u. slice_cmp nat_cmp e.0 u ≡ Less) es p.1 (sorted_head (slice_cmp nat_cmp) e.0 (keys_of es) s) j
    (series_among es p.1 j g).0))

pub series_of : (es : List (List ℕ × UidState)) → AreHeld es → AreSeriesOf (series_list es) (items_of es)
series_of es held = record {
  ascend = series_ascend es held.ordered held.sound;
  each = series_among es held.sound;
  all =
      series_all es held.sound;
}

-- ---- UIDs
some_in : (xs : List Item) → 0 < length xs → (i : Item) × Contains xs i
some_in [] h = absurd (omega (arith, h))
some_in (x ∷ xs) h = (x, cons_first x xs)

uids_each : (es : List (List ℕ × UidState)) → AreSound es → (uid : List ℕ) → Contains (keys_of es) uid → (i : Item) ×
    Contains (items_of es) i × (uid_of i.key ≡ uid)
uids_each [] s uid h = absurd (none_in uid h)
uids_each (e ∷ es) s uid h = elim (cons_cases e.0 (keys_of es) uid h) [
  | inl same ↦ let one = some_in (uid_state_items e.1) s.0.1 in
      (one.0, Contains-append_left (uid_state_items e.1) (items_of es) one.0 one.1, about e.0 e.1 s.0.0 one.0 one.1 ∙ same)
  | inr rest ↦ let one = uids_each es s.1 uid rest in (one.0, Contains-append_right (uid_state_items e.1) (items_of es) one.0 one.1, one.2)
]

uids_all : (es : List (List ℕ × UidState)) → AreSound es → (i : Item) → Contains (items_of es) i → Contains (keys_of es) (uid_of i.key)
uids_all [] s i h = absurd (none_in i h)
uids_all (e ∷ es) s i h = elim (Contains-append_cases (uid_state_items e.1) (items_of es) i h) [
  | inl here ↦ subst (Contains (e.0 ∷ keys_of es)) (sym (about e.0 e.1 s.0.0 i here)) (cons_first e.0 (keys_of es))
  | inr rest ↦ cons_later e.0 (keys_of es) (uid_of i.key) (uids_all es s.1 i rest)
]

pub uids_of : (es : List (List ℕ × UidState)) → AreHeld es → AreUidsOf (keys_of es) (items_of es)
uids_of es held = record {
  ascend = pairs_ascend (slice_cmp nat_cmp) (keys_of es) held.ordered;
  each = uids_each es held.sound;
  all =
      uids_all es held.sound;
}
