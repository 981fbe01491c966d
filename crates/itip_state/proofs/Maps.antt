-- What a map by UID holds, UID by UID.
use Rattle.std.proofs.Common.{◌≡◌, ℕ, List, [], ◌∷◌, ◌++◌, ◌<◌, ◌↔◌, refl, sym, ◌∙◌, ap, subst, inl, inr, true, false, arith, Option, Some}
use Rattle.std.proofs.Common.{None, length, append-nil}
use Rattle.std.specs.List.{Contains}
use Rattle.std.specs.Map.{keys_of}
use Rattle.std.specs.Ordering.{nat_cmp, is_eq}
use Rattle.std.specs.declared.cmp.Ordering.{Ordering}
use Rattle.std.specs.Cmp.Lexicographic.{slice_cmp}
use Rattle.std.proofs.lemmas.Cmp.{nat_list_cmp_total}
use Rattle.std.proofs.lemmas.List.Elements.{Contains-append_cases, Contains-append_left, Contains-append_right}
use Rattle.std.proofs.lemmas.Map.Keys.{sorted_tail}
use Rattle.std.proofs.lemmas.Map.Lookups.{exact_bytes}
use Rattle.itip_join.specs.Optional.{IsBelowAt}
use Rattle.itip_items.specs.KeyParts.{uid_of}
use Rattle.itip_items.specs.declared.item.Item.{Item}
use Rattle.itip_state.specs.Kept.{IsBest, AreKept, ArePart, SameItems}
use Rattle.itip_state.specs.Order.{IsState, IsBelow}
use Rattle.itip_state.specs.Held.{UidState, uid_state_items, items_of, at, IsSound, AreOrdered, AreSound, AreHeld, HoldKept}
use Rattle.itip_state.specs.Joined.{IsUidStateBelow, AreBelow, IsJoined, IsJoinedAt}
use Rattle.itip_state.proofs.Members.{by_bool, none_in, cons_first}
use Rattle.itip_state.proofs.Lookups.{one_key, itself, at_head, at_other, none_in_tail, value_from_all, all_from_values}
use Rattle.itip_state.proofs.Best.{best_above}
use Rattle.itip_state.proofs.Keeping.{kept_in_part, are_kept_same, more_by_below, series_kept, below_both_ways, below_from_same}
use Rattle.itip_state.proofs.UidStates.{about, is_state}
use Rattle.itip_state.proofs.Comparing.{below_kept, kept_below}
use Rattle.itip_state.proofs.Joining.{placed_of_two, items_of_two}

abbrev pub uid_cmp : List ℕ → List ℕ → Ordering
uid_cmp = slice_cmp nat_cmp

first_of : (xs : List Item) → 0 < length xs → (i : Item) × Contains xs i
first_of [] h = absurd (omega (arith, h))
first_of (x ∷ xs) h = (x, cons_first x xs)

-- if something is heard, something is kept
kept_some : (z h : List Item) → AreKept z h → (i : Item) → Contains h i → 0 < length z
kept_some [] h kept i there =
    let found = best_above h i there in
    let best = found.1 in
    absurd (none_in found.0 ((kept found.0).1 (record {
      best = subst (λ k. IsBest h k found.0) (sym best.about) best;
      alive = λ dead. none_in dead.series ((kept dead.series).1 (series_kept h (uid_of (found.0).key) dead.series dead.best));
    })))
kept_some (z ∷ zs) h kept i there = omega arith

-- ---- sets UID by UID
pub kept_from_parts : (z h : List Item) (zs hs : List ℕ → List Item) → ((uid : List ℕ) → ArePart uid (zs uid) z) →
    ((uid : List ℕ) → ArePart uid (hs uid) h)
    → ((uid : List ℕ) → AreKept (zs uid) (hs uid)) → AreKept z h
kept_from_parts z h zs hs z_is h_is kept i =
    let uid : List ℕ = uid_of i.key in
    let two = kept_in_part uid (hs uid) h (h_is uid) i refl in
    (λ there. two.0 ((kept uid i).0 ((z_is uid i).1 (there, refl))), λ is. ((z_is uid i).0 ((kept uid i).1 (two.1 is))).0)

pub kept_to_part : (uid : List ℕ) (z h zu hu : List Item) → ArePart uid zu z → ArePart uid hu h → AreKept z h → AreKept zu hu
kept_to_part uid z h zu hu z_is h_is kept i = (
  λ there. let one = (z_is i).0 there in (kept_in_part uid hu h h_is i one.1).1 ((kept i).0 one.0),
  λ is. let of_uid : uid_of i.key ≡ uid = ((h_is i).0 is.best.is_heard).1 in
      (z_is i).1 ((kept i).1 ((kept_in_part uid hu h h_is i of_uid).0 is), of_uid),
)

pub part_append : (uid : List ℕ) (xu yu x y : List Item) → ArePart uid xu x → ArePart uid yu y → ArePart uid (xu ++ yu) (x ++ y)
part_append uid xu yu x y p q i = (
  λ h. elim (Contains-append_cases xu yu i h) [
    | inl left ↦ let r = (p i).0 left in (Contains-append_left x y i r.0, r.1)
    | inr right ↦ let r = (q i).0 right in (Contains-append_right x y i r.0, r.1)
  ],
  λ h. elim (Contains-append_cases x y i h.0) [
    | inl left ↦ Contains-append_left xu yu i ((p i).1 (left, h.1))
    | inr right ↦ Contains-append_right xu yu i ((q i).1 (right, h.1))
  ],
)

-- ---- one UID, of which nothing may be held
abbrev pub items_at : Option UidState → List Item
items_at None = []
items_at (Some sh) = uid_state_items sh

abbrev pub IsSoundAt : List ℕ → Option UidState → Type 0
IsSoundAt uid None = Unit {0}
IsSoundAt uid (Some sh) = IsSound uid sh × (0 < length (uid_state_items sh))

nothing_kept : AreKept [] []
nothing_kept i = (λ h. absurd (none_in i h), λ kept. kept.best.is_heard)

state_at : (uid : List ℕ) (a : Option UidState) → IsSoundAt uid a → AreKept (items_at a) (items_at a)
state_at uid None p = nothing_kept
state_at uid (Some v) p = is_state uid v p.0

below_kept_at : (uid : List ℕ) (a b : Option UidState) → IsSoundAt uid a → IsSoundAt uid b → IsBelowAt IsUidStateBelow a b →
    AreKept (items_at b) (items_at a ++ items_at b)
below_kept_at uid None b p q le = state_at uid b q
below_kept_at uid (Some v) None p q le = absurd le
below_kept_at uid (Some v) (Some w) p q le = below_kept uid v w p.0 q.0 le

kept_below_at : (uid : List ℕ) (a b : Option UidState) → IsSoundAt uid a → IsSoundAt uid b →
    AreKept (items_at b) (items_at a ++ items_at b) → IsBelowAt IsUidStateBelow a b
kept_below_at uid None b p q kept = tt
kept_below_at uid (Some v) None p q kept =
    let some = first_of (uid_state_items v) p.1 in
    let x : 0 < 0 = kept_some [] (uid_state_items v ++ []) kept some.0 (Contains-append_left (uid_state_items v) [] some.0 some.1) in
    absurd (omega (arith, x))
kept_below_at uid (Some v) (Some w) p q kept = kept_below uid v w p.0 q.0 kept

-- the join of two has what is kept of their items
module _ (uid : List ℕ) (a b c : UidState) (p : IsSound uid a) (q : IsSound uid b) (j : IsJoined a b c) where
  joined_sound : IsSound uid c
  joined_sound = record { placed = placed_of_two uid a b c j.of_two j.whole p.placed q.placed; whole = j.whole }

  same_of_two : SameItems (uid_state_items a ++ (uid_state_items b ++ uid_state_items c)) (uid_state_items a ++ uid_state_items b)
  same_of_two i = (
    λ h. elim (Contains-append_cases (uid_state_items a) (uid_state_items b ++ uid_state_items c) i h) [
      | inl left ↦ Contains-append_left (uid_state_items a) (uid_state_items b) i left
      | inr rest ↦ elim (Contains-append_cases (uid_state_items b) (uid_state_items c) i rest) [
        | inl right ↦ Contains-append_right (uid_state_items a) (uid_state_items b) i right
        | inr new ↦ elim (items_of_two uid a b c j.of_two j.whole p q joined_sound i new) [
          | inl left ↦ Contains-append_left (uid_state_items a) (uid_state_items b) i left
          | inr right ↦ Contains-append_right
              (uid_state_items a) (uid_state_items b) i right
        ]
      ]
    ],
    λ h. elim (Contains-append_cases (uid_state_items a) (uid_state_items b) i h) [
      | inl left ↦ Contains-append_left (uid_state_items a) (uid_state_items b ++ uid_state_items c) i left
      | inr right ↦ Contains-append_right (uid_state_items a) (uid_state_items b ++ uid_state_items c) i
          (Contains-append_left (uid_state_items b) (uid_state_items c) i right)
    ],
  )

  kept_of_two : AreKept (uid_state_items c) (uid_state_items a ++ uid_state_items b)
  kept_of_two = are_kept_same (uid_state_items c) (uid_state_items a ++ (uid_state_items b ++ uid_state_items c)) (uid_state_items a ++
      uid_state_items b) same_of_two
      (more_by_below (uid_state_items a) (uid_state_items b) (uid_state_items c) (is_state uid a p)
      (below_kept uid a c p joined_sound j.above_first) (below_kept uid b c q joined_sound j.above_second))

joined_at : (uid : List ℕ) (a b c : Option UidState) → IsSoundAt uid a → IsSoundAt uid b → IsJoinedAt a b c → IsSoundAt uid c ×
    AreKept (items_at c) (items_at a ++ items_at b)
joined_at uid None b c p q e =
    subst (λ (o : Option UidState). IsSoundAt uid o × AreKept (items_at o) (items_at b)) (sym e) (q, state_at uid b q)
joined_at uid (Some a) None c p q e =
    subst (λ (o : Option UidState). IsSoundAt uid o × AreKept (items_at o) (uid_state_items a ++ [])) (sym e)
    (p, subst (AreKept (uid_state_items a)) (sym (append-nil (uid_state_items a))) (is_state uid a p.0))
joined_at uid (Some a) (Some b) c p q (joined, e, j) =
    let some = first_of (uid_state_items a) p.1 in
    let kept = kept_of_two uid a b joined p.0 q.0 j in
    let there : 0 < length (uid_state_items joined) =
    kept_some (uid_state_items joined) (uid_state_items a ++ uid_state_items b) kept some.0
    (Contains-append_left (uid_state_items a) (uid_state_items b) some.0 some.1) in
    subst (λ (o : Option UidState). IsSoundAt uid o × AreKept (items_at o) (uid_state_items a ++ uid_state_items b)) (sym e)
    ((joined_sound uid a b joined p.0 q.0 j, there), kept)

-- ---- maps
pub sound_at : (es : List (List ℕ × UidState)) → AreSound es → (uid : List ℕ) → IsSoundAt uid (at es uid)
sound_at es p uid = by (at es uid) refl
  where
    by : (o : Option UidState) → at es uid ≡ o → IsSoundAt uid (at es uid)
    by None e = subst (IsSoundAt uid) (sym e) tt
    by (Some v) e = subst (IsSoundAt uid) (sym e)
        (value_from_all nat_list_cmp_total exact_bytes (λ f. IsSoundAt f.0 (Some f.1)) es p uid v e)

pub all_sound : (es : List (List ℕ × UidState)) → AreOrdered es → ((uid : List ℕ) → IsSoundAt uid (at es uid)) → AreSound es
all_sound es s p = all_from_values nat_list_cmp_total exact_bytes (λ f. IsSoundAt f.0 (Some f.1)) es s
    (λ uid v e. subst (IsSoundAt uid) e (p uid))

module _ (e : List ℕ × UidState) (es : List (List ℕ × UidState)) (s : AreOrdered (e ∷ es)) (p : AreSound (e ∷ es)) (uid : List ℕ)
    (rest : ArePart uid (items_at (at es uid)) (items_of es)) (i : Item) where
  of_first : Contains (uid_state_items e.1) i → uid_of i.key ≡ e.0
  of_first h = about e.0 e.1 p.0.0 i h

  here : is_eq (uid_cmp uid e.0) ≡ true → Contains (items_at (at (e ∷ es) uid)) i ↔ (Contains (items_of (e ∷ es)) i × (uid_of i.key ≡ uid))
  here k =
      let key : uid ≡ e.0 = one_key nat_list_cmp_total exact_bytes uid e.0 k in
      let found : at (e ∷ es) uid ≡ Some e.1 = ap (at (e ∷ es)) key ∙ at_head nat_list_cmp_total exact_bytes e es in
      let none : at es uid ≡ None = none_in_tail nat_list_cmp_total exact_bytes e es uid s k in (
        λ h. let g : Contains (uid_state_items e.1) i = subst (λ (o : Option UidState). Contains (items_at o) i) found h in
            (Contains-append_left (uid_state_items e.1) (items_of es) i g, of_first g ∙ sym key),
        λ h. subst (λ (o : Option UidState). Contains (items_at o) i) (sym found)
            (elim (Contains-append_cases (uid_state_items e.1) (items_of es) i h.0) [
              | inl left ↦ left
              | inr right ↦ absurd (none_in i (subst (λ (o : Option UidState). Contains (items_at o) i) none ((rest i).1 (right, h.1))))
            ]),
      )

  apart : is_eq (uid_cmp uid e.0) ≡ false → Contains (items_at (at (e ∷ es) uid)) i ↔
      (Contains (items_of (e ∷ es)) i × (uid_of i.key ≡ uid))
  apart k =
      let found : at (e ∷ es) uid ≡ at es uid = at_other nat_list_cmp_total exact_bytes e es uid k in (
        λ h. let r = (rest i).0 (subst (λ (o : Option UidState). Contains (items_at o) i) found h) in
            (Contains-append_right (uid_state_items e.1) (items_of es) i r.0, r.1),
        λ h. subst (λ (o : Option UidState). Contains (items_at o) i) (sym found)
            (elim (Contains-append_cases (uid_state_items e.1) (items_of es) i h.0) [
              | inl left ↦ let same : is_eq (uid_cmp uid e.0) ≡ true =
                  itself_by (sym h.1 ∙ of_first left) in let x : true ≡ false = sym same ∙
                  k in absurd (cc)
              | inr right ↦ (rest i).1 (right, h.1)
            ]),
      )
    where
      itself_by : uid ≡ e.0 → is_eq (uid_cmp uid e.0) ≡ true
      itself_by same = ap (λ (u : List ℕ). is_eq (uid_cmp u e.0)) same ∙ itself nat_list_cmp_total exact_bytes e.0

part_by : (es : List (List ℕ × UidState)) → AreOrdered es → AreSound es → (uid : List ℕ) → ArePart uid (items_at (at es uid)) (items_of es)
part_by [] s p uid i = (λ h. absurd (none_in i h), λ h. h.0)
part_by (e ∷ es) s p uid i =
    let rest = part_by es (sorted_tail uid_cmp e.0 (keys_of es) s) p.1 uid in
    by_bool (is_eq (uid_cmp uid e.0)) (Contains (items_at (at (e ∷ es) uid)) i ↔ (Contains (items_of (e ∷ es)) i × (uid_of i.key ≡ uid)))
    (here e es s p uid rest i) (apart e es s p uid rest i)

pub part_at : (es : List (List ℕ × UidState)) → AreHeld es → (uid : List ℕ) → ArePart uid (items_at (at es uid)) (items_of es)
part_at es held = part_by es held.ordered held.sound

module _ (xs zs : List (List ℕ × UidState)) (p : AreHeld xs) (r : AreHeld zs) where
  both_parts : (uid : List ℕ) → ArePart uid (items_at (at xs uid) ++ items_at (at zs uid)) (items_of xs ++ items_of zs)
  both_parts uid = part_append uid (items_at (at xs uid)) (items_at (at zs uid)) (items_of xs) (items_of zs) (part_at xs p uid)
      (part_at zs r uid)

  pub state_below : AreBelow xs zs → IsBelow (items_of xs) (items_of zs)
  state_below le = kept_from_parts (items_of zs) (items_of xs ++ items_of zs) (λ uid. items_at (at zs uid)) (λ uid. items_at (at xs uid) ++
      items_at (at zs uid))
      (part_at zs r) both_parts (λ uid. below_kept_at uid (at xs uid) (at zs uid) (sound_at xs p.sound uid) (sound_at zs r.sound uid)
      (le uid))

  pub held_below : IsBelow (items_of xs) (items_of zs) → AreBelow xs zs
  held_below kept uid = kept_below_at uid (at xs uid) (at zs uid) (sound_at xs p.sound uid) (sound_at zs r.sound uid)
      (kept_to_part uid (items_of zs) (items_of xs ++ items_of zs) (items_at (at zs uid)) (items_at (at xs uid) ++ items_at (at zs uid))
      (part_at zs r uid) (both_parts uid) kept)

pub held_state : (es : List (List ℕ × UidState)) → AreHeld es → IsState (items_of es)
held_state es p = kept_from_parts (items_of es) (items_of es) (λ uid. items_at (at es uid)) (λ uid. items_at (at es uid)) (part_at es p)
    (part_at es p)
    (λ uid. state_at uid (at es uid) (sound_at es p.sound uid))

-- two maps that tell no more than each other have the same items
pub same_held : (xs zs : List (List ℕ × UidState)) → AreHeld xs → AreHeld zs → AreBelow xs zs → AreBelow zs xs →
    SameItems (items_of xs) (items_of zs)
same_held xs zs p r up down = below_both_ways (items_of xs) (items_of zs) (state_below xs zs p r up) (state_below zs xs r p down)

pub below_same : (xs zs : List (List ℕ × UidState)) → AreHeld xs → AreHeld zs → SameItems (items_of xs) (items_of zs) → AreBelow xs zs
below_same xs zs p r same = held_below xs zs p r (below_from_same (items_of xs) (items_of zs) (held_state zs r) same)

-- the join of two maps is what is kept of both
pub joined_held : (xs ys zs : List (List ℕ × UidState)) → AreHeld xs → AreHeld ys → AreOrdered zs →
    ((uid : List ℕ) → IsJoinedAt (at xs uid) (at ys uid) (at zs uid))
    → HoldKept (items_of xs ++ items_of ys) zs
joined_held xs ys zs p q ordered join = record {
  held = held;
  kept = kept_from_parts (items_of zs) (items_of xs ++ items_of ys) (λ uid. items_at (at zs uid)) (λ uid. items_at (at xs uid) ++
      items_at (at ys uid))
      (part_at zs held) (both_parts xs ys p q) (λ uid. (each uid).1);
}
  where
    each : (uid : List ℕ) → IsSoundAt uid (at zs uid) × AreKept (items_at (at zs uid)) (items_at (at xs uid) ++ items_at (at ys uid))
    each uid = joined_at uid (at xs uid) (at ys uid) (at zs uid) (sound_at xs p.sound uid) (sound_at ys q.sound uid) (join uid)

    held : AreHeld zs
    held = record { ordered = ordered; sound = all_sound zs ordered (λ uid. (each uid).0) }
