-- What is held once an item was heard.
use Rattle.std.proofs.Common.{◌≡◌, ℕ, List, [], ◌∷◌, ◌++◌, ◌<◌, refl, sym, ◌∙◌, ap, subst, true, false, arith, Option, Some, None, length}
use Rattle.std.specs.Prelude.{cond}
use Rattle.std.specs.Ordering.{is_eq}
use Rattle.std.specs.Cmp.{eq_by_cmp_equiv}
use Rattle.std.specs.List.Sorted.{IsStrictlySortedBy}
use Rattle.std.proofs.lemmas.Cmp.{nat_list_cmp_total}
use Rattle.std.proofs.lemmas.Map.Lookups.{exact_bytes}
use Rattle.itip_join.specs.declared.lift.Lift.TheVariants.{Nothing, Known}
use Rattle.itip_items.specs.KeyParts.{uid_of}
use Rattle.itip_items.specs.declared.item.Item.{Item}
use Rattle.itip_state.specs.Kept.{AreKept}
use Rattle.itip_state.specs.Held.{UidState, best, is_series, items_of, uid_state_items, alone, at, IsSound, AreOrdered, AreHeld, HoldKept}
use Rattle.itip_state.specs.Joined.{IsJoinedAt}
use Rattle.itip_state.proofs.Members.{by_bool, none_in}
use Rattle.itip_state.proofs.Lookups.{one_key, at_head, at_other}
use Rattle.itip_state.proofs.Keeping.{are_kept_by, kept_beside}
use Rattle.itip_state.proofs.Tests.{series_key}
use Rattle.itip_state.proofs.Maps.{uid_cmp, joined_held}

-- one item alone is in place and reduced, and is the only one
alone_sound : (item : Item) → IsSound (uid_of item.key) (alone item) × (0 < length (uid_state_items (alone item)))
unfolding IsStrictlySortedBy
alone_sound item =
    elim (is_series item.key) as (λ b. is_series item.key ≡ b →
    IsSound (uid_of item.key) (cond b (record { series = Known (best item); entries = [] })
    (record { series = Nothing; entries = (item.key, best item) ∷ [] }))
    × (0 < length (uid_state_items (cond b (record { series = Known (best item); entries = [] })
    (record { series = Nothing; entries = (item.key, best item) ∷ [] }))))) [
      | true ↦ λ e. (
        record {
          placed = record { series = series_key item.key e; entries = tt };
          whole =
              record { sorted = tt; alive = refl };
        },
        omega arith,
      )
      | false ↦ λ e. (
        record {
          placed = record { series = tt; entries = (record { in_place = refl; about = refl; other = e }, tt) };
          whole = record { sorted = (tt, tt); alive = refl };
        },
        omega arith,
      )
    ] refl

alone_items : (item : Item) → uid_state_items (alone item) ≡ item ∷ []
alone_items item =
    elim (is_series item.key) as (λ b. uid_state_items
    (cond b (record { series = Known (best item); entries = [] })
    (record { series = Nothing; entries = (item.key, best item) ∷ [] })) ≡ item ∷ []) [ true ↦ refl | false ↦ refl ]

one_held : (item : Item) → AreHeld ((uid_of item.key, alone item) ∷ [])
unfolding IsStrictlySortedBy
one_held item = record { ordered = (tt, tt); sound = (alone_sound item, tt) }

joined_none : (o : Option UidState) → IsJoinedAt o None o
joined_none None = refl
joined_none (Some a) = refl

module _ (item : Item) (xs zs : List (List ℕ × UidState)) (ordered : AreOrdered zs)
    (joined : IsJoinedAt (at xs (uid_of item.key)) (Some (alone item)) (at zs (uid_of item.key)))
    (others : (q : List ℕ) → is_eq (uid_cmp (uid_of item.key) q) ≡ false → at zs q ≡ at xs q) where
  abbrev u : List ℕ
  u = uid_of item.key

  abbrev ys : List (List ℕ × UidState)
  ys = (u, alone item) ∷ []

  each : (q : List ℕ) → IsJoinedAt (at xs q) (at ys q) (at zs q)
  each q = by_bool (is_eq (uid_cmp u q)) (IsJoinedAt (at xs q) (at ys q) (at zs q))
      (λ k. subst (λ (r : List ℕ). IsJoinedAt (at xs r) (at ys r) (at zs r)) (one_key nat_list_cmp_total exact_bytes u q k)
      (subst (λ (o : Option UidState). IsJoinedAt (at xs u) o (at zs u)) (sym (at_head nat_list_cmp_total exact_bytes (u, alone item) []))
      joined))
      (λ k. subst (λ (o : Option UidState). IsJoinedAt (at xs q) o (at zs q))
      (sym (at_other nat_list_cmp_total exact_bytes (u, alone item) [] q ((eq_by_cmp_equiv nat_list_cmp_total).symm q u ∙ k)))
      (subst (IsJoinedAt (at xs q) None) (sym (others q k)) (joined_none (at xs q))))

  pub heard_once : (heard : List Item) → HoldKept heard xs → HoldKept (heard ++ item ∷ []) zs
  heard_once heard holds =
      let all = joined_held xs ys zs holds.held (one_held item) ordered each in
      let mine : items_of ys ≡ item ∷ [] = ap (λ (is : List Item). is ++ []) (alone_items item) in
      record {
        held = all.held;
        kept = are_kept_by (items_of zs) (items_of xs ++ item ∷ []) (heard ++ item ∷ [])
            (kept_beside heard (item ∷ []) (items_of xs) holds.kept)
            (subst (λ (is : List Item). AreKept (items_of zs) (items_of xs ++ is)) mine all.kept);
      }

-- if nothing was heard, nothing is held
pub hold_nothing : HoldKept [] []
unfolding IsStrictlySortedBy
hold_nothing = record { held = record { ordered = tt; sound = tt }; kept = λ i. (λ h. absurd (none_in i h), λ kept. kept.best.is_heard) }
