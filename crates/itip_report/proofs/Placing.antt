-- Items in the order of their keys that are sorted by place.
use Rattle.std.proofs.Common.{◌≡◌, ◌<◌, ℕ, zero, suc, List, [], ◌∷◌, refl, sym, ap, ◌∙◌, subst, map, get_or, length, Bool, true, false}
use Rattle.std.proofs.Common.{arith, Option, Some, None}
use Rattle.std.specs.List.{Contains, AllPairs, IsDistinct, AllByRecursion}
use Rattle.std.specs.List.Sorted.{IsPermutation, IsSortedBy}
use Rattle.std.specs.Option.{option_cmp}
use Rattle.std.specs.Ordering.{nat_cmp, int_cmp, ordering_then, ordering_reverse, is_lt, is_eq}
use Rattle.std.specs.Cmp.{IsTotalOrder, eq_by_cmp_equiv, tied_itself}
use Rattle.std.specs.Cmp.Lexicographic.{slice_cmp, options_total}
use Rattle.std.specs.declared.cmp.Ordering.{Ordering}
use Rattle.std.specs.declared.cmp.Ordering.TheVariants.{Less, Equal, Greater}
use Rattle.std.proofs.lemmas.Cmp.{then_total, on_total, nat_cmp_total, nat_list_cmp_total}
use Rattle.std.proofs.lemmas.List.{length-map}
use Rattle.std.proofs.lemmas.List.Sorted.{ranks_by, sorted_far}
use Rattle.std.proofs.lemmas.Map.Keys.{IsDistinct-IsPermutation, apart_from_distinct}
use Rattle.std.proofs.lemmas.Map.Lookups.{CmpEqualImpliesEq}
use Rattle.itip_moment.specs.Moment.{moment_day, moment_second}
use Rattle.itip_moment.specs.Order.{moment_cmp}
use Rattle.itip_moment.specs.OrderLaws.{moment_total}
use Rattle.itip_moment.specs.declared.moment.Moment.{Moment}
use Rattle.itip_items.specs.KeyParts.{uid_of, rank_of, instance_of, attendee_of}
use Rattle.itip_items.specs.declared.item.Item.{Item}
use Rattle.itip_items.specs.declared.key.Key.{Key}
use Rattle.itip_state.specs.Kept.{AscendKeys}
use Rattle.itip_state.specs.Slots.{time_cmp, key_cmp, key_total, key_exact, then_equal}
use Rattle.itip_state.proofs.Members.{no_pairs, cons_first, cons_later}
use Rattle.itip_state.proofs.Ordered.{IsBefore}
use Rattle.itip_state.proofs.OfKey.{head_pair, tail_pairs}
use Rattle.itip_report.specs.Lines.{place_cmp, AscendPlaces}

pub place_total : IsTotalOrder place_cmp
place_total =
    then_total (on_total uid_of nat_list_cmp_total)
    (then_total (on_total instance_of (options_total moment_total))
    (then_total (on_total attendee_of nat_list_cmp_total) (on_total rank_of nat_cmp_total)))

-- what is one instance has one time
one_time : (a b : Option Moment) → option_cmp moment_cmp a b ≡ Equal → option_cmp time_cmp a b ≡ Equal
one_time None None e = refl
one_time None (Some b) e = cc
one_time (Some a) None e = cc
one_time (Some a) (Some b) e =
    let days = then_equal (int_cmp (moment_day a) (moment_day b)) _ e in
    let seconds = then_equal (option_cmp nat_cmp (moment_second a) (moment_second b)) _ days.1 in
    λ i. ordering_then (days.0 i) (seconds.0 i)

-- keys at one place are one key
pub place_exact : CmpEqualImpliesEq place_cmp
place_exact a b e =
    let uids = then_equal (slice_cmp nat_cmp (uid_of a) (uid_of b)) _ e in
    let instances = then_equal (option_cmp moment_cmp (instance_of a) (instance_of b)) _ uids.1 in
    let others = then_equal (slice_cmp nat_cmp (attendee_of a) (attendee_of b)) _ instances.1 in
    let times = one_time (instance_of a) (instance_of b) instances.0 in
    key_exact a b (λ i. ordering_then (uids.0 i) (ordering_then (others.1 i) (ordering_then (times i)
    (ordering_then (others.0 i) (instances.0 i)))))

abbrev same_key : Item → Item → Bool
same_key a b = is_eq (key_cmp a.key b.key)

abbrev place_below : Item → Item → Bool
place_below a b = is_lt (place_cmp a.key b.key)

none_same : (a b : Item) → key_cmp a.key b.key ≡ Less → same_key a b ≡ false
none_same a b e = ap is_eq e

less_from : (a b : Key) → is_lt (place_cmp b a) ≡ false → is_eq (key_cmp a b) ≡ false → place_cmp a b ≡ Less
less_from a b not_below apart = by (place_cmp a b) refl
  where
    by : (o : Ordering) → place_cmp a b ≡ o → o ≡ Less
    by Less e = refl
    by Equal e =
        let same : a ≡ b = place_exact a b e in
        let x : true ≡ false = sym (ap is_eq (ap (λ k. key_cmp k b) same ∙ tied_itself key_total b)) ∙ apart in absurd (cc)
    by Greater e =
        let turned : place_cmp b a ≡ Less = place_total.antisymm b a ∙ ap ordering_reverse e in
        let x : true ≡ false = sym (ap is_lt turned) ∙ not_below in absurd (cc)

-- a fact about the pairs of a list carries over to what it is mapped to
get_map : {X : Type 0} (item_of : X → Item) (xs : List X) (i : ℕ) (d : Item) (e : X) → i < length xs →
    get_or (map item_of xs) i d ≡ item_of (get_or xs i e)
get_map item_of [] i d e h = absurd (omega (arith, h))
get_map item_of (x ∷ xs) zero d e h = refl
get_map item_of (x ∷ xs) (suc i) d e h = get_map item_of xs i d e (omega (arith, h))

pairs_map : {X : Type 0} (R : Item → Item → Type 0) (item_of : X → Item) (xs : List X) →
    AllPairs (λ (a b : X). R (item_of a) (item_of b)) xs → AllPairs R (map item_of xs)
pairs_map R item_of [] p = no_pairs R
pairs_map R item_of (x ∷ xs) p = λ i j d below inside.
    let long : j < length (x ∷ xs) = subst (λ n. j < n) (length-map (x ∷ xs) item_of) inside in
    subst (λ (a : Item). R a (get_or (map item_of (x ∷ xs)) j d)) (sym (get_map item_of (x ∷ xs) i d x (omega (arith, below, long))))
    (subst (λ (b : Item). R (item_of (get_or (x ∷ xs) i x)) b) (sym (get_map item_of (x ∷ xs) j d x long)) (p i j x below long))

module _ {X : Type 0} (item_of : X → Item) where
  abbrev same_keys : X → X → Bool
  same_keys a b = same_key (item_of a) (item_of b)

  all_apart : (a : X) (xs : List X) → ((b : Item) → Contains (map item_of xs) b → same_key (item_of a) b ≡ false) →
      AllByRecursion (λ b. same_keys a b ≡ false) xs
  all_apart a [] h = tt
  all_apart a (x ∷ xs) h =
      (h (item_of x) (cons_first (item_of x) (map item_of xs)), all_apart a xs (λ b g. h b (cons_later (item_of x) (map item_of xs) b g)))

  each_apart : (xs : List X) → AscendKeys (map item_of xs) → IsDistinct same_keys xs
  unfolding IsDistinct
  each_apart [] a = tt
  each_apart (x ∷ xs) a = (
    all_apart x xs (λ b h. none_same (item_of x) b (head_pair IsBefore (item_of x) (map item_of xs) a b h)),
    each_apart xs (tail_pairs IsBefore (item_of x) (map item_of xs) a),
  )

  -- a sort by place puts them in order
  pub places_ascend : (xs ys : List X) → AscendKeys (map item_of xs) → IsPermutation xs ys →
      IsSortedBy (λ a b. place_below (item_of a) (item_of b)) ys → AscendPlaces (map item_of ys)
  places_ascend xs ys keys moved up = pairs_map (λ (a b : Item). place_cmp a.key b.key ≡ Less) item_of ys (λ i j d below inside.
      less_from (item_of (get_or ys i d)).key (item_of (get_or ys j d)).key
      (sorted_far (λ a b. place_below (item_of a) (item_of b)) (ranks_by place_total (λ a. (item_of a).key)) ys up i j d
      (omega (arith, below)) inside)
      (apart_from_distinct same_keys ys i j d
      (IsDistinct-IsPermutation same_keys (λ a b. (eq_by_cmp_equiv key_total).symm (item_of a).key (item_of b).key) xs ys moved
      (each_apart xs keys)) below inside))
