-- The laws of what is kept.
use Rattle.std.proofs.Common.{◌≡◌, ℕ, List, [], ◌++◌, ◌<◌, ◌≤◌, ◌↔◌, refl, sym, ◌∙◌, ap, subst, inl, inr, arith, append_assoc, append-nil}
use Rattle.std.specs.List.{Contains}
use Rattle.std.specs.Ordering.{nat_cmp, MatchOrdering}
use Rattle.std.specs.declared.cmp.Ordering.TheVariants.{Less, Equal, Greater}
use Rattle.std.proofs.lemmas.Cmp.{ranked}
use Rattle.std.proofs.lemmas.List.Elements.{Contains-append_cases, Contains-append_left, Contains-append_right}
use Rattle.itip_items.specs.RevisionOrder.{IsLater}
use Rattle.itip_items.specs.KeyParts.{uid_of}
use Rattle.itip_items.specs.declared.item.Item.{Item}
use Rattle.itip_items.specs.declared.key.Key.{Key}
use Rattle.itip_items.specs.declared.key.Key.TheVariants.{Series}
use Rattle.itip_state.specs.Kept.{IsBest, IsDead, IsKept, CanDie, AreKept, ArePart, SameItems}
use Rattle.itip_state.specs.Order.{IsState, IsBelow, IsLeastUpperBound}
use Rattle.itip_state.proofs.Best.{best_above, not_later_transitive, later_transitive, not_later_itself, greater_eff}

-- each item of the first set is in the second
abbrev pub AreAmong : List Item → List Item → Type 0
AreAmong part whole = (i : Item) → Contains part i → Contains whole i

-- what isn't later has no greater effective sequence
pub eff_up : (i j : Item) → (¬ IsLater i j) → i.eff ≤ j.eff
eff_up i j not =
    elim (nat_cmp i.eff j.eff) as (λ o. nat_cmp i.eff j.eff ≡ o → i.eff ≤ j.eff) [
      | Less ↦ λ e. let x : i.eff < j.eff =
          subst (λ o. MatchOrdering o (i.eff < j.eff) (i.eff ≡ j.eff) (j.eff < i.eff)) e (ranked i.eff j.eff (nat_cmp i.eff j.eff) refl) in
          omega arith
      | Equal ↦ λ e. let x : i.eff ≡ j.eff =
          subst (λ o. MatchOrdering o (i.eff < j.eff) (i.eff ≡ j.eff) (j.eff < i.eff)) e (ranked i.eff j.eff (nat_cmp i.eff j.eff) refl) in
          omega arith
      | Greater ↦ λ e. absurd (not (greater_eff i j
          (subst (λ o. MatchOrdering o (i.eff < j.eff) (i.eff ≡ j.eff) (j.eff < i.eff)) e (ranked i.eff j.eff (nat_cmp i.eff j.eff) refl))))
    ] refl

-- A part covers a set if it has all that is kept of the set, and only items of the set.
abbrev pub Covers : List Item → List Item → Type 0
Covers part whole = (i : Item) → (Contains part i → Contains whole i) × (IsKept whole i → Contains part i)

pub covers_kept : (kept x : List Item) → AreKept kept x → Covers kept x
covers_kept kept x are i = (λ h. ((are i).0 h).best.is_heard, (are i).1)

pub covers_itself : (x : List Item) → Covers x x
covers_itself x i = (λ h. h, λ kept. kept.best.is_heard)

-- the best of a set is the best of each part that it is in
pub best_part : (whole part : List Item) (k : Key) (i : Item) → AreAmong part whole → IsBest whole k i → Contains part i → IsBest part k i
best_part whole part k i among best h = record {
  is_heard = h;
  about = best.about;
  none_later = λ j at same. best.none_later j (among j at) same;
}

-- a series item that is best is kept
pub series_kept : (heard : List Item) (uid : List ℕ) (s : Item) → IsBest heard (Series uid) s → IsKept heard s
series_kept heard uid s best = record {
  best = subst (λ (k : Key). IsBest heard k s) (sym best.about) best;
  alive = λ dead. subst CanDie best.about dead.can_die;
}

-- a best series item is at or above each series item of its UID
series_above : (heard : List Item) (uid : List ℕ) (s : Item) → Contains heard s → s.key ≡ Series uid → (t : Item) ×
    IsBest heard (Series uid) t × (s.eff ≤ t.eff)
series_above heard uid s h about =
    let found = best_above heard s h in
    let best : IsBest heard (Series uid) found.0 = subst (λ (k : Key). IsBest heard k found.0) about found.1 in
    (found.0, best, eff_up s found.0 (best.none_later s h about))

-- what is kept of a set is kept of each part that it is in
pub kept_part : (whole part : List Item) (i : Item) → AreAmong part whole → IsKept whole i → Contains part i → IsKept part i
kept_part whole part i among kept h = record {
  best = best_part whole part i.key i among kept.best h;
  alive = λ dead.
      let above = series_above whole (uid_of i.key) dead.series (among dead.series dead.best.is_heard) dead.best.about in
      kept.alive (record {
        can_die = dead.can_die;
        series = above.0;
        best = above.1;
        below = let x : i.eff < dead.series.eff =
            dead.below in let y : dead.series.eff ≤ (above.0).eff = above.2 in omega arith;
      });
}

-- what is kept depends only on which items there are
pub kept_same : (x y : List Item) (i : Item) → SameItems x y → IsKept x i → IsKept y i
kept_same x y i same kept = kept_part x y i (λ j h. (same j).1 h) kept ((same i).0 kept.best.is_heard)

-- In a set that has all that a part keeps, nothing of the part is later than what is kept.
none_later_in : (part kept_part whole : List Item) (i j : Item) → Covers kept_part part → AreAmong kept_part whole → IsKept whole i →
    Contains part j → j.key ≡ i.key → ¬ IsLater j i
none_later_in part kept_of whole i j are among kept h about later =
    let found = best_above part j h in
    let b : Item = found.0 in
    let best : IsBest part j.key b = found.1 in
    not_later_transitive j b i (best.none_later j h refl) (λ over. not_dead b best over (dead_below b best over)) later
  where
    not_dead : (b : Item) → IsBest part j.key b → IsLater b i → (¬ IsDead part b) → ⊥
    not_dead b best over alive =
        let is : IsKept part b = record { best = subst (λ (k : Key). IsBest part k b) (sym best.about) best; alive = alive } in
        kept.best.none_later b (among b ((are b).1 is)) (best.about ∙ about) over

    dead_below : (b : Item) → IsBest part j.key b → IsLater b i → ¬ IsDead part b
    dead_below b best over dead =
        let same : b.key ≡ i.key = best.about ∙ about in
        let uid : uid_of b.key ≡ uid_of i.key = ap uid_of same in
        let s : Item = dead.series in
        let there : Contains whole s = among s ((are s).1 (series_kept part (uid_of b.key) s dead.best)) in
        let above = series_above whole (uid_of i.key) s there (subst (λ u. s.key ≡ Series u) uid dead.best.about) in
        let up : i.eff ≤ b.eff = eff_up i b (λ under. not_later_itself i (later_transitive i b i under over)) in
        let x : b.eff < s.eff = dead.below in
        let y : s.eff ≤ (above.0).eff = above.2 in
        kept.alive (record { can_die = subst CanDie same dead.can_die; series = above.0; best = above.1; below = omega arith })

module _ (x y kept_x kept_y : List Item) (hx : Covers kept_x x) (hy : Covers kept_y y) where
  pub in_whole : AreAmong (kept_x ++ kept_y) (x ++ y)
  in_whole i h =
      elim (Contains-append_cases kept_x kept_y i h) [
        | inl left ↦ Contains-append_left x y i ((hx i).0 left)
        | inr right ↦ Contains-append_right x y i ((hy i).0 right)
      ]

  pub kept_down : (i : Item) → IsKept (x ++ y) i → IsKept (kept_x ++ kept_y) i
  kept_down i kept =
      let there : Contains (kept_x ++ kept_y) i = elim (Contains-append_cases x y i kept.best.is_heard) [
        | inl left ↦ Contains-append_left kept_x kept_y i ((hx i).1 (kept_part (x ++ y) x i (Contains-append_left x y) kept left))
        | inr right ↦ Contains-append_right kept_x kept_y i ((hy i).1 (kept_part (x ++ y) y i (Contains-append_right x y) kept right))
      ] in
      kept_part (x ++ y) (kept_x ++ kept_y) i in_whole kept there

  series_down : (uid : List ℕ) (s : Item) → IsBest (x ++ y) (Series uid) s → IsBest (kept_x ++ kept_y) (Series uid) s
  series_down uid s best =
      subst (λ (k : Key). IsBest (kept_x ++ kept_y) k s) best.about (kept_down s (series_kept (x ++ y) uid s best)).best

  pub kept_up : (i : Item) → IsKept (kept_x ++ kept_y) i → IsKept (x ++ y) i
  kept_up i kept = record {
    best = record {
      is_heard = in_whole i kept.best.is_heard;
      about = refl;
      none_later = λ j h about. elim (Contains-append_cases x y j h) [
        | inl left ↦ none_later_in x kept_x (kept_x ++ kept_y) i j hx (Contains-append_left kept_x kept_y) kept left about
        | inr right ↦ none_later_in y kept_y (kept_x ++ kept_y) i j hy (Contains-append_right kept_x kept_y) kept right about
      ];
    };
    alive = λ dead. kept.alive (record {
      can_die = dead.can_die;
      series = dead.series;
      best =
          series_down (uid_of i.key) dead.series dead.best;
      below = dead.below;
    });
  }

-- what is kept of two parts that cover two sets is what is kept of the sets
pub kept_of_parts : (x y part_x part_y : List Item) → Covers part_x x → Covers part_y y → (i : Item) → IsKept (part_x ++ part_y) i ↔
    IsKept (x ++ y) i
kept_of_parts x y part_x part_y hx hy i = (kept_up x y part_x part_y hx hy i, kept_down x y part_x part_y hx hy i)

-- what is kept of what was kept is what is kept of all
pub kept_of_kept_lem : (x y kept_x kept_y : List Item) → AreKept kept_x x → AreKept kept_y y → (i : Item) → IsKept (kept_x ++ kept_y) i ↔
    IsKept (x ++ y) i
kept_of_kept_lem x y kept_x kept_y hx hy = kept_of_parts x y kept_x kept_y (covers_kept kept_x x hx) (covers_kept kept_y y hy)

-- the same next to a set from which nothing was left out
pub kept_beside : (x y kept_x : List Item) → AreKept kept_x x → (i : Item) → IsKept (kept_x ++ y) i ↔ IsKept (x ++ y) i
kept_beside x y kept_x hx = kept_of_parts x y kept_x y (covers_kept kept_x x hx) (covers_itself y)

-- the same items in another order, or twice
pub same_swapped : (x y : List Item) → SameItems (x ++ y) (y ++ x)
same_swapped x y i = (swap x y, swap y x)
  where
    swap : (a b : List Item) → Contains (a ++ b) i → Contains (b ++ a) i
    swap a b h = elim (Contains-append_cases a b i h)
        [ inl left ↦ Contains-append_right b a i left | inr right ↦ Contains-append_left b a i right ]

pub same_absorbed : (x y : List Item) → AreAmong x y → SameItems (x ++ y) y
same_absorbed x y among i =
    (λ h. elim (Contains-append_cases x y i h) [ inl left ↦ among i left | inr right ↦ right ], Contains-append_right x y i)

-- two sets with the same items keep the same
pub kept_iff : (x y : List Item) → SameItems x y → (i : Item) → IsKept x i ↔ IsKept y i
kept_iff x y same i = (kept_same x y i same, kept_same y x i (λ j. ((same j).1, (same j).0)))

pub are_kept_same : (kept x y : List Item) → SameItems x y → AreKept kept x → AreKept kept y
are_kept_same kept x y same are i = (λ h. (kept_iff x y same i).0 ((are i).0 h), λ k. (are i).1 ((kept_iff x y same i).1 k))

-- the kept items of the one set are those of another that keeps the same
pub are_kept_by : (kept x y : List Item) → ((i : Item) → IsKept x i ↔ IsKept y i) → AreKept kept x → AreKept kept y
are_kept_by kept x y iff are i = (λ h. (iff i).0 ((are i).0 h), λ k. (are i).1 ((iff i).1 k))

pub below_itself : (x : List Item) → IsState x → IsBelow x x
below_itself x is = are_kept_same x x (x ++ x) (λ i. (Contains-append_left x x i, (same_absorbed x x (λ j h. h) i).0)) is

-- a state with the same items is above
pub below_from_same : (x z : List Item) → IsState z → SameItems x z → IsBelow x z
below_from_same x z is same = are_kept_same z z (x ++ z) (λ i. let two = same_absorbed x z (λ j. (same j).0) i in (two.1, two.0)) is

-- z is what is kept of x and z, if it is what is kept of x, y and z
below_by_more : (x y z : List Item) → IsState x → IsBelow y z → AreKept z (x ++ (y ++ z)) → IsBelow x z
below_by_more x y z is below all =
    are_kept_by z (x ++ (y ++ z)) (x ++ z) (λ i. let two = kept_of_kept_lem x (y ++ z) x z is below i in (two.1, two.0)) all

pub more_by_below : (x y z : List Item) → IsState x → IsBelow x z → IsBelow y z → AreKept z (x ++ (y ++ z))
more_by_below x y z is below_x below_y = are_kept_by z (x ++ z) (x ++ (y ++ z)) (kept_of_kept_lem x (y ++ z) x z is below_y) below_x

pub below_transitive : (x y z : List Item) → IsState x → IsState z → IsBelow x y → IsBelow y z → IsBelow x z
below_transitive x y z is_x is_z xy yz =
    let all : AreKept z ((x ++ y) ++ z) = are_kept_by z (y ++ z) ((x ++ y) ++ z) (kept_of_kept_lem (x ++ y) z y z xy is_z) yz in
    below_by_more x y z is_x yz (subst (λ (w : List Item). AreKept z w) (append_assoc x y z) all)

pub below_both_ways : (x y : List Item) → IsBelow x y → IsBelow y x → SameItems x y
below_both_ways x y xy yx i = (
  λ h. (xy i).1 (kept_same (y ++ x) (x ++ y) i (same_swapped y x) ((yx i).0 h)),
  λ h. (yx i).1 (kept_same (x ++ y) (y ++ x) i (same_swapped x y) ((xy i).0 h)),
)

pub least_upper : (x y bound : List Item) → IsState x → IsState y → AreKept bound (x ++ y) → IsLeastUpperBound x y bound
least_upper x y bound is_x is_y are = record {
  is_state = are_kept_by bound (x ++ y) bound (λ i. let two = kept_of_kept_lem (x ++ y) (x ++ y) bound bound are are i in
      let once = kept_iff (bound ++ bound) bound (same_absorbed bound bound (λ j h. h)) i in
      let twice = kept_iff ((x ++ y) ++ (x ++ y)) (x ++ y) (same_absorbed (x ++ y) (x ++ y) (λ j h. h)) i in
      (λ k. once.0 (two.1 (twice.1 k)), λ k. twice.0 (two.0 (once.1 k)))) are;
  above_first = are_kept_by bound (x ++ y) (x ++ bound) (λ i. let two = kept_of_kept_lem x (x ++ y) x bound is_x are i in
      let again = kept_iff (x ++ (x ++ y)) (x ++ y) (same_absorbed x (x ++ y) (Contains-append_left x y)) i in
      (λ k. two.1 (again.1 k), λ k. again.0 (two.0 k))) are;
  above_second = are_kept_by bound (x ++ y) (y ++ bound) (λ i. let two = kept_of_kept_lem y (x ++ y) y bound is_y are i in
      let again = kept_iff (y ++ (x ++ y)) (x ++ y) (same_absorbed y (x ++ y) (Contains-append_right x y)) i in
      (λ k. two.1 (again.1 k), λ k. again.0 (two.0 k))) are;
  least = λ z is_z xz yz. are_kept_by z ((x ++ y) ++ z) (bound ++ z) (λ i. let two = kept_of_kept_lem (x ++ y) z bound z are is_z i in
      (two.1, two.0))
      (subst (λ (w : List Item). AreKept z w) (sym (append_assoc x y z)) (more_by_below x y z is_x xz yz));
}

-- what is kept of a UID depends on its items alone
pub kept_in_part : (uid : List ℕ) (part whole : List Item) → ArePart uid part whole → (i : Item) → uid_of i.key ≡ uid → IsKept part i ↔
    IsKept whole i
kept_in_part uid part whole is i of_uid = (up, λ kept. kept_part whole part i among kept ((is i).1 (kept.best.is_heard, of_uid)))
  where
    among : AreAmong part whole
    among j h = ((is j).0 h).0

    here : (j : Item) → Contains whole j → uid_of j.key ≡ uid_of i.key → Contains part j
    here j h same = (is j).1 (h, same ∙ of_uid)

    up : IsKept part i → IsKept whole i
    up kept = record {
      best = record {
        is_heard = among i kept.best.is_heard;
        about = refl;
        none_later = λ j at same. kept.best.none_later j (here j at (ap uid_of same)) same;
      };
      alive = λ dead. kept.alive (record {
        can_die = dead.can_die;
        series = dead.series;
        best = best_part whole part (Series (uid_of i.key)) dead.series among dead.best
            (here dead.series dead.best.is_heard (ap uid_of dead.best.about));
        below = dead.below;
      });
    }

pub kept_by_uid : (uid : List ℕ) (part whole kept_part_of kept_whole : List Item) → ArePart uid part whole → AreKept kept_part_of part →
    AreKept kept_whole whole → ArePart uid kept_part_of kept_whole
kept_by_uid uid part whole kept_part_of kept_whole is are_part are_whole i = (
  λ h. let kept : IsKept part i = (are_part i).0 h in
      let of_uid : uid_of i.key ≡ uid = ((is i).0 kept.best.is_heard).1 in
      ((are_whole i).1 ((kept_in_part uid part whole is i of_uid).0 kept), of_uid),
  λ h. (are_part i).1 ((kept_in_part uid part whole is i h.1).1 ((are_whole i).0 h.0)),
)

-- what is kept of what is kept
pub kept_again : (kept x : List Item) → AreKept kept x → (i : Item) → IsKept kept i ↔ IsKept x i
kept_again kept x are i =
    let two = kept_beside x [] kept are i in
    let P : List Item → List Item → Type 0 = λ a b. IsKept a i ↔ IsKept b i in
    subst (λ a. P a x) (append-nil kept) (subst (λ b. P (kept ++ []) b) (append-nil x) two)
