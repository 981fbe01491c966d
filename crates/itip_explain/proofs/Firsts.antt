-- In the sorted list, the first item with a key is the latest of it, and is told before all equal ones.
use Rattle.std.proofs.Common.{◌≡◌, ◌<◌, ◌≤◌, ◌-◌, ℕ, zero, suc, List, [], ◌∷◌, ◌++◌, length, get_or, map, refl, sym, ◌∙◌, ap, subst}
use Rattle.std.proofs.Common.{inl, inr, ◌↔◌, IsTrue, Some}
use Rattle.std.proofs.Common.{arith, Bool, true, false, not, ◌&&◌, cond, Bor}
use Rattle.std.specs.List.{Contains, filter}
use Rattle.std.specs.List.Sorted.{IsPartitionedBy, IsPartitionPoint, ties}
use Rattle.std.specs.Ordering.{is_eq, is_lt, ordering_then, ordering_reverse}
use Rattle.std.specs.Cmp.{IsTotalOrder, tied_itself}
use Rattle.std.specs.declared.cmp.Ordering.{Ordering}
use Rattle.std.specs.declared.cmp.Ordering.TheVariants.{Less, Equal, Greater}
use Rattle.std.proofs.lemmas.Bool.{cases_lt}
use Rattle.std.proofs.lemmas.Cmp.{then_total, on_total, back_total}
use Rattle.std.proofs.lemmas.List.{length-map, get_or_default}
use Rattle.std.proofs.lemmas.List.Sorted.{ranks_by, sorted_far, IsPermutation-sym, Contains-permutation}
use Rattle.std.proofs.Math.ListN.{get_or-map}
use Rattle.itip_items.specs.RevisionOrder.{revision_cmp, IsLater}
use Rattle.itip_items.specs.Revisions.{revisions_total}
use Rattle.itip_items.specs.declared.item.Item.{Item}
use Rattle.itip_items.specs.declared.key.Key.{Key}
use Rattle.itip_state.specs.Kept.{IsBest}
use Rattle.itip_state.proofs.Best.{less_than_later}
use Rattle.itip_state.proofs.Members.{by_bool, none_in, cons_cases, cons_first, cons_later}
use Rattle.itip_report.specs.Lines.{place_cmp}
use Rattle.itip_report.proofs.Placing.{place_total, place_exact}
use Rattle.itip_explain.specs.Latest.{told_cmp, is_before, AreLatestFirst}
use Rattle.itip_explain.specs.Told.{heard_of, IsFirstToTell, IsBestTold}
use Rattle.itip_explain.specs.declared.told.ToldItem.{ToldItem}

pub told_total : IsTotalOrder told_cmp
told_total =
    then_total (on_total (λ (one : ToldItem). one.item.key) place_total)
    (on_total (λ (one : ToldItem). one.item) (back_total revisions_total))

-- members of a mapped list
module _ {X Y : Type 0} (f : X → Y) where
  pub into_map : (xs : List X) (x : X) → Contains xs x → Contains (map f xs) (f x)
  into_map xs x h = (h.0, rw (length-map xs f) h.1, get_or-map f xs h.0 x ∙ ap f h.2)

  pub from_map : (xs : List X) (y : Y) → Contains (map f xs) y → (x : X) × Contains xs x × (f x ≡ y)
  from_map [] y h = absurd (none_in y h)
  from_map (x ∷ xs) y h = elim (cons_cases (f x) (map f xs) y h) [
    | inl first ↦ (x, cons_first x xs, first)
    | inr rest ↦ let r = from_map xs y rest in (r.0, cons_later x xs r.0 r.1, r.2)
  ]

  pub map_append : (xs ys : List X) → map f (xs ++ ys) ≡ map f xs ++ map f ys
  map_append [] ys = refl
  map_append (x ∷ xs) ys = ap (λ (zs : List Y). f x ∷ zs) (map_append xs ys)

-- the first of a list that passes a test
pub record PassesFirst {X : Type 0} (p : X → Bool) (xs : List X) (x : X) : Type 0 where
  pub before : List X
  pub after : List X
  pub cut : xs ≡ before ++ x ∷ after
  pub none : (z : X) → Contains before z → p z ≡ false

module _ {X : Type 0} (p : X → Bool) where
  -- it is the first of those that pass
  pub first_passes : (xs : List X) (i : ℕ) (x : X) → i < length xs → x ≡ get_or xs i x → p x ≡ true →
      ((j : ℕ) (d : X) → j < i → p (get_or xs j d) ≡ false) → (rest : List X) × (filter p xs ≡ x ∷ rest)
  first_passes [] i x below is passes none = absurd (omega (arith, below))
  first_passes (y ∷ ys) zero x below is passes none = (
    filter p ys,
    ap (λ b. cond b (y ∷ filter p ys) (filter p ys)) (ap p (sym is) ∙ passes) ∙ ap (λ (z : X). z ∷ filter p ys) (sym is),
  )
  first_passes (y ∷ ys) (suc i) x below is passes none =
      let later = first_passes ys i x (omega (arith, below)) is passes (λ j d lt. none (suc j) d (omega (arith, lt))) in
      (later.0, ap (λ b. cond b (y ∷ filter p ys) (filter p ys)) (none zero y (omega arith)) ∙ later.1)

  same_head : (x y : X) (xs ys : List X) → x ∷ xs ≡ y ∷ ys → x ≡ y
  same_head x y xs ys e = cc

  pub cut_there : (xs : List X) (x : X) (rest : List X) → filter p xs ≡ x ∷ rest → PassesFirst p xs x
  cut_there [] x rest e = absurd (let no : [] ≡ x ∷ rest = e in cc)
  cut_there (y ∷ ys) x rest e = by_bool (p y) (PassesFirst p (y ∷ ys) x)
      (λ passes. record {
        before = [];
        after = ys;
        cut = ap (λ (z : X). z ∷ ys)
            (same_head y x (filter p ys) rest (sym (ap (λ b. cond b (y ∷ filter p ys) (filter p ys)) passes) ∙ e));
        none = λ z h. absurd (none_in z h);
      })
      (λ fails.
      let later = cut_there ys x rest (sym (ap (λ b. cond b (y ∷ filter p ys) (filter p ys)) fails) ∙ e) in
      record {
        before = y ∷ later.before;
        after = later.after;
        cut = ap (λ (zs : List X). y ∷ zs) later.cut;
        none = λ z h. elim (cons_cases y later.before z h) [ inl first ↦ ap p (sym first) ∙ fails | inr other ↦ later.none z other ];
      })

less_is : (o : Ordering) → is_lt o ≡ true → o ≡ Less
less_is Less e = refl
less_is Equal e = cc
less_is Greater e = cc

-- an item that isn't before another isn't before it by key either
key_not_before : (a b : ToldItem) → is_lt (told_cmp b a) ≡ false → is_lt (place_cmp b.item.key a.item.key) ≡ false
key_not_before a b h =
    elim (place_cmp b.item.key a.item.key) as (λ o. place_cmp b.item.key a.item.key ≡ o → is_lt o ≡ false) [
      | Less ↦ λ e. sym (ap (λ o. is_lt (ordering_then o (revision_cmp a.item b.item))) e) ∙ h
      | Equal ↦ λ e. refl
      | Greater ↦ λ e. refl
    ] refl

-- an item with the same key isn't later
pub not_later_than : (a b : ToldItem) → b.item.key ≡ a.item.key → is_lt (told_cmp b a) ≡ false → ¬ IsLater b.item a.item
not_later_than a b same h later =
    let tied : place_cmp b.item.key a.item.key ≡ Equal = ap (λ (k : Key). place_cmp k a.item.key) same ∙
    tied_itself place_total a.item.key in
    let x : true ≡ false = sym (ap (λ o. is_lt (ordering_then o (revision_cmp a.item b.item))) tied ∙
    ap is_lt (less_than_later b.item a.item later)) ∙ h in cc

-- an item that isn't before another has a key below `k` only if the other has
below_back : (k : Key) (a b : ToldItem) → is_lt (told_cmp b a) ≡ false → is_lt (place_cmp b.item.key k) ≡ true →
    is_lt (place_cmp a.item.key k) ≡ true
below_back k a b h below =
    let less : place_cmp b.item.key k ≡ Less = less_is (place_cmp b.item.key k) below in
    elim (place_cmp a.item.key b.item.key) as (λ o. place_cmp a.item.key b.item.key ≡ o → is_lt (place_cmp a.item.key k) ≡ true) [
      | Less ↦ λ e. ap is_lt (place_total.trans a.item.key b.item.key k e less)
      | Equal ↦ λ e. ap is_lt (place_total.congr a.item.key b.item.key k e ∙ less)
      | Greater ↦ λ e. let turned : place_cmp b.item.key a.item.key ≡ Less = place_total.antisymm b.item.key a.item.key ∙
          ap ordering_reverse e in
          let x : true ≡ false = sym (ap is_lt turned) ∙ key_not_before a b h in absurd (cc)
    ] refl

-- a key that is neither before nor after another is the same
neither : (a b : Key) → is_lt (place_cmp a b) ≡ false → is_lt (place_cmp b a) ≡ false → a ≡ b
neither a b h g =
    elim (place_cmp a b) as (λ o. place_cmp a b ≡ o → a ≡ b) [
      | Less ↦ λ e. let x : true ≡ false = sym (ap is_lt e) ∙ h in absurd (cc)
      | Equal ↦ λ e. place_exact a b e
      | Greater ↦ λ e. let turned : place_cmp b a ≡ Less = place_total.antisymm b a ∙ ap ordering_reverse e in
          let x : true ≡ false = sym (ap is_lt turned) ∙ g in absurd (cc)
    ] refl

and_false : (a b : Bool) → b ≡ false → (a && b) ≡ false
and_false true b e = e
and_false false b e = refl

-- told items, sorted
module _ (given sorted : List (Bor ToldItem)) (order : AreLatestFirst given sorted) where
  pub far : (i j : ℕ) (d : Bor ToldItem) → i ≤ j → j < length sorted → is_before (get_or sorted j d) (get_or sorted i d) ≡ false
  far = sorted_far is_before (ranks_by told_total (λ (one : Bor ToldItem). one.now)) sorted order.up

  pub in_order : (one : Bor ToldItem) → Contains given one → Contains sorted one
  in_order one h = Contains-permutation given sorted one order.moved h

  pub from_order : (one : Bor ToldItem) → Contains sorted one → Contains given one
  from_order one h = Contains-permutation sorted given one (IsPermutation-sym given sorted order.moved) h

  module _ (key : Key) where
    abbrev pub is_below : Bor ToldItem → Bool
    is_below one = is_lt (place_cmp one.now.item.key key)

    pub parted : IsPartitionedBy is_below sorted
    parted i j d up inside h = below_back key (get_or sorted i d).now (get_or sorted j d).now (far i j d up inside) h

    module _ (place : ℕ) (split : IsPartitionPoint (λ one. is_below one ≡ true) (λ one. is_below one ≡ false) sorted place) where
      -- an item with the key isn't before the place
      behind : (one : Bor ToldItem) (h : Contains sorted one) → one.now.item.key ≡ key → place ≤ h.0
      behind one h about = elim (cases_lt h.0 place) [
        | inl lt ↦
            let here : is_below one ≡ true = ap is_below (sym h.2) ∙ split.0 h.0 one (omega arith) lt in
            let tied : is_below one ≡ false = ap is_lt (ap (λ (k : Key). place_cmp k key) about ∙ tied_itself place_total key) in
            let x : true ≡ false = sym here ∙ tied in absurd (cc)
        | inr ge ↦ ge
      ]

      module _ (one : Bor ToldItem) (there : Contains sorted one) (about : one.now.item.key ≡ key) where
        pub inside : place < length sorted
        inside = let low : place ≤ there.0 = behind one there about in let high : there.0 < length sorted = there.1 in omega arith

        module _ (first : Bor ToldItem) (is : first ≡ get_or sorted place first) where
          -- nothing of the key is before it
          not_before : (other : Bor ToldItem) (h : Contains sorted other) → other.now.item.key ≡ key → is_before other first ≡ false
          not_before other h same =
              ap (λ (z : Bor ToldItem). is_before z first) (sym h.2) ∙ ap (λ (z : Bor ToldItem). is_before (get_or sorted h.0 other) z)
              (is ∙ default) ∙ far place h.0 other (behind other h same) h.1
            where
              default : get_or sorted place first ≡ get_or sorted place other
              default = get_or_default sorted place first other inside

          pub at_key : first.now.item.key ≡ key
          at_key =
              let low : is_lt (place_cmp first.now.item.key key) ≡ false = ap is_below is ∙ split.1 place first (omega arith) inside in
              let high : is_lt (place_cmp key first.now.item.key) ≡ false =
              ap (λ (k : Key). is_lt (place_cmp k first.now.item.key)) (sym about) ∙
              key_not_before first.now one.now (not_before one there about) in
              neither first.now.item.key key low high

          first_in : Contains sorted first
          first_in = (place, inside, sym is)

          pub best_there : IsBest (heard_of (map (λ one. one.now) given)) key first.now.item
          best_there = record {
            is_heard = into_map (λ (t : ToldItem). t.item) (map (λ one. one.now) given) first.now
                (into_map (λ (z : Bor ToldItem). z.now) given first (from_order first first_in));
            about = at_key;
            none_later = λ other h same.
                let t = from_map (λ (t : ToldItem). t.item) (map (λ one. one.now) given) other h in
                let z = from_map (λ (z : Bor ToldItem). z.now) given t.0 t.1 in
                let item : z.0.now.item ≡ other = ap (λ (t : ToldItem). t.item) z.2 ∙ t.2 in
                let k : z.0.now.item.key ≡ key = ap (λ (i : Item). i.key) item ∙ same in
                subst (λ (i : Item). ¬ IsLater i first.now.item) item
                (not_later_than first.now z.0.now (k ∙ sym at_key) (not_before z.0 (in_order z.0 z.1) k));
          }

          -- what is equal to it ties with it
          tied : (z : Bor ToldItem) → z.now.item ≡ first.now.item → ties is_before first z ≡ true
          tied z same =
              let here : told_cmp first.now z.now ≡ Equal =
              ap (λ (i : Item). ordering_then (place_cmp first.now.item.key i.key) (revision_cmp i first.now.item)) same ∙
              tied_itself told_total first.now in
              let there : told_cmp z.now first.now ≡ Equal =
              ap (λ (i : Item). ordering_then (place_cmp i.key first.now.item.key) (revision_cmp first.now.item i)) same ∙
              tied_itself told_total first.now in
              (λ i. not (is_lt (here i)) && not (is_lt (there i)))

          -- what is before it doesn't
          earlier : (j : ℕ) (d : Bor ToldItem) → j < place → ties is_before first (get_or sorted j d) ≡ false
          earlier j d lt =
              let below : is_below (get_or sorted j d) ≡ true = split.0 j d (omega arith) lt in
              let less : place_cmp (get_or sorted j d).now.item.key first.now.item.key ≡ Less =
              ap (λ (k : Key). place_cmp (get_or sorted j d).now.item.key k) at_key ∙
              less_is (place_cmp (get_or sorted j d).now.item.key key) below in
              let before : is_before (get_or sorted j d) first ≡ true =
              ap (λ o. is_lt (ordering_then o (revision_cmp first.now.item (get_or sorted j d).now.item))) less in
              and_false (not (is_before first (get_or sorted j d))) (not (is_before (get_or sorted j d) first)) (ap not before)

          pub first_there : IsFirstToTell (map (λ one. one.now) given) first.now.item first.now.place
          first_there =
              let passes = first_passes (ties is_before first) sorted place first inside is (tied first refl) earlier in
              let cut = cut_there (ties is_before first) given first passes.0 (sym (order.stable first) ∙ passes.1) in
              record {
                before = map (λ one. one.now) cut.before;
                first = first.now;
                after = map (λ one. one.now) cut.after;
                cut = ap (map (λ one. one.now)) cut.cut ∙ map_append (λ (z : Bor ToldItem). z.now) cut.before (first ∷ cut.after);
                tells = refl;
                none_before = λ h.
                    let t = from_map (λ (t : ToldItem). t.item) (map (λ one. one.now) cut.before) first.now.item h in
                    let z = from_map (λ (z : Bor ToldItem). z.now) cut.before t.0 t.1 in
                    let x : true ≡ false = sym (tied z.0 (ap (λ (t : ToldItem). t.item) z.2 ∙ t.2)) ∙ cut.none z.0 z.1 in cc;
                place_is = refl;
              }

          pub told_there : IsBestTold (map (λ one. one.now) given) key first.now
          told_there = record { best = best_there; first = first_there }

-- for each told item there is a sorted one with its key
pub one_of_key : (told : List ToldItem) (given sorted : List (Bor ToldItem)) → map (λ one. one.now) given ≡ told →
    AreLatestFirst given sorted → (item : Item) → Contains (heard_of told) item →
    (one : Bor ToldItem) × Contains sorted one × (one.now.item.key ≡ item.key)
one_of_key told given sorted are order item h =
    let t = from_map (λ (t : ToldItem). t.item) told item h in
    let z = from_map (λ (z : Bor ToldItem). z.now) given t.0 (subst (λ (ts : List ToldItem). Contains ts t.0) (sym are) t.1) in
    (z.0, in_order given sorted order z.0 z.1, ap (λ (t : ToldItem). t.item.key) z.2 ∙ ap (λ (i : Item). i.key) t.2)

equal_is : (o : Ordering) → is_eq o ≡ true → o ≡ Equal
equal_is Less e = cc
equal_is Equal e = refl
equal_is Greater e = cc

-- keys are the same if they are at the same place
pub at_place : (a b : Key) (found : Bool) → found ≡ is_eq (place_cmp a b) → IsTrue found ↔ (Some a ≡ Some b)
at_place a b found e = (
  λ t. ap Some (place_exact a b (equal_is (place_cmp a b) (sym e ∙ t))),
  λ s. let same : a ≡ b = cc in e ∙ ap is_eq (ap (λ (k : Key). place_cmp k b) same ∙ tied_itself place_total b),
)
