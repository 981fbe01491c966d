-- The range items of a UID that stand, step by step, and which of them rules a moment.
use Rattle.std.proofs.Common.{◌≡◌, ◌-◌, ◌<◌, ◌≤◌, ℕ, List, [], ◌∷◌, ◌++◌, length, get_or, sym, ◌∙◌, ap, subst, inl, inr, Bool, true, false}
use Rattle.std.proofs.Common.{not, refl, arith, Option}
use Rattle.std.specs.List.{Contains}
use Rattle.std.specs.List.Sorted.{IsPartitionPoint, IsPartitionedBy, IsPermutation, IsSortedBy}
use Rattle.std.specs.Ordering.{is_gt, is_lt, ordering_reverse}
use Rattle.std.specs.declared.cmp.Ordering.TheVariants.{Less, Equal, Greater}
use Rattle.std.proofs.lemmas.List.Sorted.{ranks_by, sorted_far, IsPermutation-sym, Contains-permutation}
use Rattle.std.specs.Cmp.{upto}
use Rattle.std.proofs.lemmas.Bool.{cases_lt}
use Rattle.std.proofs.lemmas.List.{get_or_default}
use Rattle.std.proofs.lemmas.List.Elements.{Contains-append_left, Contains-push, Contains-push_cases, Contains-get_or}
use Rattle.itip_moment.specs.declared.moment.Moment.{Moment}
use Rattle.itip_items.specs.KeyParts.{uid_of}
use Rattle.itip_items.specs.declared.item.Item.{Item}
use Rattle.itip_items.specs.declared.key.Key.TheVariants as key
use Rattle.itip_state.specs.OfUid.{UidPart, IsUidPart}
use Rattle.itip_state.proofs.Members.{none_in}
use Rattle.itip_state.proofs.OfKey.{best_in}
use Rattle.itip_view.specs.RowsOfUid.{IsSeriesItem, StandsBesideOf}
use Rattle.itip_view.specs.Ruling.{AreRanges, AreRangesInOrder, range_cmp}
use Rattle.itip_view.specs.Standing.{HaveOneForm, Reaches, StandsFrom, Rules, NoneRules}
use Rattle.itip_view.specs.declared.ranges.RangeFrom.{RangeFrom}
use Rattle.itip_view.proofs.Beside.{stands_from, beside_from}
use Rattle.itip_view.proofs.RangeOrder.{range_total, reach_up, up_reach, not_less, between_one_form}

-- the item is of an instance and all after it, and stands beside the series item
pub record IsRangeBy (series : Option Item) (id : Moment) (item : Item) : Type 0 where
  pub uid : List ℕ
  pub about : item.key ≡ key.Range uid id
  pub beside : StandsBesideOf series item

-- one of those found
pub record IsFoundFrom (found : List RangeFrom) (id : Moment) (item : Item) : Type 0 where
  pub range : RangeFrom
  pub is_in : Contains found range
  pub id_is : range.id.now ≡ id
  pub item_is : range.item.now ≡ item

-- the ones found among the items that were looked at
pub record FoundIn (series : Option Item) (done : List Item) (found : List RangeFrom) : Type 0 where
  pub each : (range : RangeFrom) → Contains found range → Contains done range.item.now × IsRangeBy series range.id.now range.item.now
  pub all : (id : Moment) (item : Item) → Contains done item → IsRangeBy series id item → IsFoundFrom found id item

module _ (series : Option Item) where
  pub found_none : FoundIn series [] []
  found_none = record { each = λ range h. absurd (none_in range h); all = λ id item h. absurd (none_in item h) }

  module _ (done : List Item) (found : List RangeFrom) (so : FoundIn series done found) (item : Item) where
    pub found_pass : ((id : Moment) → IsRangeBy series id item → ⊥) → FoundIn series (done ++ item ∷ []) found
    found_pass none = record {
      each = λ range h. let r = so.each range h in (Contains-append_left done (item ∷ []) range.item.now r.0, r.1);
      all = λ id i h by. elim (Contains-push_cases done item i h) [
        | inl earlier ↦ so.all id i earlier by
        | inr same ↦ absurd (none id (subst (IsRangeBy series id) (sym same) by))
      ];
    }

    pub found_more : (range : RangeFrom) → range.item.now ≡ item → IsRangeBy series range.id.now item →
        FoundIn series (done ++ item ∷ []) (found ++ range ∷ [])
    found_more range is by = record {
      each = λ r h. elim (Contains-push_cases found range r h) [
        | inl earlier ↦ let e = so.each r earlier in (Contains-append_left done (item ∷ []) r.item.now e.0, e.1)
        | inr same ↦ subst (λ (x : RangeFrom). Contains (done ++ item ∷ []) x.item.now × IsRangeBy series x.id.now x.item.now) same
            (subst (λ (i : Item). Contains (done ++ item ∷ []) i × IsRangeBy series range.id.now i) (sym is) (Contains-push done item, by))
      ];
      all = λ id i h also. elim (Contains-push_cases done item i h) [
        | inl earlier ↦ let f = so.all id i earlier also in
            record {
              range = f.range;
              is_in = Contains-append_left found (range ∷ []) f.range f.is_in;
              id_is = f.id_is;
              item_is =
                  f.item_is;
            }
        | inr same ↦ record {
          range = range;
          is_in = Contains-push found range;
          id_is = one_id by.uid also.uid range.id.now id (sym by.about ∙ ap (λ (x : Item). x.key) same ∙ also.about);
          item_is = is ∙ same;
        }
      ];
    }
      where
        one_id : (u v : List ℕ) (a b : Moment) → key.Range u a ≡ key.Range v b → a ≡ b
        one_id u v a b e = cc

-- with all items they are the ones that stand
pub found_all : (part : UidPart) (series : Option Item) (found : List RangeFrom) → IsUidPart part →
    IsSeriesItem part.items part.uid series → FoundIn series part.items found → AreRanges part found
found_all part series found is of so = record {
  each = λ range h.
      let by = so.each range h in
      let here : by.1.uid ≡ part.uid = sym (ap uid_of by.1.about) ∙ is.about range.item.now by.0 in
      let key_is : range.item.now.key ≡ key.Range part.uid range.id.now = by.1.about ∙ ap (λ (u : List ℕ). key.Range u range.id.now) here in
      stands_from part.items part.uid (key.Range part.uid range.id.now) series range.item.now of (best_in
      part.items is.ascend (key.Range part.uid range.id.now) range.item.now by.0 key_is) by.1.beside;
  all = λ id item stands.
      let f = so.all id item stands.best.is_heard
      (record {
        uid = part.uid;
        about = stands.best.about;
        beside =
            beside_from part.items part.uid (key.Range part.uid id) series item of stands;
      }) in
      (f.range, f.is_in, f.id_is, f.item_is);
}

-- sorted by their ids they are in order
pub in_order : (part : UidPart) (found sorted : List RangeFrom) → AreRanges part found → IsPermutation found sorted →
    IsSortedBy (λ a b. is_lt (range_cmp a.id.now b.id.now)) sorted → AreRangesInOrder part sorted
in_order part found sorted are moved up = record {
  ascend = λ i j d low inside.
      let not_below = sorted_far (λ a b. is_lt (range_cmp a.id.now b.id.now)) (ranks_by range_total (λ (a : RangeFrom). a.id.now)) sorted
      up i j d low inside in
      not_greater (get_or sorted i d).id.now (get_or sorted j d).id.now not_below;
  are = record {
    each = λ range h. are.each range (Contains-permutation _ _ range (IsPermutation-sym _ _ moved) h);
    all = λ id item stands. let f = are.all id item stands in (f.0, Contains-permutation _ _ f.0 moved f.1, f.2, f.3);
  };
}
  where
    not_greater : (a b : Moment) → is_lt (range_cmp b a) ≡ false → is_gt (range_cmp a b) ≡ false
    not_greater a b h = elim (range_cmp a b) as (λ o. range_cmp a b ≡ o → is_gt o ≡ false) [
      | Less ↦ λ e. refl
      | Equal ↦ λ e. refl
      | Greater ↦ λ e. let x : true ≡ false = sym (ap is_lt (range_total.antisymm b a ∙ ap ordering_reverse e)) ∙ h in cc
    ] refl

not_is : (b : Bool) → not b ≡ true → b ≡ false
not_is true e = cc
not_is false e = refl

not_from : (b : Bool) → not b ≡ false → b ≡ true
not_from true e = refl
not_from false e = cc

-- the ids up to a moment, in the order in which range items are held
abbrev pub is_up_to : Moment → RangeFrom → Bool
is_up_to at range = not (is_gt (range_cmp range.id.now at))

module _ (part : UidPart) (found : List RangeFrom) (are : AreRangesInOrder part found) (at : Moment) where
  pub parted : IsPartitionedBy (is_up_to at) found
  parted i j d up inside h =
      ap not (upto range_total (get_or found i d).id.now (get_or found j d).id.now at (are.ascend i j d up inside) (not_is _ h))

  module _ (reached : ℕ) (bound : reached ≤ length found)
      (split : IsPartitionPoint (λ range. is_up_to at range ≡ true) (λ range. is_up_to at range ≡ false) found reached) where
    -- what reaches the moment is among the first ones
    among : (range : RangeFrom) → (h : Contains found range) → Reaches range.id.now at → h.0 < reached
    among range h reaches = elim (cases_lt h.0 reached) [
      | inl lt ↦ lt
      | inr ge ↦
          let behind : is_gt (range_cmp range.id.now at) ≡ true = ap (λ (r : RangeFrom). is_gt (range_cmp r.id.now at)) (sym h.2) ∙
          not_from _ (split.1 h.0 range ge h.1) in
          let x : true ≡ false = sym behind ∙ reach_up range.id.now at reaches in absurd cc
    ]

    reaching : (id : Moment) (item : Item) → StandsFrom part.items part.uid id item → Reaches id at → (range : RangeFrom) ×
        (h : Contains found range) × (range.id.now ≡ id) × (h.0 < reached)
    reaching id item stands reaches =
        let f = are.are.all id item stands in (f.0, f.1, f.2, among f.0 f.1 (subst (λ (m : Moment). Reaches m at) (sym f.2) reaches))

    pub none_reaches : reached ≡ 0 → NoneRules part.items part.uid at
    none_reaches none id item stands reaches = let r = reaching id item stands reaches in let below : r.1.0 < reached = r.3 in
        absurd (omega (arith, below, none))

    module _ (last : RangeFrom) (some : 0 < reached) (is : last ≡ get_or found (reached - 1) last) where
      up : is_gt (range_cmp last.id.now at) ≡ false
      up = ap (λ (r : RangeFrom). is_gt (range_cmp r.id.now at)) is ∙
          not_is _ (split.0 (reached - 1) last (omega arith) (omega (arith, some)))

      -- none of those that reach the moment comes after the last one
      before_last : (range : RangeFrom) (h : Contains found range) → h.0 < reached → is_gt (range_cmp range.id.now last.id.now) ≡ false
      before_last range h below =
          ap (λ (r : RangeFrom). is_gt (range_cmp r.id.now last.id.now)) (sym (get_or_default found h.0 last range h.1 ∙ h.2)) ∙
          ap (λ (r : RangeFrom). is_gt (range_cmp (get_or found h.0 last).id.now r.id.now)) is
          ∙ are.ascend h.0 (reached - 1) last (omega (arith, below)) (omega (arith, some, bound))

      pub last_rules : HaveOneForm last.id.now at → Rules part.items part.uid at last.id.now last.item.now
      last_rules same = record {
        stands = are.are.each last (subst (Contains found) (sym is)
            (Contains-get_or found (reached - 1) last (omega (arith, some, bound))));
        reaches = up_reach last.id.now at same up;
        greatest = λ other earlier stands reaches.
            let r = reaching other earlier stands reaches in
            not_less other last.id.now at reaches.one_form same
            (subst (λ (m : Moment). is_gt (range_cmp m last.id.now) ≡ false) r.2 (before_last r.0 r.1 r.3));
      }

      pub last_not : (HaveOneForm last.id.now at → ⊥) → NoneRules part.items part.uid at
      last_not apart id item stands reaches =
          let r = reaching id item stands reaches in
          apart (between_one_form id last.id.now at reaches.one_form
          (subst (λ (m : Moment). is_gt (range_cmp m last.id.now) ≡ false) r.2 (before_last r.0 r.1 r.3)) up)
