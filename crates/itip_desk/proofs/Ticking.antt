-- The UIDs that moved, and the ticks that they carry.
use Rattle.std.proofs.Common.{◌≡◌, ℕ, ◌<◌, ◌≤◌, List, [], ◌∷◌, ◌++◌, ◌↔◌, ◌⊎◌, ◌||◌, inl, inr, refl, sym, ap, subst, ◌∙◌, Bool, true, false}
use Rattle.std.proofs.Common.{Some, None, arith, ◌+◌, ◌-◌, length, take, get_or}
use Rattle.std.specs.Prelude.{cond, is_some}
use Rattle.std.specs.List.{Contains}
use Rattle.std.specs.List.Sorted.{IsStrictlySortedBy, IsNonDecreasingBy}
use Rattle.std.specs.Map.{keys_of}
use Rattle.std.specs.Ordering.{nat_cmp, is_eq}
use Rattle.std.specs.Cmp.Lexicographic.{slice_cmp}
use Rattle.std.specs.declared.cmp.Ordering.{Ordering}
use Rattle.std.proofs.lemmas.Cmp.{nat_list_cmp_total}
use Rattle.std.proofs.lemmas.List.{take_more}
use Rattle.std.proofs.lemmas.List.Folds.{list_any-append}
use Rattle.std.proofs.lemmas.List.Sorted.{IsNonDecreasingBy-push}
use Rattle.std.proofs.lemmas.Map.Lookups.{exact_bytes}
use Rattle.itip_join.specs.KeyByKey.{entries_from_values}
use Rattle.itip_items.specs.declared.item.Item.{Item}
use Rattle.itip_items.specs.KeyParts.{uid_of}
use Rattle.itip_state.specs.Kept.{AreMoved, KeepSame, Moves, ArePartOf, IsItemsOf}
use Rattle.std.proofs.lemmas.List.Elements.{Contains-append_left, Contains-get_or, Contains-push, Contains-push_cases}
use Rattle.itip_state.proofs.Members.{by_bool, none_in, cons_cases}
use Rattle.itip_state.proofs.Lookups.{one_key, itself}
use Rattle.itip_state.proofs.Listing.{listed_in, in_listed}
use Rattle.itip_desk.specs.Desk.{Shown, CarriesAfter, IsCarriedOn, IsDeltaOf}
use Rattle.itip_desk.specs.MovedSince.{is_listed, tick_at, move_tick, AreInOrder, AreTicks, AreUpTo, HavePlaces}
use Rattle.itip_desk.proofs.Steps.{CarryStep}

abbrev pub uid_cmp : List ℕ → List ℕ → Ordering
uid_cmp = slice_cmp nat_cmp

abbrev pub Carried : Type 0
Carried = List (List ℕ × ℕ)

pub some_same : (t u : ℕ) → Some t ≡ Some u → t ≡ u
some_same t u e = cc

none_some : (t : ℕ) → None ≡ Some t → ⊥
none_some t e = cc

one_uid : (q u : List ℕ) → is_eq (uid_cmp q u) ≡ true → q ≡ u
one_uid q u = one_key nat_list_cmp_total exact_bytes q u

own_uid : (u : List ℕ) → is_eq (uid_cmp u u) ≡ true
own_uid u = itself nat_list_cmp_total exact_bytes u

or_false : (b : Bool) → (b || (false || false)) ≡ b
or_false true = refl
or_false false = refl

or_true : (b : Bool) → (b || (true || false)) ≡ true
or_true true = refl
or_true false = refl

listed_push : (us : List (List ℕ)) (u q : List ℕ) → is_listed (us ++ u ∷ []) q ≡ (is_listed us q || (is_eq (uid_cmp u q) || false))
listed_push us u q = list_any-append (λ x. is_eq (uid_cmp x q)) us (u ∷ [])

-- with one more UID, another is listed if it was before
pub listed_before : (us now : List (List ℕ)) (u q : List ℕ) → now ≡ us ++ u ∷ [] → is_eq (uid_cmp u q) ≡ false →
    is_listed now q ≡ is_listed us q
listed_before us now u q more apart = ap (λ xs. is_listed xs q) more ∙ listed_push us u q ∙ ap (λ b. is_listed us q || (b || false)) apart ∙
    or_false (is_listed us q)

pub listed_here : (us now : List (List ℕ)) (u q : List ℕ) → now ≡ us ++ u ∷ [] → is_eq (uid_cmp u q) ≡ true → is_listed now q ≡ true
listed_here us now u q more same = ap (λ xs. is_listed xs q) more ∙ listed_push us u q ∙ ap (λ b. is_listed us q || (b || false)) same ∙
    or_true (is_listed us q)

-- with one more UID, what holds for the others and for it holds for all
pub listed_all : (P : List ℕ → Type 0) (us now : List (List ℕ)) (u : List ℕ) → now ≡ us ++ u ∷ [] → P u →
    ((q : List ℕ) → is_listed us q ≡ true → P q) → (q : List ℕ) → is_listed now q ≡ true → P q
listed_all P us now u more here each q h = by_bool (is_eq (uid_cmp u q)) (P q)
    (λ same. subst P (one_uid u q same) here)
    (λ apart. each q (sym (listed_before us now u q more apart) ∙ h))

pub taken_more : (us : List (List ℕ)) (i : ℕ) (u : List ℕ) → i < length us → u ≡ get_or us i u → take (i + 1) us ≡ take i us ++ u ∷ []
taken_more us i u below is = take_more us i u below ∙ ap (λ x. take i us ++ x ∷ []) (sym is)

-- ---- the moves in order
-- a move at a tick that none is above is added behind all
module _ (tick : ℕ) (u : List ℕ) (order order' : List (ℕ × List ℕ)) (put : order' ≡ order ++ (tick, u) ∷ [])
    (most : (move : ℕ × List ℕ) → Contains order move → move.0 ≤ tick) where
  pub put_by_tick : IsNonDecreasingBy move_tick order → IsNonDecreasingBy move_tick order'
  put_by_tick sorted = subst (IsNonDecreasingBy move_tick) (sym put) (IsNonDecreasingBy-push move_tick order (tick, u) sorted
      (λ d some. most (get_or order (length order - 1) d) (Contains-get_or order (length order - 1) d (omega (arith, some)))))

  pub put_most : (move : ℕ × List ℕ) → Contains order' move → move.0 ≤ tick
  put_most move h = elim (Contains-push_cases order (tick, u) move (subst (λ (ms : List (ℕ × List ℕ)). Contains ms move) put h)) [
    | inl before ↦ most move before
    | inr same ↦ let is : tick ≡ move.0 = ap move_tick same in omega (arith, is)
  ]

  pub put_keeps : (move : ℕ × List ℕ) → Contains order move → Contains order' move
  put_keeps move h = subst (λ (ms : List (ℕ × List ℕ)). Contains ms move) (sym put) (Contains-append_left order ((tick, u) ∷ []) move h)

  pub put_there : Contains order' (tick, u)
  put_there = subst (λ (ms : List (ℕ × List ℕ)). Contains ms (tick, u)) (sym put) (Contains-push order (tick, u))

-- ---- places
-- a place is made
module _ (all : List (List ℕ)) (u : List ℕ) (was now next : Carried) (listed : is_listed all u ≡ true) (have : HavePlaces all was now)
    (none : tick_at now u ≡ None)
    (put : (q : List ℕ) → tick_at next q ≡ cond (is_eq (uid_cmp u q)) (Some 0) (tick_at now q)) where
  -- nothing was carried before
  none_before : tick_at was u ≡ None
  none_before = elim (have u) [
    | inl same ↦ sym same ∙ none
    | inr place ↦ place.1
  ]

  pub place_made : HavePlaces all was next
  place_made q = by_bool (is_eq (uid_cmp u q)) ((tick_at next q ≡ tick_at was q) ⊎
      ((is_listed all q ≡ true) × (tick_at was q ≡ None) × (tick_at next q ≡ Some 0)))
      (λ same. inr (
        subst (λ (v : List ℕ). is_listed all v ≡ true) (one_uid u q same) listed,
        ap (tick_at was) (sym (one_uid u q same)) ∙ none_before,
        put q ∙ ap (λ b. cond b (Some 0) (tick_at now q)) same,
      ))
      (λ apart.
      let stays : tick_at next q ≡ tick_at now q = put q ∙ ap (λ b. cond b (Some 0) (tick_at now q)) apart in
      elim (have q) [
        | inl same ↦ inl (stays ∙ same)
        | inr place ↦ inr (place.0, place.1, stays ∙ place.2)
      ])

pub places_stay : (u : List ℕ) (now next : Carried) →
    ((q : List ℕ) → tick_at next q ≡ cond (is_eq (uid_cmp u q)) (Some 0) (tick_at now q)) →
    (q : List ℕ) → is_some (tick_at now q) ≡ true → is_some (tick_at next q) ≡ true
places_stay u now next put q h = by_bool (is_eq (uid_cmp u q)) (is_some (tick_at next q) ≡ true)
    (λ same. ap is_some (put q ∙ ap (λ b. cond b (Some 0) (tick_at now q)) same))
    (λ apart. ap is_some (put q ∙ ap (λ b. cond b (Some 0) (tick_at now q)) apart) ∙ h)

-- one is removed
pub fewer_one : (u : List ℕ) (was now next : Carried) →
    ((q : List ℕ) → tick_at next q ≡ cond (is_eq (uid_cmp u q)) None (tick_at now q)) →
    ((q : List ℕ) → (tick_at now q ≡ tick_at was q) ⊎ (tick_at now q ≡ None)) →
    (q : List ℕ) → (tick_at next q ≡ tick_at was q) ⊎ (tick_at next q ≡ None)
fewer_one u was now next out fewer q = by_bool (is_eq (uid_cmp u q)) ((tick_at next q ≡ tick_at was q) ⊎ (tick_at next q ≡ None))
    (λ same. inr (out q ∙ ap (λ b. cond b None (tick_at now q)) same))
    (λ apart.
    let stays : tick_at next q ≡ tick_at now q = out q ∙ ap (λ b. cond b None (tick_at now q)) apart in
    elim (fewer q) [
      | inl same ↦ inl (stays ∙ same)
      | inr none ↦ inr (stays ∙ none)
    ])

-- places are removed: those of the UIDs that are still to come may be there
pub record PlacesLeft (all done : List (List ℕ)) (was now : Carried) : Type 0 where
  pub places : HavePlaces all was now
  pub out : (uid : List ℕ) → is_listed done uid ≡ true → tick_at now uid ≡ tick_at was uid

zero_not : (was : Carried) (u : List ℕ) → AreTicks was → tick_at was u ≡ Some 0 → ⊥
zero_not was u ticks e = let x : 0 < 0 = ticks u 0 e in absurd (omega (arith, x))

module _ (all us now_us : List (List ℕ)) (u : List ℕ) (was now : Carried) (more : now_us ≡ us ++ u ∷ []) (ticks : AreTicks was)
    (left : PlacesLeft all us was now) where
  -- it has no place
  pub place_none : (tick_at now u ≡ Some 0 → ⊥) → PlacesLeft all now_us was now
  place_none none = record {
    places = left.places;
    out = λ q h. by_bool (is_eq (uid_cmp u q)) (tick_at now q ≡ tick_at was q)
        (λ same. elim (left.places q) [
          | inl is ↦ is
          | inr place ↦ absurd (none (ap (tick_at now) (one_uid u q same) ∙ place.2))
        ])
        (λ apart. left.out q (sym (listed_before us now_us u q more apart) ∙ h));
  }

  -- it had one
  pub place_out : (next : Carried) → tick_at now u ≡ Some 0 →
      ((q : List ℕ) → tick_at next q ≡ cond (is_eq (uid_cmp u q)) None (tick_at now q)) → PlacesLeft all now_us was next
  place_out next zero out = record { places = places; out = λ q h. gone q h }
    where
      was_none : tick_at was u ≡ None
      was_none = elim (left.places u) [ inl is ↦ absurd (zero_not was u ticks (sym is ∙ zero)) | inr place ↦ place.1 ]

      here : (q : List ℕ) → is_eq (uid_cmp u q) ≡ true → tick_at next q ≡ tick_at was q
      here q same = out q ∙ ap (λ b. cond b None (tick_at now q)) same ∙ sym (ap (tick_at was) (sym (one_uid u q same)) ∙ was_none)

      other : (q : List ℕ) → is_eq (uid_cmp u q) ≡ false → tick_at next q ≡ tick_at now q
      other q apart = out q ∙ ap (λ b. cond b None (tick_at now q)) apart

      places : HavePlaces all was next
      places q = by_bool (is_eq (uid_cmp u q)) ((tick_at next q ≡ tick_at was q) ⊎
          ((is_listed all q ≡ true) × (tick_at was q ≡ None) × (tick_at next q ≡ Some 0)))
          (λ same. inl (here q same))
          (λ apart. elim (left.places q) [
            | inl is ↦ inl (other q apart ∙ is)
            | inr place ↦ inr (place.0, place.1, other q apart ∙ place.2)
          ])

      gone : (q : List ℕ) → is_listed now_us q ≡ true → tick_at next q ≡ tick_at was q
      gone q h = by_bool (is_eq (uid_cmp u q)) (tick_at next q ≡ tick_at was q)
          (λ same. here q same)
          (λ apart. other q apart ∙ left.out q (sym (listed_before us now_us u q more apart) ∙ h))

pub places_out : (all : List (List ℕ)) (was now : Carried) → IsStrictlySortedBy uid_cmp (keys_of was) →
    IsStrictlySortedBy uid_cmp (keys_of now) →
    PlacesLeft all all was now → now ≡ was
places_out all was now sorted sorted_now left = entries_from_values nat_list_cmp_total exact_bytes now was sorted_now sorted
    (λ q. elim (left.places q) [ inl is ↦ is | inr place ↦ left.out q place.0 ])

-- ---- marks
-- the UIDs gone through so far carry the tick, and each is in order
pub record AreMarked (tick : ℕ) (all uids : List (List ℕ)) (was now : Carried) (order : List (ℕ × List ℕ)) : Type 0 where
  pub at : (q : List ℕ) → tick_at now q ≡ cond (is_listed uids q) (Some tick) (tick_at was q)
  pub in_order : AreInOrder now order
  pub ready : (q : List ℕ) → is_listed all q ≡ true → Contains order (tick, q)

pub none_marked : (tick : ℕ) (all : List (List ℕ)) (was now : Carried) (order : List (ℕ × List ℕ)) → now ≡ was → AreInOrder now order →
    ((q : List ℕ) → is_listed all q ≡ true → Contains order (tick, q)) → AreMarked tick all [] was now order
none_marked tick all was now order same in_order ready =
    record { at = λ q. ap (λ es. tick_at es q) same; in_order = in_order; ready = ready }

pub marked_there : (tick : ℕ) (all us : List (List ℕ)) (was now : Carried) (order : List (ℕ × List ℕ)) →
    AreMarked tick all us was now order →
    (q : List ℕ) → is_some (tick_at was q) ≡ true → is_some (tick_at now q) ≡ true
marked_there tick all us was now order marked q h = by_bool (is_listed us q) (is_some (tick_at now q) ≡ true)
    (λ k. ap is_some (marked.at q ∙ ap (λ b. cond b (Some tick) (tick_at was q)) k))
    (λ k. ap is_some (marked.at q ∙ ap (λ b. cond b (Some tick) (tick_at was q)) k) ∙ h)

module _ (tick : ℕ) (all us now_us : List (List ℕ)) (u : List ℕ) (was now next : Carried) (order : List (ℕ × List ℕ))
    (more : now_us ≡ us ++ u ∷ []) (listed : is_listed all u ≡ true) (marked : AreMarked tick all us was now order)
    (put : (q : List ℕ) → tick_at next q ≡ cond (is_eq (uid_cmp u q)) (Some tick) (tick_at now q)) where
  pub one_marked : AreMarked tick all now_us was next order
  one_marked = record {
    at = λ q. by_bool (is_eq (uid_cmp u q)) (tick_at next q ≡ cond (is_listed now_us q) (Some tick) (tick_at was q))
        (λ same. put q ∙ ap (λ b. cond b (Some tick) (tick_at now q)) same ∙
        sym (ap (λ b. cond b (Some tick) (tick_at was q)) (listed_here us now_us u q more same)))
        (λ apart. put q ∙ ap (λ b. cond b (Some tick) (tick_at now q)) apart ∙ marked.at q ∙
        sym (ap (λ b. cond b (Some tick) (tick_at was q)) (listed_before us now_us u q more apart)));
    in_order = λ q t there above. by_bool (is_eq (uid_cmp u q)) (Contains order (t, q))
        (λ same.
        let t_is : tick ≡ t = some_same tick t (sym (put q ∙ ap (λ b. cond b (Some tick) (tick_at now q)) same) ∙ there) in
        subst (λ (n : ℕ). Contains order (n, q)) t_is
        (subst (λ (v : List ℕ). Contains order (tick, v)) (one_uid u q same) (marked.ready u listed)))
        (λ apart. marked.in_order q t (sym (put q ∙ ap (λ b. cond b (Some tick) (tick_at now q)) apart) ∙ there) above);
    ready = marked.ready;
  }

-- ---- what moved after a tick
-- of the moves in order, those gone through were found, if a UID carries them; the others are to come
pub record FoundSoFar (carried : Carried) (since : ℕ) (uids : List (List ℕ)) (rest : List (ℕ × List ℕ)) : Type 0 where
  pub among : (uid : List ℕ) → Contains uids uid → CarriesAfter carried since uid
  pub coming : (uid : List ℕ) (tick : ℕ) → tick_at carried uid ≡ Some tick → since < tick → Contains uids uid ⊎ Contains rest (tick, uid)

-- all that is above the tick is to come
pub found_first : (carried : Carried) (order : List (ℕ × List ℕ)) (since : ℕ) (uids : List (List ℕ)) (rest : List (ℕ × List ℕ)) →
    AreInOrder carried order → uids ≡ [] →
    ((move : ℕ × List ℕ) → Contains order move → since < move.0 → Contains rest move) → FoundSoFar carried since uids rest
found_first carried order since uids rest in_order empty behind = record {
  among = λ uid h. absurd (none_in uid (subst (λ (us : List (List ℕ)). Contains us uid) empty h));
  coming = λ uid tick at above. inr (behind (tick, uid) (in_order uid tick at (omega (arith, above))) above);
}

module _ (carried : Carried) (since : ℕ) (uids : List (List ℕ)) (before rest : List (ℕ × List ℕ)) (move : ℕ × List ℕ)
    (cut : before ≡ move ∷ rest) (so : FoundSoFar carried since uids before) where
  pub found_more : (tick_at carried move.1 ≡ Some move.0) × (since < move.0) → (more : List (List ℕ)) → more ≡ uids ++ move.1 ∷ [] →
      FoundSoFar carried since more rest
  found_more there more is = record {
    among = λ u h. elim (Contains-push_cases uids move.1 u (subst (λ (us : List (List ℕ)). Contains us u) is h)) [
      | inl earlier ↦ so.among u earlier
      | inr one ↦ subst (CarriesAfter carried since) one (move.0, there.0, there.1)
    ];
    coming = λ u t at above. elim (so.coming u t at above) [
      | inl done ↦ inl (subst (λ (us : List (List ℕ)). Contains us u) (sym is) (Contains-append_left uids (move.1 ∷ []) u done))
      | inr comes ↦ elim (cons_cases move rest (t, u) (subst (λ (ms : List (ℕ × List ℕ)). Contains ms (t, u)) cut comes)) [
        | inl here ↦ inl (subst (λ (us : List (List ℕ)). Contains us u) (sym is)
            (subst (Contains (uids ++ move.1 ∷ [])) (ap (λ (m : ℕ × List ℕ). m.1) here) (Contains-push uids move.1)))
        | inr next ↦ inr next
      ]
    ];
  }

  pub found_past : ((tick_at carried move.1 ≡ Some move.0) × (since < move.0) → ⊥) → FoundSoFar carried since uids rest
  found_past none = record {
    among = so.among;
    coming = λ u t at above. elim (so.coming u t at above) [
      | inl done ↦ inl done
      | inr comes ↦ elim (cons_cases move rest (t, u) (subst (λ (ms : List (ℕ × List ℕ)). Contains ms (t, u)) cut comes)) [
        | inl here ↦ absurd (none (
          ap (λ (m : ℕ × List ℕ). tick_at carried m.1) here ∙ at ∙ sym (ap (λ (m : ℕ × List ℕ). Some m.0) here),
          subst (λ (m : ℕ × List ℕ). since < m.0) (sym here) above,
        ))
        | inr next ↦ inr next
      ]
    ];
  }

same_carry : (es gs : Carried) → es ≡ gs → (since : ℕ) (uid : List ℕ) → CarriesAfter es since uid ↔ CarriesAfter gs since uid
same_carry es gs same since uid = (
  subst (λ (ch : Carried). CarriesAfter ch since uid) same,
  subst (λ (ch : Carried). CarriesAfter ch since uid) (sym same),
)

-- a place carries nothing
carries_before : (uids : List (List ℕ)) (es placed : Carried) → HavePlaces uids es placed → (since : ℕ) (uid : List ℕ) →
    CarriesAfter placed since uid → CarriesAfter es since uid
carries_before uids es placed have since uid c = elim (have uid) [
  | inl same ↦ (c.0, sym same ∙ c.1, c.2)
  | inr place ↦
      let zero : 0 ≡ c.0 = some_same 0 c.0 (sym place.2 ∙ c.1) in
      let over : since < c.0 = c.2 in
      absurd (omega (arith, zero, over))
]

carries_still : (uids : List (List ℕ)) (es placed : Carried) → HavePlaces uids es placed → (since : ℕ) (uid : List ℕ) →
    CarriesAfter es since uid → CarriesAfter placed since uid
carries_still uids es placed have since uid c = elim (have uid) [
  | inl same ↦ (c.0, same ∙ c.1, c.2)
  | inr place ↦ absurd (none_some c.0 (sym place.1 ∙ c.1))
]

-- if the marks are above 0, there are no places
pub marked_ticks : (uids : List (List ℕ)) (es placed gs : Carried) (next : ℕ) → 0 < next → AreTicks es → HavePlaces uids es placed →
    ((uid : List ℕ) → tick_at gs uid ≡ cond (is_listed uids uid) (Some next) (tick_at placed uid)) → AreTicks gs
marked_ticks uids es placed gs next above ticks have marked uid t there = by_bool (is_listed uids uid) (0 < t)
    (λ k.
    let t_is : next ≡ t = some_same next t (sym (marked uid ∙ ap (λ b. cond b (Some next) (tick_at placed uid)) k) ∙ there) in
    omega (arith, t_is, above))
    (λ k.
    let before : tick_at placed uid ≡ Some t = sym (marked uid ∙ ap (λ b. cond b (Some next) (tick_at placed uid)) k) ∙ there in
    elim (have uid) [
      | inl same ↦ ticks uid t (sym same ∙ before)
      | inr place ↦ absurd (differ (sym place.0 ∙ k))
    ])
  where
    differ : true ≡ false → ⊥
    differ e = cc

-- if the marks are at this tick, none is above it
pub marked_up_to : (uids : List (List ℕ)) (es placed gs : Carried) (top next : ℕ) → top ≤ next → AreUpTo top es →
    HavePlaces uids es placed →
    ((uid : List ℕ) → tick_at gs uid ≡ cond (is_listed uids uid) (Some next) (tick_at placed uid)) → AreUpTo next gs
marked_up_to uids es placed gs top next up ticks have marked uid t there = by_bool (is_listed uids uid) (t ≤ next)
    (λ k.
    let t_is : next ≡ t = some_same next t (sym (marked uid ∙ ap (λ b. cond b (Some next) (tick_at placed uid)) k) ∙ there) in
    omega (arith, t_is))
    (λ k.
    let before : tick_at placed uid ≡ Some t = sym (marked uid ∙ ap (λ b. cond b (Some next) (tick_at placed uid)) k) ∙ there in
    elim (have uid) [
      | inl same ↦ let old : t ≤ top = ticks uid t (sym same ∙ before) in omega (arith, old, up)
      | inr place ↦ absurd (differ (sym place.0 ∙ k))
    ])
  where
    differ : true ≡ false → ⊥
    differ e = cc

-- the UIDs that moved carry the new tick
module _ (uids : List (List ℕ)) (es placed gs : Carried) (have : HavePlaces uids es placed) (next : ℕ) (marked : (uid : List ℕ) →
    tick_at gs uid ≡ cond (is_listed uids uid) (Some next) (tick_at placed uid)) where
  listed_carries : (since : ℕ) (uid : List ℕ) → is_listed uids uid ≡ true → CarriesAfter gs since uid ↔ (since < next)
  listed_carries since uid k =
      let there : tick_at gs uid ≡ Some next = marked uid ∙ ap (λ b. cond b (Some next) (tick_at placed uid)) k in (
        λ c. subst (λ (n : ℕ). since < n) (some_same c.0 next (sym c.1 ∙ there)) c.2,
        λ above. (next, there, above),
      )

  unlisted_carries : (since : ℕ) (uid : List ℕ) → is_listed uids uid ≡ false → CarriesAfter gs since uid ↔ CarriesAfter es since uid
  unlisted_carries since uid k =
      let there : tick_at gs uid ≡ tick_at placed uid = marked uid ∙ ap (λ b. cond b (Some next) (tick_at placed uid)) k in (
        λ c. carries_before uids es placed have since uid (c.0, sym there ∙ c.1, c.2),
        λ c. let d = carries_still uids es placed have since uid c in (d.0, there ∙ d.1, d.2),
      )

  module _ (old new : Shown) (step : List Item) (is_old : old.changed ≡ es) (is_new : new.changed ≡ gs) (is_next : new.tick ≡ next)
      (are_moved : AreMoved uids old.kept step) where
    marked_carries : (since : ℕ) (uid : List ℕ) → is_listed uids uid ≡ true → CarriesAfter new.changed since uid ↔ (since < new.tick)
    marked_carries since uid k =
        let now = same_carry new.changed gs is_new since uid in
        let carries = listed_carries since uid k in (
          λ c. subst (λ (n : ℕ). since < n) (sym is_next) (carries.0 (now.0 c)),
          λ above. now.1 (carries.1 (subst (λ (n : ℕ). since < n) is_next above)),
        )

    others_carry : (since : ℕ) (uid : List ℕ) → is_listed uids uid ≡ false → CarriesAfter new.changed since uid ↔
        CarriesAfter old.changed since uid
    others_carry since uid k =
        let now = same_carry new.changed gs is_new since uid in
        let before = same_carry old.changed es is_old since uid in
        let carries = unlisted_carries since uid k in (λ c. before.1 (carries.0 (now.0 c)), λ c. now.1 (carries.1 (before.0 c)))

    pub carried_on : IsCarriedOn old new step
    carried_on = record {
      moved = λ since uid moves. by_bool (is_listed uids uid) (CarriesAfter new.changed since uid ↔ (since < new.tick))
          (λ k. marked_carries since uid k)
          (λ k. absurd (moves (are_moved.others uid (λ h. let x : true ≡ false = sym (in_listed uids uid h) ∙ k in cc))));
      others = λ since uid same. by_bool (is_listed uids uid) (CarriesAfter new.changed since uid ↔ CarriesAfter old.changed since uid)
          (λ k. absurd (are_moved.each uid (listed_in uids uid k) same))
          (λ k. others_carry since uid k);
    }

    pub carry_step : CarryStep old new step
    carry_step = record {
      up = λ since uid c. by_bool (is_listed uids uid) (CarriesAfter old.changed since uid ⊎ (Moves old.kept step uid × (since < new.tick)))
          (λ k. inr (are_moved.each uid (listed_in uids uid k), (marked_carries since uid k).0 c))
          (λ k. inl ((others_carry since uid k).0 c));
      moved = λ since uid moves above. (carried_on.moved since uid moves).1 above;
      stays = λ since uid c above. by_bool (is_listed uids uid) (CarriesAfter new.changed since uid)
          (λ k. (marked_carries since uid k).1 above)
          (λ k. (others_carry since uid k).1 c);
    }

-- if nothing moves, each UID carries what it did
pub nothing_carried : (desk : Shown) (step : List Item) → ((uid : List ℕ) → KeepSame uid desk.kept (desk.kept ++ step)) →
    IsCarriedOn desk desk step
nothing_carried desk step same = record { moved = λ since uid moves. absurd (moves (same uid)); others = λ since uid _. (λ c. c, λ c. c) }

-- ---- deltas
pub delta_is : (desk : Shown) (since : ℕ) (state items batch : List Item) (uids : List (List ℕ)) → state ≡ desk.kept →
    ((uid : List ℕ) → Contains uids uid ↔ CarriesAfter desk.changed since uid)
    → ArePartOf items state uids → IsItemsOf batch items → IsDeltaOf desk since batch
delta_is desk since state items batch uids kept carried part_is is = record {
  ascend = is.ascend;
  same = λ i. (
    λ h. let p = (part_is i).0 ((is.same i).0 h) in
        (subst (λ (xs : List Item). Contains xs i) kept p.0, (carried (uid_of i.key)).0 p.1),
    λ h. (is.same i).1 ((part_is i).1 (subst (λ (xs : List Item). Contains xs i) (sym kept) h.0, (carried (uid_of i.key)).1 h.1)),
  );
}

-- nothing moved after the tick of the desk
pub nothing_since : (desk : Shown) (since : ℕ) (batch : List Item) → desk.tick ≤ since → AreUpTo desk.tick desk.changed →
    IsItemsOf batch [] →
    IsDeltaOf desk since batch
nothing_since desk since batch up ticks is = record {
  ascend = is.ascend;
  same = λ i. (
    λ h. absurd (none_in i ((is.same i).0 h)),
    λ h.
        let carries = h.1 in
        let old : carries.0 ≤ desk.tick = ticks (uid_of i.key) carries.0 carries.1 in
        let above : since < carries.0 = carries.2 in
        absurd (omega (arith, old, above, up)),
  );
}
