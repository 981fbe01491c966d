-- The items of a set that can give way to news.
use Rattle.std.proofs.Common.{◌≡◌, ◌≤◌, ◌<◌, ◌⊎◌, ◌↔◌, ℕ, List, [], ◌∷◌, ◌++◌, refl, sym, ◌∙◌, ap, subst, inl, inr, Bool, true, false}
use Rattle.std.proofs.Common.{Option, Some, None, arith}
use Rattle.std.specs.Prelude.{cond, nat_lt}
use Rattle.std.specs.List.{Contains}
use Rattle.std.specs.List.Sorted.{IsStrictlySortedBy}
use Rattle.std.specs.Map.{keys_of}
use Rattle.std.specs.Ordering.{is_eq}
use Rattle.std.proofs.lemmas.Cmp.{nat_list_cmp_total}
use Rattle.std.proofs.lemmas.Map.Lookups.{exact_bytes}
use Rattle.std.proofs.lemmas.List.Elements.{Contains-append_cases, Contains-append_left, Contains-append_right}
use Rattle.std.proofs.lemmas.List.Elements.{Contains-push_cases}
use Rattle.itip_join.specs.declared.lift.Lift.{Lift}
use Rattle.itip_join.specs.KeyByKey.{value_at}
use Rattle.itip_items.specs.KeyParts.{uid_of}
use Rattle.itip_items.specs.declared.item.Item.{Item}
use Rattle.itip_items.specs.declared.key.Key.{Key}
use Rattle.itip_items.specs.declared.key.Key.TheVariants.{Series, Instance, Range, Answer, Refresh}
use Rattle.itip_state.specs.Kept.{CanDie}
use Rattle.itip_state.specs.Slots.{slot_cmp}
use Rattle.itip_state.specs.Held.{Best, UidState, best, is_series, can_die, series_items, found_items, items_at_key, uid_state_items}
use Rattle.itip_state.specs.Held.{items_of, at, IsSound, IsPlaceOf, IsHeldAs, AreHeld}
use Rattle.itip_state.specs.Due.{AddsUnderAt}
use Rattle.itip_state.specs.Giving.{AreGivingWay}
use Rattle.itip_state.specs.Greatest.{Reaches, AreNotedWith}
use Rattle.itip_state.specs.DyingLaws.{from_less}
use Rattle.itip_state.proofs.Members.{by_bool, none_in, cons_cases, cons_first}
use Rattle.itip_state.proofs.Lookups.{one_key, itself}
use Rattle.itip_state.proofs.Tests.{and_true}
use Rattle.itip_state.proofs.Tests.{can as can_key}
use Rattle.itip_state.proofs.UidStates.{held_as, series_held, entry_held, entry_key}
use Rattle.itip_state.proofs.Maps.{uid_cmp}
use Rattle.itip_state.proofs.Reading.{held_part, held_no_part, held_sound}

none_some : {X : Type 0} (x : X) → None ≡ Some x → ⊥
none_some x e = cc

some_one : {X : Type 0} (x y : X) → Some x ≡ Some y → x ≡ y
some_one x y e = cc

-- ---- what is held of one UID
module _ (uid : List ℕ) (sh : UidState) (sound : IsSound uid sh) where
  -- what is held at the key of an item is of the UID
  pub at_key_held : (key : Key) (i : Item) → Contains (items_at_key sh key) i → Contains (uid_state_items sh) i
  at_key_held key i h = by_bool (is_series key) (Contains (uid_state_items sh) i)
      (λ series. of_series sh.series refl (subst (λ b. Contains (cond b (series_items sh.series)
      (found_items (value_at slot_cmp sh.entries key))) i) series h))
      (λ other. of_entry (value_at slot_cmp sh.entries key) refl (subst (λ b. Contains (cond b (series_items sh.series)
      (found_items (value_at slot_cmp sh.entries key))) i) other h))
    where
      of_series : (s : Lift Best) → sh.series ≡ s → Contains (series_items sh.series) i → Contains (uid_state_items sh) i
      of_series s e g = Contains-append_left (series_items sh.series) _ i g

      of_entry : (o : Option Best) → value_at slot_cmp sh.entries key ≡ o → Contains (found_items (value_at slot_cmp sh.entries key)) i →
          Contains (uid_state_items sh) i
      of_entry None e g = absurd (none_in i (subst (λ (p : Option Best). Contains (found_items p) i) e g))
      of_entry (Some b) e g = elim (cons_cases b.value [] i (subst (λ (p : Option Best). Contains (found_items p) i) e g)) [
        | inl same ↦ subst (Contains (uid_state_items sh)) same (entry_held uid sh sound key b e)
        | inr rest ↦ absurd (none_in i rest)
      ]

  -- an item that is held is at its key
  pub held_at_key : (i : Item) (key : Key) → key ≡ i.key → Contains (uid_state_items sh) i → Contains (items_at_key sh key) i
  held_at_key i key is h = subst (λ (k : Key). Contains (items_at_key sh k) i) (sym is) (elim (held_as uid sh sound i h) [
    | inl first ↦
        subst (λ b. Contains (cond b (series_items sh.series) (found_items (value_at slot_cmp sh.entries i.key))) i) (sym first.1)
        (subst (λ (s : Lift Best). Contains (series_items s) i) (sym first.0) (cons_first i []))
    | inr other ↦
        subst (λ b. Contains (cond b (series_items sh.series) (found_items (value_at slot_cmp sh.entries i.key))) i) (sym other.1)
        (subst (λ (o : Option Best). Contains (found_items o) i) (sym other.0) (cons_first i []))
  ])

  -- an item is held exactly if it is what is held at its key
  pub held_iff : (i : Item) → uid_of i.key ≡ uid → IsHeldAs sh i ↔ Contains (uid_state_items sh) i
  held_iff i of_uid = (
    λ h. elim h [ inl first ↦ series_held uid sh sound i first.0 | inr other ↦ entry_held uid sh sound i.key (best i) other.0 ],
    λ h. held_as uid sh sound i h,
  )

  pub placed_entries : (key : Key) (b : Best) → value_at slot_cmp sh.entries key ≡ Some b → IsPlaceOf (Some key) b.value.key
  placed_entries key b e = let p = entry_key uid sh sound key b e in (sym p.in_place, ap is_series p.in_place ∙ p.other)

-- ---- what can die
not_both : (key : Key) → CanDie key → is_series key ≡ false
not_both (Series uid) c = absurd c
not_both (Instance uid id) c = refl
not_both (Range uid id) c = refl
not_both (Answer uid id attendee) c = refl
not_both (Refresh uid id attendee) c = refl

-- ---- a map by UID
module _ (es : List (List ℕ × UidState)) (held : AreHeld es) where
  -- an item of the set that is below a sequence and can die is added
  module _ (uid : List ℕ) (sequence : ℕ) (old new : List Item) (adds : AddsUnderAt sequence (at es uid) old new) where
    pub adds_keeps : (i : Item) → Contains old i → Contains new i
    adds_keeps i h = by (at es uid) adds
      where
        by : (o : Option UidState) → AddsUnderAt sequence o old new → Contains new i
        by None same = subst (λ (xs : List Item). Contains xs i) (sym same) h
        by (Some sh) a = a.keeps i h

    pub adds_among : (i : Item) → Contains new i → Contains old i ⊎ Contains (items_of es) i
    adds_among i h = by (at es uid) refl adds
      where
        by : (o : Option UidState) → at es uid ≡ o → AddsUnderAt sequence o old new → Contains old i ⊎ Contains (items_of es) i
        by None e same = inl (subst (λ (xs : List Item). Contains xs i) same h)
        by (Some sh) e a = elim (a.among i h) [
          | inl before ↦ inl before
          | inr w ↦ inr (subst (Contains (items_of es)) w.3
              ((held_part es held uid sh e (w.1).value).0 (entry_held uid sh (held_sound es held uid sh e) w.0 w.1 w.2)).0)
        ]

    pub adds_below : (i : Item) → Contains (items_of es) i → uid_of i.key ≡ uid → CanDie i.key → i.eff < sequence → Contains new i
    adds_below i h of_uid can less = by (at es uid) refl adds
      where
        by : (o : Option UidState) → at es uid ≡ o → AddsUnderAt sequence o old new → Contains new i
        by None e same = absurd (none_in i ((held_no_part es held uid e i).1 (h, of_uid)))
        by (Some sh) e a =
            let there : Contains (uid_state_items sh) i = (held_part es held uid sh e i).1 (h, of_uid) in
            elim (held_as uid sh (held_sound es held uid sh e) i there) [
              | inl first ↦ absurd (let x : true ≡ false = sym first.1 ∙ not_both i.key can in cc)
              | inr other ↦ a.all i.key (best i) other.0
                  (and_true (can_die i.key) (nat_lt i.eff sequence) (can_key i.key can) (from_less i.eff sequence less))
            ]

  -- what is held at the key of an item, or nothing if nothing is held of its UID
  module _ (item : Item) where
    pub none_at_key : at es (uid_of item.key) ≡ None → (i : Item) → Contains (items_of es) i → item.key ≡ i.key → ⊥
    none_at_key e i h same = none_in i ((held_no_part es held (uid_of item.key) e i).1 (h, ap uid_of (sym same)))

    pub some_at_key : (sh : UidState) → at es (uid_of item.key) ≡ Some sh → (i : Item) → Contains (items_of es) i → item.key ≡ i.key →
        Contains (items_at_key sh item.key) i
    some_at_key sh e i h same = held_at_key (uid_of item.key) sh (held_sound es held (uid_of item.key) sh e) i item.key same
        ((held_part es held (uid_of item.key) sh e i).1 (h, ap uid_of (sym same)))

    pub at_key_kept : (sh : UidState) → at es (uid_of item.key) ≡ Some sh → (i : Item) → Contains (items_at_key sh item.key) i →
        Contains (items_of es) i
    at_key_kept sh e i h = ((held_part es held (uid_of item.key) sh e i).0
        (at_key_held (uid_of item.key) sh (held_sound es held (uid_of item.key) sh e) item.key i h)).0

    -- whether it is kept
    pub kept_iff : (sh : UidState) → at es (uid_of item.key) ≡ Some sh → IsHeldAs sh item ↔ Contains (items_of es) item
    kept_iff sh e =
        let part = held_part es held (uid_of item.key) sh e item in
        let iff = held_iff (uid_of item.key) sh (held_sound es held (uid_of item.key) sh e) item refl in
        (λ h. (part.0 (iff.0 h)).0, λ h. iff.1 (part.1 (h, refl)))

    pub not_kept : at es (uid_of item.key) ≡ None → Contains (items_of es) item → ⊥
    not_kept e h = none_in item ((held_no_part es held (uid_of item.key) e item).1 (h, refl))

-- ---- the greatest sequence of each UID
abbrev pub Sequences : Type 0
Sequences = List (List ℕ × ℕ)

pub noted_same : (old : Sequences) (item : Item) → is_series item.key ≡ false → AreNotedWith old item old
noted_same old item other = record {
  still = λ uid n r. r;
  reached = λ series. let x : true ≡ false = sym series ∙ other in absurd (cc);
}

pub noted_before : (old : Sequences) (item : Item) (n : ℕ) → value_at uid_cmp old (uid_of item.key) ≡ Some n → item.eff ≤ n →
    AreNotedWith old item old
noted_before old item n there high = record {
  still = λ uid m r. r;
  reached = λ series. record { most = n; there = there; no_less = high };
}

-- n is put at the UID of the item, and is no less than the item's sequence and what was there
module _ (old new : Sequences) (item : Item) (key : List ℕ) (n : ℕ) (key_is : key ≡ uid_of item.key) (high : item.eff ≤ n)
    (no_less : (m : ℕ) → value_at uid_cmp old (uid_of item.key) ≡ Some m → m ≤ n)
    (put : (q : List ℕ) → value_at uid_cmp new q ≡ cond (is_eq (uid_cmp key q)) (Some n) (value_at uid_cmp old q)) where
  own : value_at uid_cmp new (uid_of item.key) ≡ Some n
  own = put (uid_of item.key) ∙ ap (λ b. cond b (Some n) (value_at uid_cmp old (uid_of item.key)))
      (ap (λ (k : List ℕ). is_eq (uid_cmp k (uid_of item.key))) key_is ∙ itself nat_list_cmp_total exact_bytes (uid_of item.key))

  still : (uid : List ℕ) (m : ℕ) → Reaches old uid m → Reaches new uid m
  still uid m r = by_bool (is_eq (uid_cmp key uid)) (Reaches new uid m)
      (λ same.
      let one : uid_of item.key ≡ uid = sym key_is ∙ one_key nat_list_cmp_total exact_bytes key uid same in
      let up : r.most ≤ n = no_less r.most (ap (value_at uid_cmp old) one ∙ r.there) in
      let low : m ≤ r.most = r.no_less in
      record { most = n; there = ap (value_at uid_cmp new) (sym one) ∙ own; no_less = omega (arith, up, low) })
      (λ apart. record {
        most = r.most;
        there = put uid ∙ ap (λ b. cond b (Some n) (value_at uid_cmp old uid)) apart ∙ r.there;
        no_less = r.no_less;
      })

  pub noted_with : AreNotedWith old item new
  noted_with = record { still = still; reached = λ series. record { most = n; there = own; no_less = high } }

-- ---- the news are gone through, and then the sequences
-- what was shared so far for these news, along with the greatest sequences of their series items
pub record GivenFor (set news giving : List Item) (greatest : Sequences) : Type 0 where
  pub among : (item : Item) → Contains giving item → Contains set item
  pub at_key : (item other : Item) → Contains set item → Contains news other → other.key ≡ item.key → Contains giving item
  pub reached : (item series : Item) → Contains set item → Contains news series → series.key ≡ Series (uid_of item.key) →
      Reaches greatest (uid_of item.key) series.eff
  pub sorted : IsStrictlySortedBy uid_cmp (keys_of greatest)

pub given_none : (set : List Item) → GivenFor set [] [] []
unfolding IsStrictlySortedBy
given_none set = record {
  among = λ i h. absurd (none_in i h);
  at_key = λ i other h g. absurd (none_in other g);
  reached = λ i series h g. absurd (none_in series g);
  sorted = tt;
}

series_of : (uid : List ℕ) (key : Key) → key ≡ Series uid → (uid_of key ≡ uid) × (is_series key ≡ true)
series_of uid key e = (ap uid_of e, ap is_series e)

module _ (es : List (List ℕ × UidState)) (held : AreHeld es) (news giving : List Item) (greatest : Sequences) (item : Item)
    (given : GivenFor (items_of es) news giving greatest) where
  -- nothing is held of the UID of the next
  pub given_past : at es (uid_of item.key) ≡ None → GivenFor (items_of es) (news ++ item ∷ []) giving greatest
  given_past none = record {
    among = given.among;
    at_key = λ i other h g same. elim (Contains-push_cases news item other g) [
      | inl before ↦ given.at_key i other h before same
      | inr one ↦ absurd (none_at_key es held item none i h (ap (λ (j : Item). j.key) one ∙ same))
    ];
    reached = λ i series h g about. elim (Contains-push_cases news item series g) [
      | inl before ↦ given.reached i series h before about
      | inr one ↦ absurd (none_in i ((held_no_part es held (uid_of item.key) none i).1
          (h, sym (ap (λ (j : Item). uid_of j.key) one ∙ (series_of (uid_of i.key) series.key about).0))))
    ];
    sorted = given.sorted;
  }

  -- something is
  module _ (sh : UidState) (here : at es (uid_of item.key) ≡ Some sh) (giving' : List Item)
      (shared : giving' ≡ giving ++ items_at_key sh item.key) (greatest' : Sequences) (noted : AreNotedWith greatest item greatest')
      (sorted : IsStrictlySortedBy uid_cmp (keys_of greatest')) where
    kept_giving : (i : Item) → Contains giving i → Contains giving' i
    kept_giving i h = subst (λ (xs : List Item). Contains xs i) (sym shared) (Contains-append_left giving (items_at_key sh item.key) i h)

    pub given_more : GivenFor (items_of es) (news ++ item ∷ []) giving' greatest'
    given_more = record {
      among = λ i h. elim (Contains-append_cases giving (items_at_key sh item.key) i (subst (λ (xs : List Item). Contains xs i) shared h)) [
        | inl before ↦ given.among i before
        | inr now ↦ at_key_kept es held item sh here i now
      ];
      at_key = λ i other h g same. elim (Contains-push_cases news item other g) [
        | inl before ↦ kept_giving i (given.at_key i other h before same)
        | inr one ↦ subst (λ (xs : List Item). Contains xs i) (sym shared)
            (Contains-append_right giving (items_at_key sh item.key) i
            (some_at_key es held item sh here i h (ap (λ (j : Item). j.key) one ∙ same)))
      ];
      reached = λ i series h g about. elim (Contains-push_cases news item series g) [
        | inl before ↦ noted.still (uid_of i.key) series.eff (given.reached i series h before about)
        | inr one ↦
            let of = series_of (uid_of i.key) series.key about in
            subst (λ (j : Item). Reaches greatest' (uid_of i.key) j.eff) one
            (subst (λ (u : List ℕ). Reaches greatest' u item.eff) (ap (λ (j : Item). uid_of j.key) one ∙ of.0)
            (noted.reached (ap (λ (j : Item). is_series j.key) one ∙ of.1)))
      ];
      sorted = sorted;
    }

-- for the UIDs whose sequences were gone through, all that is below these was shared
pub record GivenBelow (set news giving : List Item) (greatest rest : Sequences) : Type 0 where
  pub among : (item : Item) → Contains giving item → Contains set item
  pub at_key : (item other : Item) → Contains set item → Contains news other → other.key ≡ item.key → Contains giving item
  pub reached : (item series : Item) → Contains set item → Contains news series → series.key ≡ Series (uid_of item.key) →
      Reaches greatest (uid_of item.key) series.eff
  pub below : (item : Item) (n : ℕ) → Contains set item → value_at uid_cmp greatest (uid_of item.key) ≡ Some n →
      CanDie item.key → item.eff < n → Contains giving item ⊎ (value_at uid_cmp rest (uid_of item.key) ≡ Some n)

pub below_start : (set news giving : List Item) (greatest rest : Sequences) → rest ≡ greatest →
    GivenFor set news giving greatest → GivenBelow set news giving greatest rest
below_start set news giving greatest rest is given = record {
  among = given.among;
  at_key = given.at_key;
  reached = given.reached;
  below = λ i n h there can less. inr (ap (λ (r : Sequences). value_at uid_cmp r (uid_of i.key)) is ∙ there);
}

pub below_more : (es : List (List ℕ × UidState)) (held : AreHeld es) (news giving giving' : List Item) (greatest rest before : Sequences)
    (uid : List ℕ) (n : ℕ) → before ≡ (uid, n) ∷ rest → GivenBelow (items_of es) news giving greatest before →
    AddsUnderAt n (at es uid) giving giving' → GivenBelow (items_of es) news giving' greatest rest
below_more es held news giving giving' greatest rest before uid n cut given adds = record {
  among = λ i h. elim (adds_among es held uid n giving giving' adds i h) [ inl was ↦ given.among i was | inr new ↦ new ];
  at_key = λ i other h g same. adds_keeps es held uid n giving giving' adds i (given.at_key i other h g same);
  reached = given.reached;
  below = λ i m h there can less. elim (given.below i m h there can less) [
    | inl done ↦ inl (adds_keeps es held uid n giving giving' adds i done)
    | inr coming ↦ by i m h can less (is_eq (uid_cmp (uid_of i.key) uid)) refl
        (sym (ap (λ (r : Sequences). value_at uid_cmp r (uid_of i.key)) cut) ∙ coming)
  ];
}
  where
    by : (i : Item) (m : ℕ) → Contains (items_of es) i → CanDie i.key → i.eff < m → (b : Bool) → is_eq (uid_cmp (uid_of i.key) uid) ≡ b →
        value_at uid_cmp ((uid, n) ∷ rest) (uid_of i.key) ≡ Some m →
        Contains giving' i ⊎ (value_at uid_cmp rest (uid_of i.key) ≡ Some m)
    by i m h can less true same e =
        let one : n ≡ m = some_one n m (sym (ap (λ b. cond b (Some n) (value_at uid_cmp rest (uid_of i.key))) same) ∙ e) in
        inl (adds_below es held uid n giving giving' adds i h (one_key nat_list_cmp_total exact_bytes (uid_of i.key) uid same) can
        (omega (arith, one, less)))
    by i m h can less false apart e = inr (sym (ap (λ b. cond b (Some n) (value_at uid_cmp rest (uid_of i.key))) apart) ∙ e)

pub giving_all : (set news giving : List Item) (greatest rest : Sequences) → rest ≡ [] →
    GivenBelow set news giving greatest rest → AreGivingWay set news giving
giving_all set news giving greatest rest none given = record {
  among = given.among;
  at_key = given.at_key;
  below = λ i series h g about can less.
      let r = given.reached i series h g about in
      let most : series.eff ≤ r.most = r.no_less in
      elim (given.below i r.most h r.there can (omega (arith, most, less))) [
        | inl done ↦ done
        | inr coming ↦ absurd (none_some r.most (sym (ap (λ (r : Sequences). value_at uid_cmp r (uid_of i.key)) none) ∙ coming))
      ];
}
