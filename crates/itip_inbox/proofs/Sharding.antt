-- What is kept in shards is what is kept of all.
use Rattle.std.proofs.Common.{◌≡◌, ◌∙◌, ◌↔◌, ◌+◌, ◌<◌, ◌≤◌, sym, ap, subst, refl, ℕ, zero, suc, List, [], ◌∷◌, ◌++◌, length, slice_index_or}
use Rattle.std.proofs.Common.{get_or, inl, inr, ◌||◌, arith, Bool, true, false, append_assoc, append-nil, nat_eq}
use Rattle.std.proofs.Common.{Result, Ok, Err, take, drop, take_all}
use Rattle.std.proofs.lemmas.List.{drop_all, take_more}
use Rattle.std.specs.Prelude.{OnOk, is_err}
use Rattle.std.specs.Global.{Vec}
use Rattle.std.specs.List.{Contains, HoldsAt, filter, list_any}
use Rattle.std.proofs.lemmas.List.Elements.{Contains-append_cases, Contains-append_left, Contains-append_right}
use Rattle.std.proofs.lemmas.Nat.{mod_below}
use Rattle.std.proofs.lemmas.Bool.Decides.{Decides-eqb}
use Rattle.std.proofs.lemmas.Slice.Eq.{bytes_eq-Decides}
use Rattle.itip_items.specs.KeyParts.{uid_of}
use Rattle.itip_items.specs.declared.item.Item.{Item}
use Rattle.itip_items.specs.declared.key.Key.{Key}
use Rattle.itip_items.specs.declared.key.Key.TheVariants.{Series}
use Rattle.itip_state.specs.Kept.{IsBest, IsKept, AreKept, ArePart, IsItemsOf, SameItems}
use Rattle.itip_state.specs.Told.{IsOutdone, AreNews}
use Rattle.itip_state.proofs.Keeping.{kept_in_part, kept_beside, are_kept_by, are_kept_same, same_swapped}
use Rattle.itip_state.proofs.Members.{none_in, cons_first, cons_cases}
use Rattle.itip_view.proofs.Showing.{in_filter, passes, into_filter}
use Rattle.itip_desk.specs.Octets.{AscendOctets}
use Rattle.itip_inbox.specs.Following.{is_about}
use Rattle.itip_inbox.specs.Ranges.{items_in}
use Rattle.itip_inbox.specs.ShardOf.{shard_of, of_shard}
use Rattle.itip_inbox.specs.Shards.{kept_in, AreSharded, HearsShard}
use Rattle.itip_inbox.specs.declared.shard.Shard.{Shard}
use Rattle.itip_inbox.proofs.Ranges.{items_more}

-- ---- sets with the same items of a UID

-- two sets have the same items of the UID of an item
abbrev pub SameOf : Item → List Item → List Item → Type 0
SameOf i x y = (j : Item) → uid_of j.key ≡ uid_of i.key → Contains x j ↔ Contains y j

pub same_back : (i : Item) (x y : List Item) → SameOf i x y → SameOf i y x
same_back i x y same j of_uid = let two = same j of_uid in (two.1, two.0)

abbrev part_of : List ℕ → List Item → List Item
part_of uid x = filter (is_about uid) x

is_part : (uid : List ℕ) (x : List Item) → ArePart uid (part_of uid x) x
is_part uid x j = (
  λ h. (in_filter (is_about uid) x j h, (bytes_eq-Decides (uid_of j.key) uid).0 (passes (is_about uid) x j h)),
  λ both. into_filter (is_about uid) x j both.0 ((bytes_eq-Decides (uid_of j.key) uid).1 both.1),
)

-- what is kept of a UID depends on its items alone, in whatever set they are
pub kept_alike : (i : Item) (x y : List Item) → SameOf i x y → IsKept x i ↔ IsKept y i
kept_alike i x y same =
    let uid : List ℕ = uid_of i.key in
    let part : List Item = part_of uid x in
    let of_y : ArePart uid part y = λ j. (
      λ h. let both = (is_part uid x j).0 h in ((same j both.1).0 both.0, both.1),
      λ both. (is_part uid x j).1 ((same j both.1).1 both.0, both.1),
    ) in
    let one = kept_in_part uid part x (is_part uid x) i refl in
    let two = kept_in_part uid part y of_y i refl in
    (λ k. two.0 (one.1 k), λ k. one.0 (two.1 k))

best_alike : (i : Item) (x y : List Item) (k : Key) (s : Item) → uid_of k ≡ uid_of i.key → SameOf i x y → IsBest x k s → IsBest y k s
best_alike i x y k s of_uid same best = record {
  is_heard = (same s (ap uid_of best.about ∙ of_uid)).0 best.is_heard;
  about = best.about;
  none_later = λ j h at. best.none_later j ((same j (ap uid_of at ∙ of_uid)).1 h) at;
}

-- what outdoes an item is of its UID
pub outdone_alike : (i : Item) (x y : List Item) → SameOf i x y → IsOutdone x i → IsOutdone y i
outdone_alike i x y same out = elim out [
  | inl told ↦ inl (record {
    teller = told.teller;
    there = (same told.teller (ap uid_of told.same)).0 told.there;
    same = told.same;
    not_later = told.not_later;
  })
  | inr dead ↦ inr (record {
    can_die = dead.can_die;
    series = dead.series;
    best = best_alike i x y (Series (uid_of i.key)) dead.series refl same dead.best;
    below = dead.below;
  })
]

-- ---- two tests that both fail

first_false : (a b : Bool) → (a || b) ≡ false → a ≡ false
first_false true b e = absurd (cc)
first_false false b e = refl

second_false : (a b : Bool) → (a || b) ≡ false → b ≡ false
second_false true b e = absurd (cc)
second_false false b e = e

-- what holds on `Ok` holds if there is no `Err`
pub on_no_err : {P : Type 0} {T E : Type 0} (r : Result T E) → is_err r ≡ false → OnOk r P → P
on_no_err (Ok x) none holds = holds
on_no_err (Err x) none holds = absurd (cc)

-- ---- the items of shards

some_shard : (shards : List Shard) → zero < length shards → Shard
some_shard [] some = absurd (omega (arith, some))
some_shard (s ∷ ss) some = s

-- an item of one shard is among those of all
pub of_all : (shards : List Shard) (n : ℕ) (d : Shard) (i : Item) → n < length shards → Contains (slice_index_or shards n d).state i →
    Contains (kept_in shards) i
of_all [] n d i below h = absurd (omega (arith, below))
of_all (s ∷ ss) zero d i below h = Contains-append_left s.state (kept_in ss) i h
of_all (s ∷ ss) (suc n) d i below h =
    let less : n < length ss = omega (arith, below) in Contains-append_right s.state (kept_in ss) i (of_all ss n d i less h)

-- an item among those of all is one of some shard
pub of_some : (shards : List Shard) (d : Shard) (i : Item) → Contains (kept_in shards) i → (n : ℕ) × (n < length shards) ×
    Contains (slice_index_or shards n d).state i
of_some [] d i h = absurd (none_in i h)
of_some (s ∷ ss) d i h = elim (Contains-append_cases s.state (kept_in ss) i h) [
  | inl here ↦ (zero, omega arith, here)
  | inr later ↦ let found = of_some ss d i later in let less : found.0 < length ss = found.1 in (suc found.0, omega (arith, less), found.2)
]

module _ (shards : List Shard) (d : Shard) (are : AreSharded shards) where
  abbrev own : Item → ℕ
  own i = shard_of (length shards) (uid_of i.key)

  pub own_below : (i : Item) → own i < length shards
  own_below i = mod_below _ (length shards) are.some

  -- an item among those of all is one of the shard of its UID
  pub in_own : (i : Item) → Contains (kept_in shards) i → Contains (slice_index_or shards (own i) d).state i
  in_own i h =
      let found = of_some shards d i h in
      subst (λ (n : ℕ). Contains (slice_index_or shards n d).state i) (sym (are.each found.0 d found.1 i found.2)) found.2

  -- of the UID of an item its shard has what all have
  pub same_of_own : (i : Item) → SameOf i (slice_index_or shards (own i) d).state (kept_in shards)
  same_of_own i j of_uid = (
    of_all shards (own i) d j (own_below i),
    λ h. subst (λ (uid : List ℕ). Contains (slice_index_or shards (shard_of (length shards) uid) d).state j) of_uid (in_own j h),
  )

-- ---- shards that hear

-- what was lent as a whole comes back as a whole
pub back_whole : {X : Type 0} (news olds : List X) (long : ℕ) → long ≡ length olds → length news ≡ length olds →
    take long (news ++ drop (length news) olds) ≡ news
back_whole {X} news olds long is same =
    let past : length olds ≤ length news = omega (arith, same) in
    let all : length news ≤ long = omega (arith, is, same) in
    ap (λ (t : List X). take long (news ++ t)) (drop_all (length news) olds past) ∙ ap (take long) (append-nil news) ∙
    take_all long news all

module _ (olds news : List Shard) (items : List Item) (are : AreSharded olds) (many : length news ≡ length olds)
    (each : (n : ℕ) (d : Shard) → n < length olds →
    HearsShard (length olds) n items (slice_index_or olds n d) (slice_index_or news n d)) where
  pub stay_sharded : AreSharded news
  stay_sharded = record {
    some = subst (λ (n : ℕ). zero < n) (sym many) are.some;
    each = λ n d below i.
        let less : n < length olds = subst (λ (k : ℕ). n < k) many below in
        subst (λ (k : ℕ). Contains (slice_index_or news n d).state i → shard_of k (uid_of i.key) ≡ n) (sym many)
        ((each n d less).stays (are.each n d less) i);
  }

  module _ (d : Shard) (heard : (n : ℕ) → n < length olds → (slice_index_or news n d).is_refused ≡ false) (i : Item) where
    abbrev count : ℕ
    count = length olds

    abbrev mine : ℕ
    mine = shard_of count (uid_of i.key)

    abbrev old : List Item
    old = (slice_index_or olds mine d).state

    -- of the UID of an item its shard hears what all hear
    same_heard : SameOf i (old ++ of_shard count mine items) (kept_in olds ++ items)
    same_heard j of_uid = (
      λ h. elim (Contains-append_cases old (of_shard count mine items) j h) [
        | inl before ↦ Contains-append_left (kept_in olds) items j ((same_of_own olds d are i j of_uid).0 before)
        | inr now ↦ Contains-append_right (kept_in olds) items j
            (in_filter (λ (item : Item). nat_eq (shard_of count (uid_of item.key)) mine) items j now)
      ],
      λ h. elim (Contains-append_cases (kept_in olds) items j h) [
        | inl before ↦ Contains-append_left old (of_shard count mine items) j ((same_of_own olds d are i j of_uid).1 before)
        | inr now ↦ Contains-append_right old (of_shard count mine items) j
            (into_filter (λ (item : Item). nat_eq (shard_of count (uid_of item.key)) mine) items j now
            ((Decides-eqb (shard_of count (uid_of j.key)) mine).1 (ap (shard_of count) of_uid)))
      ],
    )

    abbrev new : List Item
    new = (slice_index_or news mine d).state

    kept_here : AreKept new (old ++ of_shard count mine items)
    kept_here = (each mine d (own_below olds d are i)).hears (heard mine (own_below olds d are i))

    -- an item is in the shard of its UID exactly where it is among all
    in_new : Contains new i ↔ Contains (kept_in news) i
    in_new = subst (λ (n : ℕ). Contains (slice_index_or news (shard_of n (uid_of i.key)) d).state i ↔ Contains (kept_in news) i) many
        (same_of_own news d stay_sharded i i refl)

    pub shards_keep : Contains (kept_in news) i ↔ IsKept (kept_in olds ++ items) i
    shards_keep =
        let alike = kept_alike i (old ++ of_shard count mine items) (kept_in olds ++ items) same_heard in
        (λ h. alike.0 ((kept_here i).0 (in_new.1 h)), λ k. in_new.0 ((kept_here i).1 (alike.1 k)))

  -- all shards heard the items of their UIDs, so what they keep is what is kept of all
  pub shards_hear : ((n : ℕ) (d : Shard) → n < length olds → (slice_index_or news n d).is_refused ≡ false) →
      AreKept (kept_in news) (kept_in olds ++ items)
  shards_hear heard i = shards_keep (some_shard olds are.some) (λ n. heard n (some_shard olds are.some)) i

-- ---- shards side by side

pub kept_both : (xs ys : List Shard) → kept_in (xs ++ ys) ≡ kept_in xs ++ kept_in ys
kept_both [] ys = refl
kept_both (x ∷ xs) ys = ap (λ (t : List Item). x.state ++ t) (kept_both xs ys) ∙ sym (append_assoc x.state (kept_in xs) (kept_in ys))

-- two sets beside two with the same items
same_beside : (xs ys us vs : List Item) → SameItems xs us → SameItems ys vs → SameItems (xs ++ ys) (us ++ vs)
same_beside xs ys us vs one two i = (
  λ h. elim (Contains-append_cases xs ys i h) [
    | inl left ↦ Contains-append_left us vs i ((one i).0 left)
    | inr right ↦ Contains-append_right us vs i ((two i).0 right)
  ],
  λ h. elim (Contains-append_cases us vs i h) [
    | inl left ↦ Contains-append_left xs ys i ((one i).1 left)
    | inr right ↦ Contains-append_right xs ys i ((two i).1 right)
  ],
)

module _ (shards : List Shard) (list : Vec Item) (n : ℕ) (below : n < length shards)
    (are : HoldsAt (λ (shard : Shard). IsItemsOf list.items shard.state) shards n) where
  abbrev shard : Shard
  shard = get_or shards n (some_shard shards (omega (arith, below)))

  -- the list of a shard ascends
  pub sorted_ascends : AscendOctets list.items
  sorted_ascends = (are shard).ascend

  -- the list of one shard more
  pub sorted_more : (lists : List (Vec Item)) → SameItems (items_in lists) (kept_in (take n shards)) →
      SameItems (items_in (lists ++ list ∷ [])) (kept_in (take (n + 1) shards))
  sorted_more lists same =
      let d : Shard = some_shard shards (omega (arith, below)) in
      let whole : kept_in (take (n + 1) shards) ≡ kept_in (take n shards) ++ shard.state = ap kept_in (take_more shards n d below) ∙
      kept_both (take n shards) (shard ∷ []) ∙ ap (λ (t : List Item). kept_in (take n shards) ++ t) (append-nil shard.state) in
      rw (items_more lists list, whole) (same_beside (items_in lists) list.items (kept_in (take n shards)) shard.state same (are d).same)

-- nothing is kept of nothing
pub are_none : (state all : List Item) → state ≡ [] → all ≡ [] → AreKept state all
are_none state all empty none =
    subst (λ (xs : List Item). AreKept xs all) (sym empty) (subst (λ (xs : List Item). AreKept [] xs) (sym none)
    (λ i. (λ h. absurd (none_in i h), λ (kept : IsKept [] i). absurd (none_in i kept.best.is_heard))))

-- one state more is merged into what is kept of those after it
pub merged_one : (state now behind one : List Item) → AreKept state behind → AreKept now (state ++ one) → AreKept now (one ++ behind)
merged_one state now behind one keeps merged =
    are_kept_same now (behind ++ one) (one ++ behind) (same_swapped behind one)
    (are_kept_by now (state ++ one) (behind ++ one) (kept_beside behind one state keeps) merged)

-- the shard of an item's UID tells whether the items of all shards outdo it
pub outdone_at : (shards : List Shard) (are : AreSharded shards) (n count : ℕ) (uid : List ℕ) (i : Item) (one : Shard) →
    n ≡ shard_of count uid → count ≡ length shards → uid ≡ uid_of i.key → one ≡ slice_index_or shards n one →
    IsOutdone one.state i ↔ IsOutdone (kept_in shards) i
outdone_at shards are n amount uid i one number many about at =
    let own_is : n ≡ shard_of (length shards) (uid_of i.key) =
    number ∙ ap (λ (k : ℕ). shard_of k uid) many ∙ ap (shard_of (length shards)) about in
    let here : one ≡ slice_index_or shards (shard_of (length shards) (uid_of i.key)) one =
    at ∙ ap (λ (k : ℕ). slice_index_or shards k one) own_is in
    let same : SameOf i one.state (kept_in shards) =
    subst (λ (s : Shard). SameOf i s.state (kept_in shards)) (sym here) (same_of_own shards one are i) in (
      outdone_alike i one.state (kept_in shards) same,
      outdone_alike i (kept_in shards) one.state (same_back i one.state (kept_in shards) same),
    )

-- an item that was asked about alone is outdone exactly where it is no news
pub outdone_alone : (set : List Item) (i : Item) (news : List Item) → AreNews set (i ∷ []) news → news ≡ [] ↔ IsOutdone set i
outdone_alone set i news told = (
  λ none. elim (told.rest i (cons_first i [])) [
    | inl h ↦ absurd (none_in i (subst (λ (ns : List Item). Contains ns i) none h))
    | inr out ↦ out
  ],
  λ out. no_news news told out,
)
  where
    no_news : (ns : List Item) → AreNews set (i ∷ []) ns → IsOutdone set i → ns ≡ []
    no_news [] are out = refl
    no_news (n ∷ ns) are out = elim (cons_cases i [] n (are.among n (cons_first n ns))) [
      | inl is ↦ absurd (are.new n (cons_first n ns) (subst (IsOutdone set) is out))
      | inr none ↦ absurd (none_in n none)
    ]

-- shards that keep nothing are sharded
pub none_sharded : (shards : List Shard) → zero < length shards → kept_in shards ≡ [] → AreSharded shards
none_sharded shards some none = record {
  some = some;
  each = λ n d below i h. absurd (none_in i (subst (λ (all : List Item). Contains all i) none (of_all shards n d i below h)));
}

-- no allocation failed in any of some shards
pub none_refused : (shards : List Shard) → list_any (λ (s : Shard). s.is_refused) shards ≡ false → (n : ℕ) (d : Shard) → n < length shards →
    (slice_index_or shards n d).is_refused ≡ false
none_refused [] none n d below = absurd (omega (arith, below))
none_refused (s ∷ ss) none zero d below = first_false s.is_refused (list_any (λ (t : Shard). t.is_refused) ss) none
none_refused (s ∷ ss) none (suc n) d below =
    let less : n < length ss = omega (arith, below) in
    none_refused ss (second_false s.is_refused (list_any (λ (t : Shard). t.is_refused) ss) none) n d less
