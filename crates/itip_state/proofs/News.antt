-- What is kept and what moves, if items that were told before or are dead are left out.
use Rattle.std.proofs.Common.{◌≡◌, ◌≢◌, List, ℕ, [], ◌∷◌, ◌++◌, ◌↔◌, ◌⊎◌, inl, inr, refl, sym, ◌∙◌, ap, subst, append-nil, Some, None, true}
use Rattle.std.proofs.Common.{false}
use Rattle.std.specs.List.{Contains}
use Rattle.std.proofs.lemmas.List.Elements.{Contains-append_cases, Contains-append_left, Contains-append_right}
use Rattle.itip_join.specs.declared.lift.Lift.{Lift}
use Rattle.itip_join.specs.declared.lift.Lift.TheVariants.{Known}
use Rattle.itip_join.specs.KeyByKey.{value_at}
use Rattle.itip_items.specs.KeyParts.{uid_of}
use Rattle.itip_items.specs.RevisionOrder.{IsLater}
use Rattle.itip_items.specs.declared.item.Item.{Item}
use Rattle.itip_items.specs.declared.key.Key.{Key}
use Rattle.itip_items.specs.declared.key.Key.TheVariants.{Series}
use Rattle.itip_state.specs.Kept.{IsBest, IsKept, IsDead, KeepSame, Moves}
use Rattle.itip_state.specs.Slots.{slot_cmp}
use Rattle.itip_state.specs.Held.{Best, UidState, best, is_series, kills, items_of, uid_state_items, at, IsSound, AreHeld, IsHeldAs}
use Rattle.itip_state.specs.Told.{IsTold, IsOutdone, AreNews, HoldsNoEarlier}
use Rattle.itip_state.proofs.Members.{by_bool, none_in, cons_cases}
use Rattle.itip_state.proofs.Later.{neither_later}
use Rattle.itip_state.proofs.Best.{best_above, not_later_itself, later_transitive}
use Rattle.itip_state.proofs.Keeping.{Covers, covers_itself, kept_of_parts, kept_part, best_part, series_kept}
use Rattle.itip_state.proofs.Tests.{series_key, dead_under, can, kill}
use Rattle.itip_state.proofs.UidStates.{known_key, series_held, entry_held, entry_key, held_as, series_is, killed_is_dead}
use Rattle.itip_state.proofs.Reading.{held_part, held_no_part, held_sound}

pub one_more_news : (set items news : List Item) (j : Item) → (¬ IsOutdone set j) → AreNews set items news →
    AreNews set (items ++ j ∷ []) (news ++ j ∷ [])
one_more_news set items news j new are = record {
  new = λ i h. elim (Contains-append_cases news (j ∷ []) i h) [
    | inl before ↦ are.new i before
    | inr now ↦ elim (cons_cases j [] i now) [
      | inl same ↦ subst (λ (k : Item). ¬ IsOutdone set k) same new
      | inr none ↦ absurd (none_in
          i none)
    ]
  ];
  among = λ i h. elim (Contains-append_cases news (j ∷ []) i h) [
    | inl before ↦ Contains-append_left items (j ∷ []) i (are.among i before)
    | inr now ↦ Contains-append_right items (j ∷ []) i now
  ];
  rest = λ i h. elim (Contains-append_cases items (j ∷ []) i h) [
    | inl before ↦ elim (are.rest i before) [ inl one ↦ inl (Contains-append_left news (j ∷ []) i one) | inr old ↦ inr old ]
    | inr now ↦ inl (Contains-append_right news (j ∷ []) i now)
  ];
}

pub nothing_new : (set items news : List Item) (j : Item) → IsOutdone set j → AreNews set items news → AreNews set (items ++ j ∷ []) news
nothing_new set items news j old are = record {
  new = are.new;
  among = λ i h. Contains-append_left items (j ∷ []) i (are.among i h);
  rest = λ i h. elim (Contains-append_cases items (j ∷ []) i h) [
    | inl before ↦ are.rest i before
    | inr now ↦ elim (cons_cases j [] i now) [ inl same ↦ inr (subst (IsOutdone set) same old) | inr none ↦ absurd (none_in i none) ]
  ];
}

-- what is kept and was told by a set is in the set
told_kept : (set items : List Item) (i : Item) → IsKept (set ++ items) i → IsTold set i → Contains set i
told_kept set items i kept told = subst (Contains set)
    (neither_later told.teller i (kept.best.none_later told.teller (Contains-append_left set items told.teller told.there) told.same)
    told.not_later) told.there

-- what is dead beside a part is dead beside the whole
dead_more : (set items : List Item) (i : Item) → IsDead set i → IsDead (set ++ items) i
dead_more set items i dead =
    dead_under (set ++ items) dead.series i (Contains-append_left set items dead.series dead.best.is_heard) dead.best.about
    (can i.key dead.can_die) dead.below

outdone_kept : (set items : List Item) (i : Item) → IsKept (set ++ items) i → IsOutdone set i → Contains set i
outdone_kept set items i kept (inl told) = told_kept set items i kept told
outdone_kept set items i kept (inr dead) = absurd (kept.alive (dead_more set items i dead))

news_cover : (set items news : List Item) → AreNews set items news → Covers (set ++ news) (set ++ items)
news_cover set items news are i = (
  λ h. elim (Contains-append_cases set news i h) [
    | inl old ↦ Contains-append_left set items i old
    | inr new ↦ Contains-append_right set items i (are.among i new)
  ],
  λ kept. elim (Contains-append_cases set items i kept.best.is_heard) [
    | inl old ↦ Contains-append_left set news i old
    | inr new ↦ elim (are.rest i new) [
      | inl one ↦ Contains-append_right set news i one
      | inr old ↦ Contains-append_left set news i (outdone_kept set items i kept old)
    ]
  ],
)

covered_kept : (part whole : List Item) → Covers part whole → (i : Item) → IsKept part i ↔ IsKept whole i
covered_kept part whole covers i =
    subst (λ (p : List Item). IsKept p i ↔ IsKept whole i) (append-nil part)
    (subst (λ (w : List Item). IsKept (part ++ []) i ↔ IsKept w i) (append-nil whole)
    (kept_of_parts whole [] part [] covers (covers_itself []) i))

-- beside the set, the news have the same effect as all items
pub news_kept : (set items news : List Item) → AreNews set items news → (i : Item) → IsKept (set ++ news) i ↔ IsKept (set ++ items) i
news_kept set items news are = covered_kept (set ++ news) (set ++ items) (news_cover set items news are)

-- what is kept of the news is kept beside the set, which outdoes none of them
new_kept : (set items news : List Item) (i : Item) → AreNews set items news → IsKept news i → IsKept (set ++ news) i
new_kept set items news i are kept = record {
  best = record {
    is_heard = Contains-append_right set news i kept.best.is_heard;
    about = refl;
    none_later = λ j h same. elim (Contains-append_cases set news j h) [
      | inl old ↦ λ later. new (inl (record {
        teller = j;
        there = old;
        same = same;
        not_later =
            λ over. not_later_itself i (later_transitive i j i over later);
      }))
      | inr now ↦ kept.best.none_later j now same
    ];
  };
  alive = λ dead. elim (Contains-append_cases set news dead.series dead.best.is_heard) [
    | inl old ↦ new (inr (record {
      can_die = dead.can_die;
      series = dead.series;
      best =
          best_part (set ++ news) set _ dead.series (Contains-append_left set news) dead.best old;
      below = dead.below;
    }))
    | inr now ↦ kept.alive (record {
      can_die = dead.can_die;
      series = dead.series;
      best =
          best_part (set ++ news) news _ dead.series (Contains-append_right set news) dead.best now;
      below = dead.below;
    })
  ];
}
  where
    new : ¬ IsOutdone set i
    new = are.new i kept.best.is_heard

-- beside items of other UIDs, the same is kept of a UID
kept_apart : (set news : List Item) (uid : List ℕ) → ((i : Item) → Contains news i → uid_of i.key ≢ uid) → KeepSame uid set (set ++ news)
kept_apart set news uid none i of_uid =
    (up, λ kept. kept_part (set ++ news) set i (Contains-append_left set news) kept (old i kept.best.is_heard of_uid))
  where
    old : (j : Item) → Contains (set ++ news) j → uid_of j.key ≡ uid → Contains set j
    old j h same = elim (Contains-append_cases set news j h) [ inl left ↦ left | inr right ↦ absurd (none j right same) ]

    up : IsKept set i → IsKept (set ++ news) i
    up kept = record {
      best = record {
        is_heard = Contains-append_left set news i kept.best.is_heard;
        about = refl;
        none_later = λ j h same. kept.best.none_later j (old j h (ap uid_of same ∙ of_uid)) same;
      };
      alive = λ dead. kept.alive (record {
        can_die = dead.can_die;
        series = dead.series;
        best = best_part (set ++ news) set _ dead.series (Contains-append_left set news) dead.best
            (old dead.series dead.best.is_heard (ap uid_of dead.best.about ∙ of_uid));
        below = dead.below;
      });
    }

-- hearing a step moves each UID of an item of the news, and no other
pub record MovesWhatItHas (before step news : List Item) : Type 0 where
  pub each : (item : Item) → Contains news item → Moves before step (uid_of item.key)
  pub others : (uid : List ℕ) → ((item : Item) → Contains news item → uid_of item.key ≢ uid) → KeepSame uid before (before ++ step)

-- the UIDs of the news are those that move
pub news_move : (set items news : List Item) → AreNews set items news → MovesWhatItHas set items news
news_move set items news are = record {
  each = moves;
  others = λ uid none i of_uid.
      let apart = kept_apart set news uid none i of_uid in
      let all = news_kept set items news are i in
      (λ k. all.0 (apart.0 k), λ k. apart.1 (all.1 k));
}
  where
    -- no item of the news is kept of a UID that keeps what it kept
    none_kept : (i k : Item) → KeepSame (uid_of i.key) set (set ++ items) → uid_of k.key ≡ uid_of i.key → ¬ IsKept news k
    none_kept i k same of_uid is =
        let whole : IsKept (set ++ items) k = (news_kept set items news are k).0 (new_kept set items news k are is) in
        let old : Contains set k = ((same k of_uid).1 whole).best.is_heard in
        are.new k is.best.is_heard (inl (record { teller = k; there = old; same = refl; not_later = not_later_itself k }))

    moves : (i : Item) → Contains news i → Moves set items (uid_of i.key)
    moves i h same =
        let found = best_above news i h in
        let about : (found.0).key ≡ i.key = found.1.about in
        none_kept i found.0 same (ap uid_of about) (record {
          best = subst (λ k. IsBest news k found.0) (sym about) found.1;
          alive = λ dead. none_kept i dead.series same (ap uid_of dead.best.about ∙ ap uid_of about)
              (series_kept news (uid_of (found.0).key) dead.series dead.best);
        })

-- ---- at the key of an item
pub not_series : (key : Key) → ((uid : List ℕ) → key ≡ Series uid → ⊥) → is_series key ≡ false
not_series key not = by_bool (is_series key) (is_series key ≡ false) (λ e. absurd (not (uid_of key) (series_key key e))) (λ e. e)

module _ (sh : UidState) (item : Item) (b : Best) where
  pub known_holds : is_series item.key ≡ true → sh.series ≡ Known b → HoldsNoEarlier sh item ↔ (¬ IsLater item b.value)
  known_holds e known = (λ h. by h.held h.not_later h.place, λ n. record { held = b; place = inl (e, known); not_later = n })
    where
      one : (x y : Best) → Known x ≡ Known y → x ≡ y
      one x y same = cc

      by : (held : Best) → (¬ IsLater item held.value) → ((is_series item.key ≡ true) × (sh.series ≡ Known held)) ⊎
          ((is_series item.key ≡ false) × (value_at slot_cmp sh.entries item.key ≡ Some held))
          → ¬ IsLater item b.value
      by held not (inl first) = subst (λ (x : Best). ¬ IsLater item x.value) (one held b (sym first.1 ∙ known)) not
      by held not (inr other) = let x : true ≡ false = sym e ∙ other.0 in absurd (cc)

  pub entry_holds : is_series item.key ≡ false → value_at slot_cmp sh.entries item.key ≡ Some b → HoldsNoEarlier sh item ↔
      (¬ IsLater item b.value)
  entry_holds e there = (λ h. by h.held h.not_later h.place, λ n. record { held = b; place = inr (e, there); not_later = n })
    where
      one : (x y : Best) → Some x ≡ Some y → x ≡ y
      one x y same = cc

      by : (held : Best) → (¬ IsLater item held.value) → ((is_series item.key ≡ true) × (sh.series ≡ Known held)) ⊎
          ((is_series item.key ≡ false) × (value_at slot_cmp sh.entries item.key ≡ Some held))
          → ¬ IsLater item b.value
      by held not (inl first) = let x : true ≡ false = sym first.0 ∙ e in absurd (cc)
      by held not (inr other) = subst (λ (x : Best). ¬ IsLater item x.value) (one held b (sym other.1 ∙ there)) not

-- ---- nothing, or this, is held of a UID
module _ (es : List (List ℕ × UidState)) (p : AreHeld es) (item : Item) where
  abbrev all : List Item
  all = items_of es

  pub not_outdone : at es (uid_of item.key) ≡ None → ¬ IsOutdone all item
  not_outdone e (inl told) = none_in told.teller ((held_no_part es p (uid_of item.key) e told.teller).1 (told.there, ap uid_of told.same))
  not_outdone e (inr dead) =
      none_in dead.series ((held_no_part es p (uid_of item.key) e dead.series).1 (dead.best.is_heard, ap uid_of dead.best.about))

  module _ (sh : UidState) (e : at es (uid_of item.key) ≡ Some sh) where
    sound : IsSound (uid_of item.key) sh
    sound = held_sound es p (uid_of item.key) sh e

    in_place : (held : Best) → ((is_series item.key ≡ true) × (sh.series ≡ Known held)) ⊎
        ((is_series item.key ≡ false) × (value_at slot_cmp sh.entries item.key ≡ Some held))
        → Contains (uid_state_items sh) held.value × (held.value.key ≡ item.key)
    in_place held (inl first) = (
      series_held (uid_of item.key) sh sound held.value first.1,
      known_key (uid_of item.key) sh sound held.value first.1 ∙
          sym (series_key item.key first.0),
    )
    in_place held (inr other) =
        (entry_held (uid_of item.key) sh sound item.key held other.1, (entry_key (uid_of item.key) sh sound item.key held other.1).in_place)

    from_uid_state : (i : Item) → Contains (uid_state_items sh) i → Contains all i
    from_uid_state i h = ((held_part es p (uid_of item.key) sh e i).0 h).0

    in_uid_state : (i : Item) → Contains all i → uid_of i.key ≡ uid_of item.key → Contains (uid_state_items sh) i
    in_uid_state i h same = (held_part es p (uid_of item.key) sh e i).1 (h, same)

    pub told_here : HoldsNoEarlier sh item → IsOutdone all item
    told_here holds =
        let one = in_place holds.held holds.place in
        inl (record { teller = holds.held.value; there = from_uid_state holds.held.value one.0; same = one.1; not_later = holds.not_later })

    pub dead_here : kills sh.series item.key item ≡ true → IsOutdone all item
    dead_here k = inr (killed_is_dead (uid_of item.key) sh sound all from_uid_state item refl k)

    holds_as : (w : Item) → w.key ≡ item.key → (¬ IsLater item w) → IsHeldAs sh w → HoldsNoEarlier sh item
    holds_as w same not (inl first) = record { held = best w; place = inl (ap is_series (sym same) ∙ first.1, first.0); not_later = not }
    holds_as w same not (inr other) =
        record {
          held = best w;
          place = inr (ap is_series (sym same) ∙ other.1, ap (value_at slot_cmp sh.entries) (sym same) ∙ other.0);
          not_later = not;
        }

    -- if an item is outdone, one of the two is seen here
    pub outdone_here : IsOutdone all item → (kills sh.series item.key item ≡ true) ⊎ HoldsNoEarlier sh item
    outdone_here (inl told) =
        inr (holds_as told.teller told.same told.not_later
        (held_as (uid_of item.key) sh sound told.teller (in_uid_state told.teller told.there (ap uid_of told.same))))
    outdone_here (inr dead) =
        let there : Contains (uid_state_items sh) dead.series = in_uid_state dead.series dead.best.is_heard (ap uid_of dead.best.about) in
        let known = series_is (uid_of item.key) sh sound dead.series there (ap is_series dead.best.about) in
        inl (ap (λ (t : Lift Best). kills t item.key item) known ∙ kill dead.series item.key item (can item.key dead.can_die) dead.below)
