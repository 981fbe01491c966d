-- What one more step adds to what was heard.
use Rattle.std.proofs.Common.{◌≡◌, ℕ, ◌<◌, ◌≤◌, List, [], ◌∷◌, ◌++◌, ◌↔◌, ◌⊎◌, inl, inr, refl, sym, ap, subst, ◌∙◌, append_assoc}
use Rattle.std.proofs.Common.{append-nil, length, arith}
use Rattle.std.specs.List.{Contains}
use Rattle.std.proofs.lemmas.List.Elements.{Contains-append_left, Contains-append_right, Contains-push}
use Rattle.itip_items.specs.KeyParts.{uid_of}
use Rattle.itip_items.specs.declared.item.Item.{Item}
use Rattle.itip_state.specs.Kept.{AreKept, IsKept, KeepSame, Moves, AreMoved, AreUidsOf, SameItems}
use Rattle.itip_state.specs.Order.{IsBelow}
use Rattle.itip_state.proofs.Keeping.{kept_again, kept_iff, kept_beside, kept_of_parts, covers_itself, covers_kept, are_kept_by}
use Rattle.itip_state.proofs.Keeping.{same_absorbed}
use Rattle.itip_state.proofs.Members.{cons_cases}
use Rattle.itip_state.proofs.News.{MovesWhatItHas}
use Rattle.itip_desk.specs.Desk.{Shown, CarriesAfter, IsDeskOf}
use Rattle.itip_desk.specs.HeardSteps.{heard, AreHeard}
use Rattle.itip_desk.specs.Ticks.{TickStep, Ticks, MovedAfter}

-- one more step is heard last
pub heard-append : (steps : List (List Item)) (step : List Item) → heard (steps ++ step ∷ []) ≡ heard steps ++ step
heard-append [] step = append-nil step
heard-append (first ∷ steps) step = ap (λ rest. first ++ rest) (heard-append steps step) ∙ sym (append_assoc first (heard steps) step)

-- a step changes what is kept of a UID beside what was kept exactly if it does beside all that was heard
pub keep_same_up : (uid : List ℕ) (kept all step : List Item) → AreKept kept all → KeepSame uid kept (kept ++ step) →
    KeepSame uid all (all ++ step)
keep_same_up uid kept all step are same item about =
    let again = kept_again kept all are item in
    let beside = kept_beside all step kept are item in
    let here = same item about in
    (λ k. beside.0 (here.0 (again.1 k)), λ k. again.0 (here.1 (beside.1 k)))

pub keep_same_down : (uid : List ℕ) (kept all step : List Item) → AreKept kept all → KeepSame uid all (all ++ step) →
    KeepSame uid kept (kept ++ step)
keep_same_down uid kept all step are same item about =
    let again = kept_again kept all are item in
    let beside = kept_beside all step kept are item in
    let here = same item about in
    (λ k. beside.1 (here.0 (again.0 k)), λ k. again.1 (here.1 (beside.0 k)))

pub tick_step_up : (kept all step : List Item) (tick next : ℕ) → AreKept kept all → TickStep kept step tick next →
    TickStep all step tick next
tick_step_up kept all step tick next are (inl (moves, up)) =
    inl ((moves.0, λ same. moves.1 (keep_same_down moves.0 kept all step are same)), up)
tick_step_up kept all step tick next are (inr (same, stays)) = inr (λ uid. keep_same_up uid kept all step are (same uid), stays)

pub ticks_more : (before : List Item) (tick : ℕ) (steps : List (List Item)) (step : List Item) (last next : ℕ) →
    Ticks before tick steps last → TickStep (before ++ heard steps) step last next → Ticks before tick (steps ++ step ∷ []) next
ticks_more before tick [] step last next at more =
    let here : TickStep before step last next = subst (λ (b : List Item). TickStep b step last next) (append-nil before) more in
    (next, subst (λ (t : ℕ). TickStep before step t next) at here, refl)
ticks_more before tick (first ∷ steps) step last next (mid, one, rest) more = (
  mid,
  one,
  ticks_more (before ++ first) mid steps step last next rest
      (subst (λ (b : List Item). TickStep b step last next) (sym (append_assoc before first (heard steps))) more),
)

-- a step leaves one tick
pub tick_once : (before step : List Item) (tick m n : ℕ) → TickStep before step tick m → TickStep before step tick n → m ≡ n
tick_once before step tick m n (inl a) (inl b) = a.1 ∙ sym b.1
tick_once before step tick m n (inl a) (inr b) = absurd (a.0.1 (b.0 a.0.0))
tick_once before step tick m n (inr a) (inl b) = absurd (b.0.1 (a.0 b.0.0))
tick_once before step tick m n (inr a) (inr b) = a.1 ∙ sym b.1

pub step_rises : (before step : List Item) (tick next : ℕ) → TickStep before step tick next → tick ≤ next
step_rises before step tick next (inl a) = let e = a.1 in omega (arith, e)
step_rises before step tick next (inr a) = let e = a.1 in omega (arith, e)

ticks_rise : (before : List Item) (tick : ℕ) (steps : List (List Item)) (last : ℕ) → Ticks before tick steps last → tick ≤ last
ticks_rise before tick [] last at = omega (arith, at)
ticks_rise before tick (step ∷ steps) last (next, one, rest) =
    let low = step_rises before step tick next one in
    let high = ticks_rise (before ++ step) next steps last rest in omega (arith, low, high)

-- a UID that moved carries no tick above the last
pub moved_below : (before : List Item) (tick : ℕ) (steps : List (List Item)) (last since : ℕ) (uid : List ℕ) →
    Ticks before tick steps last → MovedAfter before tick steps since uid → since < last
moved_below before tick [] last since uid at moved = absurd moved
moved_below before tick (step ∷ steps) last since uid (mid, one, rest) (next, two, inl here) =
    let same : next ≡ mid = tick_once before step tick next mid two one in
    let low : since < next = here.1 in
    let high = ticks_rise (before ++ step) mid steps last rest in omega (arith, same, low, high)
moved_below before tick (step ∷ steps) last since uid (mid, one, rest) (next, two, inr later) =
    moved_below (before ++ step) mid steps last since uid rest
    (subst (λ (t : ℕ). MovedAfter (before ++ step) t steps since uid) (tick_once before step tick next mid two one) later)

-- with one more step, the UIDs that moved are those that moved before and those that this step moves
module _ (step : List Item) (last next since : ℕ) (uid : List ℕ) where
  pub moved_up : (before : List Item) (tick : ℕ) (steps : List (List Item)) → Ticks before tick steps last →
      TickStep (before ++ heard steps) step last next
      → MovedAfter before tick (steps ++ step ∷ []) since uid → MovedAfter before tick steps since uid ⊎
      (Moves (before ++ heard steps) step uid × (since < next))
  moved_up before tick [] at one (n, two, inl here) =
      let first : TickStep before step tick next =
      subst (λ (b : List Item). TickStep b step tick next) (append-nil before)
      (subst (λ (t : ℕ). TickStep (before ++ []) step t next) at one) in
      inr (
        subst (λ (b : List Item). Moves b step uid) (sym (append-nil before)) here.0,
        subst (λ (t : ℕ). since < t) (tick_once before step tick n next two first) here.1,
      )
  moved_up before tick [] at one (n, two, inr none) = absurd none
  moved_up before tick (first ∷ steps) (mid, two, rest) one (n, three, inl here) = inl (n, three, inl here)
  moved_up before tick (first ∷ steps) (mid, two, rest) one (n, three, inr later) =
      elim (moved_up (before ++ first) mid steps rest
      (subst (λ (b : List Item). TickStep b step last next) (sym (append_assoc before first (heard steps))) one)
      (subst (λ (t : ℕ). MovedAfter (before ++ first) t (steps ++ step ∷ []) since uid) (tick_once before first tick n mid three two)
      later)) [
        | inl old ↦ inl (mid, two, inr old)
        | inr new ↦ inr (subst (λ (b : List Item). Moves b step uid) (append_assoc before first (heard steps)) new.0, new.1)
      ]

  pub moved_here : (before : List Item) (tick : ℕ) (steps : List (List Item)) → Ticks before tick steps last →
      TickStep (before ++ heard steps) step last next
      → Moves (before ++ heard steps) step uid → since < next → MovedAfter before tick (steps ++ step ∷ []) since uid
  moved_here before tick [] at one moves above = (
    next,
    subst (λ (b : List Item). TickStep b step tick next) (append-nil before)
        (subst (λ (t : ℕ). TickStep (before ++ []) step t next) at one),
    inl (subst (λ (b : List Item). Moves b step uid) (append-nil before) moves, above),
  )
  moved_here before tick (first ∷ steps) (mid, two, rest) one moves above = (
    mid,
    two,
    inr (moved_here (before ++ first) mid steps rest
        (subst (λ (b : List Item). TickStep b step last next) (sym (append_assoc before first (heard steps))) one)
        (subst (λ (b : List Item). Moves b step uid) (sym (append_assoc before first (heard steps))) moves) above),
  )

  pub moved_before : (before : List Item) (tick : ℕ) (steps : List (List Item)) → MovedAfter before tick steps since uid →
      MovedAfter before tick (steps ++ step ∷ []) since uid
  moved_before before tick [] moved = absurd moved
  moved_before before tick (first ∷ steps) (n, one, inl here) = (n, one, inl here)
  moved_before before tick (first ∷ steps) (n, one, inr later) = (n, one, inr (moved_before (before ++ first) n steps later))

-- The UIDs that a step moves carry the tick after it, and the others what they carried.
pub record CarryStep (old new : Shown) (step : List Item) : Type 0 where
  pub up : (since : ℕ) (uid : List ℕ) → CarriesAfter new.changed since uid → CarriesAfter old.changed since uid ⊎
      (Moves old.kept step uid × (since < new.tick))
  pub moved : (since : ℕ) (uid : List ℕ) → Moves old.kept step uid → since < new.tick → CarriesAfter new.changed since uid
  pub stays : (since : ℕ) (uid : List ℕ) → CarriesAfter old.changed since uid → since < new.tick → CarriesAfter new.changed since uid

-- a desk that keeps what is kept of one more step, at the tick that the step leaves, is that of one more step
pub one_more_step : (steps : List (List Item)) (start : ℕ) (old new : Shown) (step : List Item) → AreKept new.kept (old.kept ++ step) →
    TickStep old.kept step old.tick new.tick → CarryStep old new step
    → IsDeskOf steps start old → IsDeskOf (steps ++ step ∷ []) start new
one_more_step steps start old new step kept tick carry is = record {
  kept = subst (λ (all : List Item). AreKept new.kept all) (sym (heard-append steps step))
      (are_kept_by new.kept (old.kept ++ step) (heard steps ++ step) (kept_beside (heard steps) step old.kept is.kept) kept);
  tick = ticks_more [] start steps step old.tick new.tick is.tick one;
  changed = λ since uid. (
    λ c. elim (carry.up since uid c) [
      | inl before ↦ moved_before step old.tick new.tick since uid [] start steps ((is.changed since uid).0 before)
      | inr now ↦ moved_here step old.tick new.tick since uid [] start steps is.tick one (moves_up uid now.0) now.1
    ],
    λ m. elim (moved_up step old.tick new.tick since uid [] start steps is.tick one m) [
      | inl before ↦
          let low : since < old.tick = moved_below [] start steps old.tick since uid is.tick before in
          let high : old.tick ≤ new.tick = step_rises (heard steps) step old.tick new.tick one in
          carry.stays since uid ((is.changed since uid).1 before) (omega (arith, low, high))
      | inr now ↦ carry.moved since uid (λ same. now.0 (keep_same_up uid old.kept (heard steps) step is.kept same)) now.1
    ],
  );
}
  where
    one : TickStep (heard steps) step old.tick new.tick
    one = tick_step_up old.kept (heard steps) step old.tick new.tick is.kept tick

    moves_up : (uid : List ℕ) → Moves old.kept step uid → Moves (heard steps) step uid
    moves_up uid moves same = moves (keep_same_down uid old.kept (heard steps) step is.kept same)

-- if nothing moves, no UID carries another tick
pub still_carry : (desk : Shown) (step : List Item) → ((uid : List ℕ) → KeepSame uid desk.kept (desk.kept ++ step)) →
    CarryStep desk desk step
still_carry desk step same =
    record { up = λ since uid c. inl c; moved = λ since uid moves above. absurd (moves (same uid)); stays = λ since uid c above. c }

-- A step moves what a part of it moves, if with the part is kept what is kept with the step.
pub moved_alike : (uids : List (List ℕ)) (before part step : List Item) →
    ((item : Item) → IsKept (before ++ part) item ↔ IsKept (before ++ step) item) → AreMoved uids before part → AreMoved uids before step
moved_alike uids before part step alike moved = record {
  ascend = moved.ascend;
  each = λ uid h same. moved.each uid h (λ item about. (
    λ k. (alike item).1 ((same item about).0 k),
    λ k. (same item about).1 ((alike item).0 k),
  ));
  others = λ uid h item about. let here = moved.others uid h item about in (λ k. (alike item).0 (here.0 k), λ k. here.1 ((alike item).1 k));
}

-- a step moves the UIDs of its news
pub moved_by_news : (uids : List (List ℕ)) (before step news : List Item) → AreUidsOf uids news → MovesWhatItHas before step news →
    AreMoved uids before step
moved_by_news uids before step news are moves = record {
  ascend = are.ascend;
  each = λ uid h. let at = are.each uid h in subst (Moves before step) at.2 (moves.each at.0 at.1);
  others = λ uid none. moves.others uid (λ i h same. none (subst (Contains uids) same (are.all i h)));
}

-- what a step moves is what the kept part of it moves
pub moved_whole : (uids : List (List ℕ)) (before part step : List Item) → AreKept part step → AreMoved uids before part →
    AreMoved uids before step
moved_whole uids before part step are =
    moved_alike uids before part step (kept_of_parts before step before part (covers_itself before) (covers_kept part step are))

-- if a step moves no UID, what was kept is what is kept with it
pub none_moved : (before step : List Item) → AreKept before before → ((uid : List ℕ) → KeepSame uid before (before ++ step)) →
    AreKept before (before ++ step)
none_moved before step are same = are_kept_by before before (before ++ step) (λ item. same (uid_of item.key) item refl) are

-- a step that moves UIDs moves the first of them
pub some_moved : (uids : List (List ℕ)) (before step : List Item) → AreMoved uids before step → ¬ (length uids ≡ 0) → (uid : List ℕ) ×
    Moves before step uid
some_moved [] before step moved some = absurd (some refl)
some_moved (uid ∷ uids) before step moved some = (uid, moved.each uid (Contains-append_left (uid ∷ []) uids uid (Contains-push [] uid)))

-- a step whose list of moved UIDs is empty moves no UID
pub none_in : (uids : List (List ℕ)) (before step : List Item) → AreMoved uids before step → length uids ≡ 0 → (uid : List ℕ) →
    KeepSame uid before (before ++ step)
none_in uids before step moved none uid = moved.others uid (λ h. omega (arith, h.1))

-- a step of nothing moves nothing
pub nothing_more : (steps : List (List Item)) (start : ℕ) (desk : Shown) → IsDeskOf steps start desk →
    IsDeskOf (steps ++ [] ∷ []) start desk
nothing_more steps start desk is =
    let same : (uid : List ℕ) → KeepSame uid desk.kept (desk.kept ++ []) =
    λ uid item _. subst (λ (all : List Item). IsKept desk.kept item ↔ IsKept all item) (sym (append-nil desk.kept)) (λ k. k, λ k. k) in
    let state : AreKept desk.kept desk.kept = λ item. let again = kept_again desk.kept (heard steps) is.kept item in
    (λ h. again.1 ((is.kept item).0 h), λ k. (is.kept item).1 (again.0 k)) in
    one_more_step steps start desk desk [] (none_moved desk.kept [] state same) (inr (same, refl)) (still_carry desk [] same) is

-- what a step moves after what was kept, it moves after all that was heard
pub moved_of_all : (uids : List (List ℕ)) (kept all step : List Item) → AreKept kept all → AreMoved uids kept step → AreMoved uids all step
moved_of_all uids kept all step are moved = record {
  ascend = moved.ascend;
  each = λ uid h same. moved.each uid h (keep_same_down uid kept all step are same);
  others = λ uid h. keep_same_up uid kept all step are (moved.others uid h);
}

-- desks that have heard the same items keep the same
pub same_heard : (steps others : List (List Item)) (start beginning : ℕ) (desk other : Shown) → IsDeskOf steps start desk →
    IsDeskOf others beginning other → SameItems (heard steps) (heard others) → SameItems desk.kept other.kept
same_heard steps others start beginning desk other is_desk is_other same item =
    let iff = kept_iff (heard steps) (heard others) same item in
    (λ h. (is_other.kept item).1 (iff.0 ((is_desk.kept item).0 h)), λ h. (is_desk.kept item).1 (iff.1 ((is_other.kept item).0 h)))

-- what one of the steps tells was heard
heard_in : (steps : List (List Item)) (step : List Item) (item : Item) → Contains steps step → Contains step item →
    Contains (heard steps) item
heard_in [] step item there h = absurd (omega (arith, there.1))
heard_in (first ∷ steps) step item there h = elim (cons_cases first steps step there) [
  | inl same ↦ Contains-append_left first (heard steps) item (subst (λ (s : List Item). Contains s item) (sym same) h)
  | inr later ↦ Contains-append_right first (heard steps) item (heard_in steps step item later h)
]

-- hearing again what was heard adds nothing to what is kept
pub heard_below : (steps : List (List Item)) (start : ℕ) (desk : Shown) (batch : List Item) → IsDeskOf steps start desk →
    AreHeard batch steps → IsBelow batch desk.kept
heard_below steps start desk batch is told =
    are_kept_by desk.kept (heard steps) (batch ++ desk.kept) (λ item.
    let two = kept_of_parts batch (heard steps) batch desk.kept (covers_itself batch) (covers_kept desk.kept (heard steps) is.kept) item in
    let once = kept_iff (batch ++ heard steps) (heard steps) (same_absorbed batch (heard steps)
    (λ i h. let at = told i h in heard_in steps at.0 i at.1 at.2)) item in
    (λ k. two.1 (once.1 k), λ k. once.0 (two.0 k))) is.kept
