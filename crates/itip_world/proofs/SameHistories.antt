-- Two histories whose steps are the same sets: what was heard, ticks and moved UIDs are the same.
use Rattle.std.proofs.Common.{◌≡◌, ℕ, zero, suc, ◌<◌, true, false, List, [], ◌∷◌, ◌++◌, length, refl, sym, ap, subst}
use Rattle.std.proofs.Common.{◌∙◌, arith, inl, inr, Option, Some, None, append_assoc, append-nil}
use Rattle.std.specs.Prelude.{◌⊎◌, slice_get}
use Rattle.std.specs.List.{Contains}
use Rattle.std.specs.Ordering.{nat_cmp}
use Rattle.std.specs.Cmp.Lexicographic.{slice_cmp}
use Rattle.std.specs.declared.cmp.Ordering.TheVariants.{Less}
use Rattle.std.specs.Str.{bytes_eq}
use Rattle.std.proofs.lemmas.Cmp.{nat_list_cmp_total}
use Rattle.std.proofs.lemmas.List.Elements.{Contains-append_left, Contains-append_right, Contains-append_cases}
use Rattle.std.proofs.lemmas.Slice.Eq.{bytes_eq-Decides}
use Rattle.itip_items.specs.declared.item.Item.{Item}
use Rattle.itip_state.specs.Kept.{SameItems, KeepSame, AreMoved}
use Rattle.itip_state.proofs.Keeping.{kept_iff}
use Rattle.itip_state.proofs.OneOrder.{less_one_way, same_ascending}
use Rattle.itip_desk.specs.HeardSteps.{heard}
use Rattle.itip_desk.specs.Ticks.{TickStep, Ticks}
use Rattle.itip_world.specs.Worlds.{History, with_one_more, Histories, with_step}
use Rattle.itip_world.specs.Worlds.{histories_from}
use Rattle.itip_world.proofs.Ascending.{IsIn, in_contained, contained_in}

-- ---- sets given by two lists

pub same_back : (x y : List Item) → SameItems x y → SameItems y x
same_back x y same item = ((same item).1, (same item).0)

pub same_then : (x y z : List Item) → SameItems x y → SameItems y z → SameItems x z
same_then x y z first second item = (λ h. (second item).0 ((first item).0 h), λ h. (first item).1 ((second item).1 h))

pub half : (a b c d : List Item) → SameItems a b → SameItems c d → (item : Item) → Contains (a ++ c) item → Contains (b ++ d) item
half a b c d first second item h = elim (Contains-append_cases a c item h) [
  | inl k ↦ Contains-append_left b d item ((first item).0 k)
  | inr k ↦ Contains-append_right b d item ((second item).0 k)
]

pub same_together : (a b c d : List Item) → SameItems a b → SameItems c d → SameItems (a ++ c) (b ++ d)
same_together a b c d first second item = (half a b c d first second item, half b a d c (same_back a b first) (same_back c d second) item)

pub keep_same_of : (uid : List ℕ) (a b c d : List Item) → SameItems a b → SameItems c d → KeepSame uid a c → KeepSame uid b d
keep_same_of uid a b c d first second same item about =
    let left = kept_iff a b first item in
    let right = kept_iff c d second item in
    let here = same item about in
    (λ k. right.0 (here.0 (left.1 k)), λ k. left.0 (here.1 (right.1 k)))

-- ---- histories whose steps are the same sets

abbrev pub SameSteps : List (List Item) → List (List Item) → Type 0
SameSteps [] [] = Unit {0}
SameSteps [] (b ∷ bs) = ⊥
SameSteps (a ∷ as') [] = ⊥
SameSteps (a ∷ as') (b ∷ bs) = SameItems a b × SameSteps as' bs

pub record SameHistory (a b : History) : Type 0 where
  pub start : a.start ≡ b.start
  pub steps : SameSteps a.steps b.steps

abbrev pub SameHistories : Histories → Histories → Type 0
SameHistories [] [] = Unit {0}
SameHistories [] (b ∷ bs) = ⊥
SameHistories (a ∷ as') [] = ⊥
SameHistories (a ∷ as') (b ∷ bs) = SameHistory a b × SameHistories as' bs

pub same_heard : (a b : List (List Item)) → SameSteps a b → SameItems (heard a) (heard b)
same_heard [] [] same = λ item. (λ h. h, λ h. h)
same_heard [] (b ∷ bs) same = absurd same
same_heard (a ∷ as') [] same = absurd same
same_heard (a ∷ as') (b ∷ bs) same = same_together a b (heard as') (heard bs) same.0 (same_heard as' bs same.1)

pub same_one_more : (a b : List (List Item)) (x y : List Item) → SameSteps a b → SameItems x y → SameSteps (a ++ x ∷ []) (b ++ y ∷ [])
same_one_more [] [] x y same one = (one, tt)
same_one_more [] (b ∷ bs) x y same one = absurd same
same_one_more (a ∷ as') [] x y same one = absurd same
same_one_more (a ∷ as') (b ∷ bs) x y same one = (same.0, same_one_more as' bs x y same.1 one)

pub same_lengths : (a b : Histories) → SameHistories a b → length a ≡ length b
same_lengths [] [] same = refl
same_lengths [] (b ∷ bs) same = absurd same
same_lengths (a ∷ as') [] same = absurd same
same_lengths (a ∷ as') (b ∷ bs) same = ap suc (same_lengths as' bs same.1)

pub some_history : (a b : History) → Some a ≡ Some b → a ≡ b
some_history a b e = ap (λ (o : Option History). elim o [ None ↦ a | Some x ↦ x ]) e

pub same_at : (a b : Histories) (desk : ℕ) (x y : History) → SameHistories a b → slice_get a desk ≡ Some x → slice_get b desk ≡ Some y →
    SameHistory x y
same_at [] b desk x y same at there = absurd cc
same_at (a ∷ as') [] desk x y same at there = absurd same
same_at (a ∷ as') (b ∷ bs) zero x y same at there =
    subst (λ (h : History). SameHistory h y) (some_history a x at)
    (subst (λ (h : History). SameHistory a h) (some_history b y there) same.0)
same_at (a ∷ as') (b ∷ bs) (suc desk) x y same at there = same_at as' bs desk x y same.1 at there

pub same_more : (a b : History) (x y : List Item) → SameHistory a b → SameItems x y → SameHistory (with_one_more a x) (with_one_more b y)
same_more a b x y same one = record { start = same.start; steps = same_one_more a.steps b.steps x y same.steps one }

pub same_with_step : (a b : Histories) (desk : ℕ) (x y : List Item) → SameHistories a b → SameItems x y →
    SameHistories (with_step a desk x) (with_step b desk y)
same_with_step [] [] desk x y same one = tt
same_with_step [] (b ∷ bs) desk x y same one = absurd same
same_with_step (a ∷ as') [] desk x y same one = absurd same
same_with_step (a ∷ as') (b ∷ bs) zero x y same one = (same_more a b x y same.0 one, same.1)
same_with_step (a ∷ as') (b ∷ bs) (suc desk) x y same one = (same.0, same_with_step as' bs desk x y same.1 one)

pub steps_back : (a b : List (List Item)) → SameSteps a b → SameSteps b a
steps_back [] [] same = tt
steps_back [] (b ∷ bs) same = absurd same
steps_back (a ∷ as') [] same = absurd same
steps_back (a ∷ as') (b ∷ bs) same = (same_back a b same.0, steps_back as' bs same.1)

pub history_back : (a b : History) → SameHistory a b → SameHistory b a
history_back a b same = record { start = sym same.start; steps = steps_back a.steps b.steps same.steps }

pub histories_back : (a b : Histories) → SameHistories a b → SameHistories b a
histories_back [] [] same = tt
histories_back [] (b ∷ bs) same = absurd same
histories_back (a ∷ as') [] same = absurd same
histories_back (a ∷ as') (b ∷ bs) same = (history_back a b same.0, histories_back as' bs same.1)

pub same_start : (desks : ℕ) → SameHistories (histories_from desks 0) (histories_from desks 0)
same_start zero = tt
same_start (suc n) = (record { start = refl; steps = tt }, same_start n)

pub within_at : (a : Histories) (desk : ℕ) (x : History) → slice_get a desk ≡ Some x → desk < length a
within_at [] desk x at = absurd cc
within_at (a ∷ as') zero x at = omega arith
within_at (a ∷ as') (suc desk) x at = omega (arith, within_at as' desk x at)

pub some_items : (a b : List Item) → Some a ≡ Some b → a ≡ b
some_items a b e = ap (λ (o : Option (List Item)). elim o [ None ↦ a | Some x ↦ x ]) e

-- ---- ticks

pub tick_one : (before before' step step' : List Item) (tick next next' : ℕ) → SameItems before before' → SameItems step step' →
    TickStep before step tick next → TickStep before' step' tick next' → next ≡ next'
tick_one before before' step step' tick next next' same one (inl moved) (inl moved') = moved.1 ∙ sym moved'.1
tick_one before before' step step' tick next next' same one (inr stays) (inr stays') = stays.1 ∙ sym stays'.1
tick_one before before' step step' tick next next' same one (inl ((uid, moves), up)) (inr (keeps, stays')) =
    absurd (moves (keep_same_of uid before' before (before' ++ step') (before ++ step) (same_back before before' same)
    (same_back (before ++ step) (before' ++ step') (same_together before before' step step' same one)) (keeps uid)))
tick_one before before' step step' tick next next' same one (inr (keeps, stays)) (inl ((uid, moves), up')) =
    absurd (moves (keep_same_of uid before before' (before ++ step) (before' ++ step') same
    (same_together before before' step step' same one) (keeps uid)))

pub ticks_one : (before before' : List Item) (tick tick' : ℕ) (steps steps' : List (List Item)) (last last' : ℕ) →
    SameItems before before' →
    tick ≡ tick' → SameSteps steps steps' → Ticks before tick steps last → Ticks before' tick' steps' last' → last ≡ last'
ticks_one before before' tick tick' [] [] last last' same equal steps at at' = at ∙ equal ∙ sym at'
ticks_one before before' tick tick' [] (b ∷ bs) last last' same equal steps at at' = absurd steps
ticks_one before before' tick tick' (a ∷ as') [] last last' same equal steps at at' = absurd steps
ticks_one before before' tick tick' (a ∷ as') (b ∷ bs) last last' same equal steps at at' =
    ticks_one (before ++ a) (before' ++ b) at.0 at'.0 as' bs last last' (same_together before before' a b same steps.0)
    (tick_one before before' a b tick at.0 at'.0 same steps.0 at.1 (subst (λ (t : ℕ). TickStep before' b t at'.0) (sym equal) at'.1))
    steps.1 at.2 at'.2

-- the tick before the last step, and that step
pub ticks_split : (before : List Item) (tick : ℕ) (steps : List (List Item)) (step : List Item) (last : ℕ) →
    Ticks before tick (steps ++ step ∷ []) last → (mid : ℕ) × Ticks before tick steps mid × TickStep (before ++ heard steps) step mid last
ticks_split before tick [] step last at = (
  tick,
  refl,
  subst (λ (b : List Item). TickStep b step tick last) (sym (append-nil before))
      (subst (λ (n : ℕ). TickStep before step tick n) (sym at.2) at.1),
)
ticks_split before tick (a ∷ as') step last at =
    let rest = ticks_split (before ++ a) at.0 as' step last at.2 in
    (rest.0, (at.0, at.1, rest.1), subst (λ (b : List Item). TickStep b step rest.0 last) (append_assoc before a (heard as')) rest.2)

-- ---- the UIDs that move

pub is_in_or_not : (xs : List (List ℕ)) (y : List ℕ) → IsIn xs y ⊎ (IsIn xs y → ⊥)
is_in_or_not [] y = inr (λ h. h)
is_in_or_not (x ∷ xs) y =
    let decides = bytes_eq-Decides x y in
    elim (bytes_eq x y) as (λ b. bytes_eq x y ≡ b → IsIn (x ∷ xs) y ⊎ (IsIn (x ∷ xs) y → ⊥)) [
      | true ↦ λ e. inl (inl (decides.0 e))
      | false ↦ λ e. elim (is_in_or_not xs y) [
        | inl h ↦ inl (inr h)
        | inr none ↦ inr (λ h. elim h [ inl same ↦ let t = decides.1 same in absurd cc | inr k ↦ none k ])
      ]
    ] refl

pub moved_there : (uids uids' : List (List ℕ)) (before before' step step' : List Item) → SameItems before before' → SameItems step step' →
    AreMoved uids before step → AreMoved uids' before' step'
    → (uid : List ℕ) → Contains uids uid → Contains uids' uid
moved_there uids uids' before before' step step' same one moved moved' uid h =
    elim (is_in_or_not uids' uid) [
      | inl k ↦ contained_in uids' uid k
      | inr none ↦ absurd (moved.each uid h (keep_same_of uid before' before (before' ++ step') (before ++ step)
          (same_back before before' same) (same_back (before ++ step) (before' ++ step') (same_together before before' step step' same one))
          (moved'.others uid (λ k. none (in_contained uids' uid k)))))
    ]

pub moved_one : (uids uids' : List (List ℕ)) (before before' step step' : List Item) → SameItems before before' → SameItems step step' →
    AreMoved uids before step → AreMoved uids' before' step' → uids ≡ uids'
moved_one uids uids' before before' step step' same one moved moved' =
    same_ascending (λ (a b : List ℕ). slice_cmp nat_cmp a b ≡ Less) (less_one_way nat_list_cmp_total) uids uids' moved.ascend moved'.ascend
    (λ uid. (
      moved_there uids uids' before before' step step' same one moved moved' uid,
      moved_there uids' uids before' before step' step (same_back before before' same) (same_back step step' one) moved' moved uid,
    ))
