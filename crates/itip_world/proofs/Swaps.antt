-- A step and what is kept of it do the same to a desk.
use Rattle.std.proofs.Common.{ℕ, List, [], ◌∷◌, ◌++◌, ◌↔◌, inl, inr, sym, subst}
use Rattle.itip_items.specs.declared.item.Item.{Item}
use Rattle.itip_state.specs.Kept.{AreKept, IsKept, KeepSame}
use Rattle.itip_state.proofs.Keeping.{covers_itself, covers_kept, kept_of_parts}
use Rattle.itip_desk.specs.Desk.{Shown, IsDeskOf}
use Rattle.itip_desk.specs.HeardSteps.{heard}
use Rattle.itip_desk.specs.Ticks.{TickStep, Ticks, MovedAfter}
use Rattle.itip_desk.proofs.Steps.{heard-append}

-- whatever came before, the same is kept with either step
abbrev pub AreAlike : List Item → List Item → Type 0
AreAlike a b = (before : List Item) (item : Item) → IsKept (before ++ a) item ↔ IsKept (before ++ b) item

pub kept_alike_whole : (batch whole : List Item) → AreKept batch whole → AreAlike batch whole
kept_alike_whole batch whole are before item =
    kept_of_parts before whole before batch (covers_itself before) (covers_kept batch whole are) item

pub alike_back : (a b : List Item) → AreAlike a b → AreAlike b a
alike_back a b alike before item = let two = alike before item in (two.1, two.0)

pub keep_same_swap : (uid : List ℕ) (before a b : List Item) → AreAlike a b → KeepSame uid before (before ++ a) →
    KeepSame uid before (before ++ b)
keep_same_swap uid before a b alike same item about = let two = alike before item in
    (λ k. two.0 ((same item about).0 k), λ k. (same item about).1 (two.1 k))

tick_swap : (before a b : List Item) (tick next : ℕ) → AreAlike a b → TickStep before a tick next → TickStep before b tick next
tick_swap before a b tick next alike (inl ((uid, moves), up)) =
    inl ((uid, λ same. moves (keep_same_swap uid before b a (alike_back a b alike) same)), up)
tick_swap before a b tick next alike (inr (same, stays)) = inr (λ uid. keep_same_swap uid before a b alike (same uid), stays)

ticks_swap : (before : List Item) (tick : ℕ) (steps : List (List Item)) (a b : List Item) (last : ℕ) → AreAlike a b →
    Ticks before tick (steps ++ a ∷ []) last → Ticks before tick (steps ++ b ∷ []) last
ticks_swap before tick [] a b last alike (next, one, rest) = (next, tick_swap before a b tick next alike one, rest)
ticks_swap before tick (step ∷ steps) a b last alike (next, one, rest) =
    (next, one, ticks_swap (before ++ step) next steps a b last alike rest)

moved_swap : (before : List Item) (tick : ℕ) (steps : List (List Item)) (a b : List Item) (since : ℕ) (uid : List ℕ) → AreAlike a b →
    MovedAfter before tick (steps ++ a ∷ []) since uid → MovedAfter before tick (steps ++ b ∷ []) since uid
moved_swap before tick [] a b since uid alike (next, one, inl (moves, above)) =
    (next, tick_swap before a b tick next alike one, inl (λ same. moves (keep_same_swap uid before b a (alike_back a b alike) same), above))
moved_swap before tick [] a b since uid alike (next, one, inr none) = absurd none
moved_swap before tick (step ∷ steps) a b since uid alike (next, one, inl here) = (next, one, inl here)
moved_swap before tick (step ∷ steps) a b since uid alike (next, one, inr later) =
    (next, one, inr (moved_swap (before ++ step) next steps a b since uid alike later))

-- a desk that heard one of them last is one that heard the other
pub desk_swap : (steps : List (List Item)) (start : ℕ) (desk : Shown) (a b : List Item) → AreAlike a b →
    IsDeskOf (steps ++ a ∷ []) start desk → IsDeskOf (steps ++ b ∷ []) start desk
desk_swap steps start desk a b alike is = record {
  kept = subst (λ (all : List Item). AreKept desk.kept all) (sym (heard-append steps b))
      (λ item.
      let two = alike (heard steps) item in
      let here = subst (λ (all : List Item). AreKept desk.kept all) (heard-append steps a) is.kept item in
      (λ h. two.0 (here.0 h), λ k. here.1 (two.1 k)));
  tick = ticks_swap [] start steps a b desk.tick alike is.tick;
  changed = λ since uid. (
    λ c. moved_swap [] start steps a b since uid alike ((is.changed since uid).0 c),
    λ m. (is.changed since uid).1 (moved_swap [] start steps b a since uid (alike_back a b alike) m),
  );
}
