-- Desks of histories, and one more step of one of them.
use Rattle.std.proofs.Common.{◌≡◌, ◌≢◌, ℕ, zero, suc, ◌<◌, List, [], ◌∷◌, ◌++◌, length, get_or, refl, sym, ap, subst, ◌∙◌, arith, Option}
use Rattle.std.proofs.Common.{Some, None}
use Rattle.std.specs.Prelude.{slice_get, slice_set}
use Rattle.itip_items.specs.declared.item.Item.{Item}
use Rattle.itip_state.specs.Kept.{HasEachOnce}
use Rattle.itip_state.proofs.Members.{none_in, cons_first, no_pairs}
use Rattle.std.specs.List.{Contains}
use Rattle.itip_desk.specs.Desk.{Shown, IsDeskOf}
use Rattle.itip_desk.specs.HeardSteps.{heard}
use Rattle.itip_desk.proofs.Steps.{nothing_more}
use Rattle.itip_world.specs.Worlds.{History, Histories, CountsKept, entries_shown, IsDeskAfter, AreDesksOf, with_one_more, with_step}
use Rattle.itip_world.specs.Worlds.{history_from, histories_from}

-- a desk that shows each item once has the entries of its history
pub counted : (history : History) (desk : Shown) → IsDeskOf history.steps history.start desk → HasEachOnce desk.kept →
    IsDeskAfter history desk
counted history desk is once = record { is = is; entries = record { kept = desk.kept; once = once; are_kept = is.kept; count_is = refl } }

nothing_heard : (steps : List (List Item)) → heard steps ≡ heard (steps ++ [] ∷ [])
nothing_heard [] = refl
nothing_heard (step ∷ steps) = ap (λ all. step ++ all) (nothing_heard steps)

-- a step without items leaves a desk that of its history
pub after_nothing : (history : History) (desk : Shown) → IsDeskAfter history desk → IsDeskAfter (with_one_more history []) desk
after_nothing history desk after = record {
  is = nothing_more history.steps history.start desk after.is;
  entries = subst (λ (all : List Item). CountsKept all (entries_shown desk)) (nothing_heard history.steps) after.entries;
}

-- one desk heard one more step, and the others are as before
pub record HeardMore (histories : Histories) (desks : List Shown) (desk : ℕ) (step : List Item) (old : Shown)
    (new_desks : List Shown) : Type 0 where
  pub history : History
  pub there : slice_get histories desk ≡ Some history
  pub was : IsDeskOf history.steps history.start old
  pub are : AreDesksOf (with_step histories desk step) new_desks

some_same : {A : Type 0} (a b : A) → Some a ≡ Some b → a ≡ b
some_same a b e = ap (λ (o : Option _). elim o [ None ↦ a | Some x ↦ x ]) e

none_there : {A : Type 0} (a : A) → None ≡ Some a → ⊥
none_there a e = cc

More : List Item → Shown → Shown → Type 0
More step old new = (history : History) → IsDeskAfter history old → IsDeskAfter (with_one_more history step) new

heard_first : (h : History) (hs : Histories) (d : Shown) (ds : List Shown) (step : List Item) (old new : Shown) → IsDeskAfter h d →
    AreDesksOf hs ds → d ≡ old → More step old new
    → HeardMore (h ∷ hs) (d ∷ ds) zero step old (new ∷ ds)
unfolding More
heard_first h hs d ds step old new is are same more =
    let was : IsDeskAfter h old = subst (IsDeskAfter h) same is in
    record { history = h; there = refl; was = was.is; are = (more h was, are) }

heard_later : (h : History) (hs : Histories) (d : Shown) (ds : List Shown) (desk : ℕ) (step : List Item) (old : Shown)
    (new_desks : List Shown) → IsDeskAfter h d → HeardMore hs ds desk step old new_desks
    → HeardMore (h ∷ hs) (d ∷ ds) (suc desk) step old (d ∷ new_desks)
heard_later h hs d ds desk step old new_desks is rest =
    record { history = rest.history; there = rest.there; was = rest.was; are = (is, rest.are) }

heard_more_lem : (desks : List Shown) (histories : Histories) (desk : ℕ) (step : List Item) (old new : Shown) →
    AreDesksOf histories desks → slice_get desks desk ≡ Some old → More step old new →
    HeardMore histories desks desk step old (slice_set desks desk new)
heard_more_lem [] histories desk step old new are at more = absurd (none_there old at)
heard_more_lem (d ∷ ds) [] desk step old new are at more = absurd are
heard_more_lem (d ∷ ds) (h ∷ hs) zero step old new are at more = heard_first h hs d ds step old new are.0 are.1 (some_same d old at) more
heard_more_lem (d ∷ ds) (h ∷ hs) (suc desk) step old new are at more =
    heard_later h hs d ds desk step old (slice_set ds desk new) are.0 (heard_more_lem ds hs desk step old new are.1 at more)

pub heard_more : (histories : Histories) (desks : List Shown) (desk : ℕ) (step : List Item) (old new : Shown) →
    AreDesksOf histories desks → slice_get desks desk ≡ Some old
    → ((history : History) → IsDeskAfter history old → IsDeskAfter (with_one_more history step) new) →
    HeardMore histories desks desk step old (slice_set desks desk new)
unfolding More
heard_more histories desks desk step old new are at more = heard_more_lem desks histories desk step old new are at more

-- a desk in the list
pub desk_there : (desks : List Shown) (desk : ℕ) → desk < length desks → (d : Shown) × (slice_get desks desk ≡ Some d)
desk_there [] desk lt = absurd (omega arith)
desk_there (d ∷ ds) zero lt = (d, refl)
desk_there (d ∷ ds) (suc desk) lt = desk_there ds desk (omega arith)

-- writing what is already there changes nothing
pub set_itself : (desks : List Shown) (desk : ℕ) (d : Shown) → slice_get desks desk ≡ Some d → slice_set desks desk d ≡ desks
set_itself [] desk d at = refl
set_itself (x ∷ xs) zero d at = ap (λ (y : Shown). y ∷ xs) (sym (some_same x d at))
set_itself (x ∷ xs) (suc desk) d at = ap (λ ys. x ∷ ys) (set_itself xs desk d at)

-- writing one leaves the others
pub get_set_other : (desks : List Shown) (desk number : ℕ) (d : Shown) → (number ≡ desk → ⊥) →
    slice_get (slice_set desks desk d) number ≡ slice_get desks number
get_set_other [] desk number d not = refl
get_set_other (x ∷ xs) zero zero d not = absurd (not refl)
get_set_other (x ∷ xs) zero (suc number) d not = refl
get_set_other (x ∷ xs) (suc desk) zero d not = refl
get_set_other (x ∷ xs) (suc desk) (suc number) d not = get_set_other xs desk number d (λ e. not (ap suc e))

none_once : (items : List Item) → ((item : Item) → Contains items item → ⊥) → HasEachOnce items
none_once [] none = no_pairs (λ (a b : Item). a ≢ b)
none_once (item ∷ items) none = absurd (none item (cons_first item items))

-- one more desk that has heard nothing
pub one_more_desk : (n tick : ℕ) (desks : List Shown) (d : Shown) → AreDesksOf (histories_from n tick) desks → IsDeskOf [] tick d →
    AreDesksOf (histories_from (suc n) tick) (desks ++ d ∷ [])
one_more_desk zero tick [] d are is =
    (counted (history_from tick) d is (none_once d.kept (λ item there. none_in item ((is.kept item).0 there).best.is_heard)), tt)
one_more_desk zero tick (x ∷ xs) d are is = absurd are
one_more_desk (suc n) tick [] d are is = absurd are
one_more_desk (suc n) tick (x ∷ xs) d are is = (are.0, one_more_desk n tick xs d are.1 is)

-- what is at an index within the list, as the option that reading it returns
pub slice_get-get_or : (desks : List Shown) (desk : ℕ) (d : Shown) → desk < length desks → slice_get desks desk ≡ Some (get_or desks desk d)
slice_get-get_or [] desk d lt = absurd (omega arith)
slice_get-get_or (x ∷ xs) zero d lt = refl
slice_get-get_or (x ∷ xs) (suc desk) d lt = slice_get-get_or xs desk d (omega arith)

-- the history of an existing desk
pub record HistoryAt (histories : Histories) (desk : ℕ) (shown : Shown) : Type 0 where
  pub history : History
  pub there : slice_get histories desk ≡ Some history
  pub is : IsDeskOf history.steps history.start shown
  pub entries : CountsKept (heard history.steps) (entries_shown shown)

pub history_at : (histories : Histories) (desks : List Shown) (desk : ℕ) (shown : Shown) → AreDesksOf histories desks →
    slice_get desks desk ≡ Some shown → HistoryAt histories desk shown
history_at histories [] desk shown are at = absurd (none_there shown at)
history_at [] (d ∷ ds) desk shown are at = absurd are
history_at (h ∷ hs) (d ∷ ds) zero shown are at =
    let after : IsDeskAfter h shown = subst (IsDeskAfter h) (some_same d shown at) are.0 in
    record { history = h; there = refl; is = after.is; entries = after.entries }
history_at (h ∷ hs) (d ∷ ds) (suc desk) shown are at =
    let rest = history_at hs ds desk shown are.1 at in
    record { history = rest.history; there = rest.there; is = rest.is; entries = rest.entries }

-- a desk at an index, as the option that reading it returns
pub at_index : (desks : List Shown) (desk : ℕ) (shown : Shown) → desk < length desks → ((d : Shown) → shown ≡ get_or desks desk d) →
    slice_get desks desk ≡ Some shown
at_index desks desk shown within is = slice_get-get_or desks desk shown within ∙ ap (λ (s : Shown). Some s) (sym (is shown))
