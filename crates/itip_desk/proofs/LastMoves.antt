-- The last move of each UID in a list of moves.
use Rattle.std.proofs.Common.{◌≡◌, ◌∙◌, sym, ap, refl, subst, ℕ, ◌<◌, ◌≤◌, ◌==◌, ◌||◌, Bool, true, false, List, []}
use Rattle.std.proofs.Common.{◌∷◌, ◌++◌, append_assoc, append-nil, Option, Some, None, inl, inr, arith}
use Rattle.std.specs.Prelude.{cond, is_some}
use Rattle.std.specs.List.{Contains, All, list_any}
use Rattle.std.specs.Ordering.{is_eq}
use Rattle.std.proofs.lemmas.Bool.{eq-eqb, eqb-true}
use Rattle.std.proofs.lemmas.Cmp.{nat_list_cmp_total}
use Rattle.std.proofs.lemmas.List.Elements.{All-contains}
use Rattle.std.proofs.lemmas.Map.Lookups.{exact_bytes}
use Rattle.itip_state.proofs.Lookups.{one_key, itself}
use Rattle.itip_state.proofs.Members.{by_bool, none_in, cons_cases, cons_first, cons_later}
use Rattle.itip_desk.specs.FileReading.{ReachTick}
use Rattle.itip_desk.specs.MovedSince.{tick_at, AreTicks, AreMovesTo, CarriesLast, last_move}
use Rattle.itip_desk.proofs.Ticking.{Carried, uid_cmp}

one_uid : (q u : List ℕ) → is_eq (uid_cmp q u) ≡ true → q ≡ u
one_uid q u = one_key nat_list_cmp_total exact_bytes q u

own_uid : (u : List ℕ) → is_eq (uid_cmp u u) ≡ true
own_uid u = itself nat_list_cmp_total exact_bytes u

some_same : (t u : ℕ) → Some t ≡ Some u → t ≡ u
some_same t u e = cc

none_some : (t : ℕ) → None ≡ Some t → ⊥
none_some t e = cc

-- one more move is the last of its UID
pub last_more : (moves : Carried) (u : List ℕ) (tick : ℕ) (uid : List ℕ) →
    last_move (moves ++ (u, tick) ∷ []) uid ≡ cond (is_eq (uid_cmp u uid)) (Some tick) (last_move moves uid)
last_more [] u tick uid = refl
last_more (move ∷ moves) u tick uid =
    ap (λ (o : Option ℕ). cond (is_some o) o (cond (is_eq (uid_cmp move.0 uid)) (Some move.1) None)) (last_more moves u tick uid)
    ∙ elim (is_eq (uid_cmp u uid)) as (λ b. cond (is_some (cond b (Some tick) (last_move moves uid)))
    (cond b (Some tick) (last_move moves uid)) (cond (is_eq (uid_cmp move.0 uid)) (Some move.1) None) ≡ cond b (Some tick)
    (last_move (move ∷ moves) uid)) [ true ↦ refl | false ↦ refl ]

-- the last move is one of the moves
pub last_in : (moves : Carried) (uid : List ℕ) (tick : ℕ) → last_move moves uid ≡ Some tick → (u : List ℕ) × Contains moves (u, tick) ×
    (u ≡ uid)
last_in [] uid tick e = absurd (none_some tick e)
last_in (move ∷ moves) uid tick e = behind (last_move moves uid) refl (λ t is. last_in moves uid t is) e
  where
    behind : (o : Option ℕ) → last_move moves uid ≡ o →
        ((t : ℕ) → last_move moves uid ≡ Some t → (u : List ℕ) × Contains moves (u, t) × (u ≡ uid)) →
        cond (is_some o) o (cond (is_eq (uid_cmp move.0 uid)) (Some move.1) None) ≡ Some tick →
        (u : List ℕ) × Contains (move ∷ moves) (u, tick) × (u ≡ uid)
    behind (Some t) is before same =
        let found = before tick (is ∙ same) in
        (found.0, cons_later move moves (found.0, tick) found.1, found.2)
    behind None is before same = by_bool (is_eq (uid_cmp move.0 uid)) ((u : List ℕ) × Contains (move ∷ moves) (u, tick) × (u ≡ uid))
        (λ one.
        let ticks : move.1 ≡ tick = some_same move.1 tick (sym (ap (λ (b : Bool). cond b (Some move.1) None) one) ∙ same) in
        (move.0, subst (λ (t : ℕ). Contains (move ∷ moves) (move.0, t)) ticks (cons_first move moves), one_uid move.0 uid one))
        (λ other. absurd (none_some tick (sym (ap (λ (b : Bool). cond b (Some move.1) None) other) ∙ same)))

-- and there is one if a move is of the UID
pub last_there : (moves : Carried) (uid : List ℕ) (tick : ℕ) → Contains moves (uid, tick) → (t : ℕ) × (last_move moves uid ≡ Some t)
last_there [] uid tick h = absurd (none_in (uid, tick) h)
last_there (move ∷ moves) uid tick h = behind (last_move moves uid) refl (λ later. last_there moves uid tick later)
  where
    behind : (o : Option ℕ) → last_move moves uid ≡ o → (Contains moves (uid, tick) → (t : ℕ) × (last_move moves uid ≡ Some t)) →
        (t : ℕ) × (last_move (move ∷ moves) uid ≡ Some t)
    behind (Some t) is before =
        (t, ap (λ (o : Option ℕ). cond (is_some o) o (cond (is_eq (uid_cmp move.0 uid)) (Some move.1) None)) is)
    behind None is before = elim (cons_cases move moves (uid, tick) h) [
      | inl same ↦
          let u : move.0 ≡ uid = ap (λ (m : List ℕ × ℕ). m.0) same in (
            move.1,
            ap (λ (o : Option ℕ). cond (is_some o) o (cond (is_eq (uid_cmp move.0 uid)) (Some move.1) None)) is
                ∙ ap (λ (b : Bool). cond b (Some move.1) None) (subst (λ (v : List ℕ). is_eq (uid_cmp move.0 v) ≡ true) u (own_uid move.0)),
          )
      | inr later ↦
          let found = before later in
          absurd (none_some found.0 (sym is ∙ found.1))
    ]

-- ---- what each UID carries when the moves are added one after another

pub none_put : (carried : Carried) → carried ≡ [] → CarriesLast [] carried
none_put carried none uid = ap (λ (es : Carried). tick_at es uid) none

pub one_put : (moves : Carried) (u : List ℕ) (tick : ℕ) (was now : Carried) → CarriesLast moves was →
    ((q : List ℕ) → tick_at now q ≡ cond (is_eq (uid_cmp u q)) (Some tick) (tick_at was q)) → CarriesLast (moves ++ (u, tick) ∷ []) now
one_put moves u tick was now carries put uid =
    put uid ∙ ap (λ (o : Option ℕ). cond (is_eq (uid_cmp u uid)) (Some tick) o) (carries uid) ∙ sym (last_more moves u tick uid)

-- moves at ticks above 0 leave no place that carries nothing
pub last_ticks : (moves carried : Carried) → All (λ (move : List ℕ × ℕ). 0 < move.1) moves → CarriesLast moves carried → AreTicks carried
last_ticks moves carried above carries uid tick there =
    let found = last_in moves uid tick (sym (carries uid) ∙ there) in
    All-contains (λ (move : List ℕ × ℕ). 0 < move.1) moves (found.0, tick) above found.1

-- and none above their last tick
pub last_up_to : (top : ℕ) (moves carried : Carried) → AreMovesTo top moves → CarriesLast moves carried → (uid : List ℕ) (tick : ℕ) →
    tick_at carried uid ≡ Some tick → tick ≤ top
last_up_to top moves carried are carries uid tick there =
    let found = last_in moves uid tick (sym (carries uid) ∙ there) in
    (All-contains (λ (move : List ℕ × ℕ). (0 < move.1) × (move.1 ≤ top)) moves (found.0, tick) are found.1).1

-- Some of these moves were added, and others are left.
pub record PutSoFar (all left carried : Carried) : Type 0 where
  pub done : Carried
  pub whole : all ≡ done ++ left
  pub carries : CarriesLast done carried

pub nothing_put : (all left carried : Carried) → all ≡ left → carried ≡ [] → PutSoFar all left carried
nothing_put all left carried same none = record { done = []; whole = same; carries = none_put carried none }

pub put_more : (all left rest was now : Carried) (u : List ℕ) (tick : ℕ) → PutSoFar all left was → left ≡ (u, tick) ∷ rest →
    ((q : List ℕ) → tick_at now q ≡ cond (is_eq (uid_cmp u q)) (Some tick) (tick_at was q)) → PutSoFar all rest now
put_more all left rest was now u tick so_far cut put = record {
  done = so_far.done ++ (u, tick) ∷ [];
  whole = so_far.whole ∙ ap (λ (ms : Carried). so_far.done ++ ms) cut ∙ sym (append_assoc so_far.done ((u, tick) ∷ []) rest);
  carries = one_put so_far.done u tick was now so_far.carries put;
}

pub all_put : (all left carried : Carried) → PutSoFar all left carried → left ≡ [] → CarriesLast all carried
all_put all left carried so_far none =
    subst (λ (ms : Carried). CarriesLast ms carried)
    (sym (so_far.whole ∙ ap (λ (ms : Carried). so_far.done ++ ms) none ∙ append-nil so_far.done)) so_far.carries

-- ---- a move at a tick

abbrev some_at : ℕ → Carried → Bool
some_at tick moves = list_any (λ (move : List ℕ × ℕ). move.1 == tick) moves

or_true : (b : Bool) → (b || true) ≡ true
or_true true = refl
or_true false = refl

at_some : (tick : ℕ) (moves : Carried) → some_at tick moves ≡ true → (uid : List ℕ) × Contains moves (uid, tick)
at_some tick [] e = let differ : false ≡ true = e in absurd cc
at_some tick (move ∷ moves) e = by_bool (move.1 == tick) ((uid : List ℕ) × Contains (move ∷ moves) (uid, tick))
    (λ same. (
      move.0,
      subst (λ (t : ℕ). Contains (move ∷ moves) (move.0, t)) (eqb-true move.1 tick same) (cons_first move moves),
    ))
    (λ other.
    let found = at_some tick moves (sym (ap (λ (b : Bool). b || some_at tick moves) other) ∙ e) in
    (found.0, cons_later move moves (found.0, tick) found.1))

some_there : (tick : ℕ) (moves : Carried) (uid : List ℕ) → Contains moves (uid, tick) → some_at tick moves ≡ true
some_there tick [] uid h = absurd (none_in (uid, tick) h)
some_there tick (move ∷ moves) uid h = elim (cons_cases move moves (uid, tick) h) [
  | inl same ↦ ap (λ (b : Bool). b || some_at tick moves) (eq-eqb move.1 tick (ap (λ (m : List ℕ × ℕ). m.1) same))
  | inr later ↦ ap (λ (b : Bool). (move.1 == tick) || b) (some_there tick moves uid later) ∙ or_true (move.1 == tick)
]

pub nought_reached : (tick : ℕ) (moves : Carried) → tick ≡ 0 → ReachTick tick moves
nought_reached tick moves none some = absurd (omega (arith, none, some))

pub move_reaches : (tick : ℕ) (moves : Carried) (b : Bool) → b ≡ some_at tick moves → b ≡ true → ReachTick tick moves
move_reaches tick moves b is moved some = at_some tick moves (sym is ∙ moved)

pub reached_moves : (tick : ℕ) (moves : Carried) (b : Bool) → b ≡ some_at tick moves → (tick ≡ 0 → ⊥) → ReachTick tick moves → b ≡ true
reached_moves tick moves b is not reach = let found = reach (omega (arith, not)) in is ∙ some_there tick moves found.0 found.1
