-- The UIDs that moved, each with the tick that it carries (our own form).
use Rattle.std.specs.Prelude.{◌≡◌, ◌<◌, ◌≤◌, ◌⊎◌, ℕ, List, [], ◌∷◌, Bool, true, cond, Option, Some, None, is_some, refl}
use Rattle.std.specs.Coded.{Coded, code_by, coded×, coded_ℕ, coded_list}
use Rattle.std.specs.List.{All, Contains, list_any}
use Rattle.std.specs.List.Sorted.{IsStrictlySortedBy, IsNonDecreasingBy}
use Rattle.std.specs.Map.{keys_of}
use Rattle.std.specs.Ordering.{nat_cmp, is_eq}
use Rattle.std.specs.Cmp.Lexicographic.{slice_cmp}
use Rattle.itip_join.specs.KeyByKey.{value_at}

pub record Moved : Type 0 where
  -- what each UID carries, by UID; 0 if it only has a place, and carries nothing yet
  pub carried : List (List ℕ × ℕ)
  -- each tick that a UID carries, by tick; there may be other moves too
  pub order : List (ℕ × List ℕ)

abbrev pub moved_code : Coded Moved
moved_code = code_by (List (List ℕ × ℕ) × List (ℕ × List ℕ)) (coded×
    (coded_list (coded× (coded_list coded_ℕ) coded_ℕ)) (coded_list (coded× coded_ℕ (coded_list coded_ℕ))))
    (λ m. (m.carried, m.order)) (λ p. record { carried = p.0; order = p.1 }) (λ _. refl)

-- whether a UID is among these
abbrev pub is_listed : List (List ℕ) → List ℕ → Bool
is_listed uids uid = list_any (λ u. is_eq (slice_cmp nat_cmp u uid)) uids

-- what a UID carries, if it has a place
abbrev pub tick_at : List (List ℕ × ℕ) → List ℕ → Option ℕ
tick_at carried uid = value_at (slice_cmp nat_cmp) carried uid

-- the tick of a move
abbrev pub move_tick : ℕ × List ℕ → ℕ
move_tick move = move.0

-- each UID that carries a tick is in `order` under it
abbrev pub AreInOrder : List (List ℕ × ℕ) → List (ℕ × List ℕ) → Type 0
AreInOrder carried order = (uid : List ℕ) (tick : ℕ) → tick_at carried uid ≡ Some tick → 0 < tick → Contains order (tick, uid)

-- each UID is there once, and its move is among the moves, which are by tick
pub record AreMoves (carried : List (List ℕ × ℕ)) (order : List (ℕ × List ℕ)) : Type 0 where
  pub sorted : IsStrictlySortedBy (slice_cmp nat_cmp) (keys_of carried)
  pub in_order : AreInOrder carried order
  pub by_tick : IsNonDecreasingBy move_tick order

-- there are no places that carry nothing
abbrev pub AreTicks : List (List ℕ × ℕ) → Type 0
AreTicks carried = (uid : List ℕ) (tick : ℕ) → tick_at carried uid ≡ Some tick → 0 < tick

-- each UID that is here carries an earlier tick than this, or none yet
abbrev pub AreBefore : ℕ → List (List ℕ × ℕ) → Type 0
AreBefore next carried = (uid : List ℕ) (tick : ℕ) → tick_at carried uid ≡ Some tick → tick < next

-- no UID carries a tick above this one
abbrev pub AreUpTo : ℕ → List (List ℕ × ℕ) → Type 0
AreUpTo top carried = (uid : List ℕ) (tick : ℕ) → tick_at carried uid ≡ Some tick → tick ≤ top

-- each UID carries what it did before, but some of these UIDs that had no place may have one now
abbrev pub HavePlaces : List (List ℕ) → List (List ℕ × ℕ) → List (List ℕ × ℕ) → Type 0
HavePlaces uids was now = (uid : List ℕ) → (tick_at now uid ≡ tick_at was uid) ⊎
    ((is_listed uids uid ≡ true) × (tick_at was uid ≡ None) × (tick_at now uid ≡ Some 0))

-- each of these UIDs has a place, and is in `order` under the tick that it is to carry
pub record AreReady (uids : List (List ℕ)) (tick : ℕ) (moved : Moved) : Type 0 where
  pub placed : (uid : List ℕ) → is_listed uids uid ≡ true → is_some (tick_at moved.carried uid) ≡ true
  pub in_order : (uid : List ℕ) → is_listed uids uid ≡ true → Contains moved.order (tick, uid)

-- the tick of the last of these moves that is of this UID
abbrev pub last_move : List (List ℕ × ℕ) → List ℕ → Option ℕ
last_move [] uid = None
last_move (move ∷ moves) uid = cond (is_some (last_move moves uid)) (last_move moves uid)
    (cond (is_eq (slice_cmp nat_cmp move.0 uid)) (Some move.1) None)

-- each UID carries the tick of the last of these moves that is of it, and other UIDs are not there
abbrev pub CarriesLast : List (List ℕ × ℕ) → List (List ℕ × ℕ) → Type 0
CarriesLast moves carried = (uid : List ℕ) → tick_at carried uid ≡ last_move moves uid

-- moves at ticks from 1 up to this one
abbrev pub AreMovesTo : ℕ → List (List ℕ × ℕ) → Type 0
AreMovesTo top moves = All (λ (move : List ℕ × ℕ). (0 < move.1) × (move.1 ≤ top)) moves
