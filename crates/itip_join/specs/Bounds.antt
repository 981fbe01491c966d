-- Least upper bounds: in an order of knowledge, the least value that tells what two values tell (our own form).
use Rattle.std.specs.Prelude.{◌≡◌, ◌↔◌, List, [], ◌∷◌}
use Rattle.std.specs.List.{Contains}

-- z is above x and y, and below every value that is above both
pub record IsJoinOf {T : Type 0} (le : T → T → Type 0) (x y z : T) : Type 0 where
  pub above_first : le x z
  pub above_second : le y z
  pub least : (bound : T) → le x bound → le y bound → le z bound

-- z is what x becomes when the values are joined in, one after another
abbrev pub IsFoldOfJoins : {T : Type 0} → (T → T → Type 0) → T → List T → T → Type 0
IsFoldOfJoins le x [] z = z ≡ x
IsFoldOfJoins {T} le x (y ∷ ys) z = (m : T) × (IsJoinOf le x y m × IsFoldOfJoins le m ys z)

-- each value that is in one list is in the other too, in whatever order and however often
abbrev pub HaveSameMembers : {T : Type 0} → List T → List T → Type 0
HaveSameMembers {T} xs ys = (x : T) → Contains xs x ↔ Contains ys x

-- The join of entries under a guard s, where `below` is their order under a guard: z is above x and y under s, and below all that is above
-- both under a guard that s is below.
pub record IsJoinUnder {S M : Type 0} (le : S → S → Type 0) (below : S → M → M → Type 0) (s : S) (x y z : M) : Type 0 where
  pub above_first : below s x z
  pub above_second : below s y z
  pub least : (t : S) (bound : M) → le s t → below t x bound → below t y bound → below t z bound
