-- When copying or appending needs no more memory (our own form).
use Rattle.std.specs.Prelude.{ℕ, ◌+◌, ◌≤◌, List, length, vec_len, vec_capacity}
use Rattle.std.specs.declared.vec.Vec.{Vec}

-- the maximum length of a text that is stored inline, in octets
abbrev pub in_place_limit : ℕ
in_place_limit = 32

-- a text is stored inline, and takes no memory of its own
abbrev pub StandsInPlace : List ℕ → Type 0
StandsInPlace text = length text ≤ in_place_limit

-- a vector has room for these octets after its own
abbrev pub HasRoomFor : {Z : Type 0} → Vec ℕ Z → List ℕ → Type 0
HasRoomFor v more = vec_len v + length more ≤ vec_capacity v

-- a vector has lost no capacity
abbrev pub KeepsRoom : {Z : Type 0} → Vec ℕ Z → Vec ℕ Z → Type 0
KeepsRoom old new = vec_capacity old ≤ vec_capacity new
