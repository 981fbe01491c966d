-- When writing and reading need no more memory (our own form).
use Rattle.std.specs.Prelude.{◌≢◌, ℕ, ◌+◌, ◌≤◌, ℤ, List, [], length, Option, unwrap_or, vec_len, vec_capacity}
use Rattle.std.specs.declared.vec.Vec.{Vec}
use Rattle.itip_moment.specs.Spelling.{IsLocalText}
use Rattle.itip_moment.specs.declared.moment.Moment.{Moment}
use Rattle.itip_moment.specs.declared.moment.Moment.TheVariants.{Date, Floating, Utc, Zoned}

-- a vector has room for these bytes after its own
abbrev pub HasRoomFor : {Z : Type 0} → Vec ℕ Z → List ℕ → Type 0
HasRoomFor v more = vec_len v + length more ≤ vec_capacity v

-- a vector has lost no capacity
abbrev pub KeepsRoom : {Z : Type 0} → Vec ℕ Z → Vec ℕ Z → Type 0
KeepsRoom old new = vec_capacity old ≤ vec_capacity new

-- a local time, beside a TZID that names a zone: the name is the only part of a moment that takes memory
pub record IsZonedText (text : List ℕ) (tzid : Option (List ℕ)) : Type 0 where
  pub day : ℤ
  pub second : ℕ
  pub local : IsLocalText text day second
  pub named : unwrap_or tzid [] ≢ []

-- a moment without the name of a zone
abbrev pub IsInNoZone : Moment → Type 0
IsInNoZone (Date day) = Unit {0}
IsInNoZone (Floating stamp) = Unit {0}
IsInNoZone (Utc stamp) = Unit {0}
IsInNoZone (Zoned zone stamp) = ⊥
