-- A window of days (our own rule).
use Rattle.std.specs.Prelude.{ℤ, pos, ◌+ℤ◌, ◌≤ℤ◌, ◌<ℤ◌, Option, Some, None}

-- at least one day, and at most 3,660
pub record IsWindow (from to : ℤ) : Type 0 where
  pub some : from <ℤ to
  pub few : to ≤ℤ (from +ℤ pos 3660)

-- a day of the window; what has no day is in every window
abbrev pub IsInWindow : ℤ → ℤ → Option ℤ → Type 0
IsInWindow from to None = Unit {0}
IsInWindow from to (Some day) = (from ≤ℤ day) × (day <ℤ to)
