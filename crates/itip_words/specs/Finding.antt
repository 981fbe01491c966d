-- What comes of a search (our own form).
use Rattle.std.specs.Prelude.{Option, MatchOption}

-- no value satisfies P
abbrev pub Never : {T : Type 0} → (T → Type 0) → Type 0
Never {T} P = (one : T) → P one → ⊥

-- what is found satisfies P; if nothing is found, no value does
abbrev pub Finds : {T : Type 0} → (T → Type 0) → Option T → Type 0
Finds P found = MatchOption found (Never P) P
