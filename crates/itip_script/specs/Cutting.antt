-- That the physical lines of some bytes are a cutting of them, and the only one (our own form).
use Rattle.std.specs.Prelude.{◌≡◌, ◌≢◌, ◌<◌, ◌⊎◌, ◌++◌, ℕ, List, [], ◌∷◌, length}
use Rattle.std.specs.List.{AllByRecursion, concat}

-- bytes without an LF
abbrev pub HasNoFeed : List ℕ → Type 0
HasNoFeed bytes = AllByRecursion (λ b. b ≢ 10) bytes

-- bytes without an LF, and one LF
pub record IsEnded (line : List ℕ) : Type 0 where
  pub text : List ℕ
  pub plain : HasNoFeed text
  pub whole : line ≡ text ++ 10 ∷ []

-- some bytes, and no LF
pub record IsUnended (line : List ℕ) : Type 0 where
  pub some : 0 < length line
  pub plain : HasNoFeed line

-- Each line ends with its only LF, which the last may lack.
abbrev pub AreLines : List (List ℕ) → Type 0
AreLines [] = Unit {0}
AreLines (line ∷ []) = IsEnded line ⊎ IsUnended line
AreLines (line ∷ next ∷ lines) = IsEnded line × AreLines (next ∷ lines)

abbrev pub IsCutting : List ℕ → List (List ℕ) → Type 0
IsCutting bytes lines = AreLines lines × (concat lines ≡ bytes)
