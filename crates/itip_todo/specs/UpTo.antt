-- Lines that are written as far as a limit of octets allows (our own form).
use Rattle.std.specs.Prelude.{◌≡◌, ◌⊎◌, ◌<◌, ◌≤◌, ℕ, List, [], ◌∷◌, ◌++◌, length}
use Rattle.itip_todo.specs.Written.{Content, content_octets, contents_octets}

-- each line in turn is appended to what is there; if that already has more octets than the limit, it may be left out
abbrev pub AppendsEach : ℕ → List Content → List ℕ → List ℕ → Type 0
AppendsEach limit [] old new = new ≡ old
AppendsEach limit (line ∷ lines) old new =
    AppendsEach limit lines (old ++ content_octets line) new ⊎ ((limit < length old) × AppendsEach limit lines old new)

-- Lines are appended to what was there, in their order. If the result has no more octets than the limit, all lines are in it; if it
-- has more, it would have more with all lines too.
pub record AppendsUpTo (limit : ℕ) (contents : List Content) (old new : List ℕ) : Type 0 where
  pub lines : AppendsEach limit contents old new
  pub grows : length old ≤ length new
  pub whole : length new ≤ limit → new ≡ old ++ contents_octets contents
  pub over : limit < length new → limit < length (old ++ contents_octets contents)
