-- What is left of a reader that is dropped at its end, and of one that is opened late.
use Rattle.std.proofs.Common.{◌∙◌, sym, ap, ℕ, List, [], ◌++◌, take, Option, Some, None, Result, Ok, Err}
use Rattle.std.specs.Io.KnownBytes.{Consumes, IsAtEnd, Keeps, ReadConsumes}
use Rattle.std.proofs.KnownBytes.{Keeps-trans}

-- a reader that is at its end has nothing left
pub ended : (old new : Option (List ℕ)) (bytes : List ℕ) → Consumes old new bytes → IsAtEnd new → Consumes old (Some []) bytes
ended None new bytes given end = tt
ended (Some xs) None bytes given end = absurd given
ended (Some xs) (Some ys) bytes given end = given ∙ ap (λ (t : List ℕ). bytes ++ t) end

kept_given : (old mid new : Option (List ℕ)) (bytes : List ℕ) → Keeps old mid → Consumes mid new bytes → Consumes old new bytes
kept_given None mid new bytes kept given = tt
kept_given (Some xs) None new bytes kept given = absurd kept
kept_given (Some xs) (Some ys) None bytes kept given = absurd given
kept_given (Some xs) (Some ys) (Some zs) bytes kept given = sym kept ∙ given

-- a read after a step that keeps what is left
pub kept_read : {E : Type 0} (old mid new : Option (List ℕ)) (result : Result ℕ E) (buf : List ℕ) → Keeps old mid →
    ReadConsumes mid new result buf → ReadConsumes old new result buf
kept_read old mid new (Ok n) buf kept given = (kept_given old mid new (take n buf) kept given.0, given.1)
kept_read old mid new (Err e) buf kept given = Keeps-trans old mid new kept given
