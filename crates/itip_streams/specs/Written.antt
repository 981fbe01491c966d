-- What a writer holds after some of an output has been written (our own form).
use Rattle.std.specs.Prelude.{◌≡◌, ℕ, Bool, List, ◌++◌, Option}
use Rattle.std.specs.Io.KnownBytes.{Appends}

-- Known bytes grow by an output of which `Is` holds, with `said` as what is said of that output.
pub record WritesOutput (Is : List ℕ → Bool → Type 0) (old new : Option (List ℕ)) (said : Bool) : Type 0 where
  pub output : List ℕ
  pub is_output : Is output said
  pub appended : Appends old new output

-- Known bytes grow by a prefix of the output.
pub record AppendsFront (old new : Option (List ℕ)) (output : List ℕ) : Type 0 where
  pub front : List ℕ
  pub rest : List ℕ
  pub whole : output ≡ front ++ rest
  pub appended : Appends old new front

-- Known bytes grow by what is written of the kept bytes, of which a rest is left.
pub record MovesOut (old new : Option (List ℕ)) (kept rest : List ℕ) : Type 0 where
  pub front : List ℕ
  pub whole : kept ≡ front ++ rest
  pub appended : Appends old new front
