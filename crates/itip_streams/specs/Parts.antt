-- What is read from a reader line by line, or a number of octets at a time (our own form).
use Rattle.std.specs.Prelude.{◌≡◌, ◌≢◌, ◌<◌, ◌≤◌, ◌⊎◌, ℕ, List, [], ◌∷◌, ◌++◌, length, Bool, Option, MatchOption, MatchBool}
use Rattle.std.specs.List.{All}
use Rattle.std.specs.Io.KnownBytes.{Consumes, IsAtEnd}

-- octets without LF
abbrev pub HasNoLf : List ℕ → Type 0
HasNoLf = All (λ b. b ≢ 10)

-- the octets of one line: up to the first LF
pub record IsLine (octets : List ℕ) : Type 0 where
  pub said : List ℕ
  pub plain : HasNoLf said
  pub ended : octets ≡ said ++ 10 ∷ []

-- octets that end with the first LF, or at the end of what is read
abbrev pub EndsLine : List ℕ → Option (List ℕ) → Type 0
EndsLine octets left = IsLine octets ⊎ (HasNoLf octets × IsAtEnd left)

-- A line was read, or what is left if no LF follows.
pub record ReadsLine (old new : Option (List ℕ)) (line : List ℕ) : Type 0 where
  pub consumed : Consumes old new line
  pub is_line : EndsLine line new

-- What was left of a line was read; before that, this octet was the last that was read.
pub record PassesLine (last : ℕ) (old new : Option (List ℕ)) : Type 0 where
  pub rest : List ℕ
  pub consumed : Consumes old new rest
  pub is_line : EndsLine (last ∷ rest) new

-- One octet was read, or none at the end.
abbrev pub ReadsOctet : Option (List ℕ) → Option (List ℕ) → Option ℕ → Type 0
ReadsOctet old new found = MatchOption found (Consumes old new [] × IsAtEnd new) (λ octet. Consumes old new (octet ∷ []))

-- the line, or nothing if it has more octets than the limit
abbrev pub HoldsWithin : ℕ → List ℕ → Option (List ℕ) → Type 0
HoldsWithin limit line found = MatchOption found (limit < length line) (λ held. (held ≡ line) × (length line ≤ limit))

-- A line was read; it is returned if it is within the limit.
pub record ReadsWithin (limit : ℕ) (old new : Option (List ℕ)) (found : Option (List ℕ)) : Type 0 where
  pub line : List ℕ
  pub reads : ReadsLine old new line
  pub held : HoldsWithin limit line found

-- `count` octets were read, or all that were left if those are fewer.
pub record ReadsOctets (count : ℕ) (old new : Option (List ℕ)) (found : Option (List ℕ)) : Type 0 where
  pub octets : List ℕ
  pub consumed : Consumes old new octets
  pub are : MatchOption found ((length octets < count) × IsAtEnd new) (λ held. (held ≡ octets) × (length octets ≡ count))

-- The same for octets that are not held, and whether there were as many.
pub record PassesOctets (count : ℕ) (old new : Option (List ℕ)) (all : Bool) : Type 0 where
  pub octets : List ℕ
  pub consumed : Consumes old new octets
  pub are : MatchBool all (length octets ≡ count) ((length octets < count) × IsAtEnd new)
