-- Which reads and writes are made, for a reader and a writer of which nothing else is known (our own form).
use Rattle.std.specs.Prelude.{◌≡◌, ◌⊎◌, ◌<◌, ℕ, zero, suc, List, [], length, drop, Option, Some, None}

-- ---- reads

module _ {R : Type 0} (reads : R → Option ℕ → R → List ℕ → Type 0) where
  -- one read returns some bytes
  pub record ReadsMore (old new : R) : Type 0 where
    pub count : ℕ
    pub some : 0 < count
    pub buffer : List ℕ
    pub read : reads old (Some count) new buffer

  -- one read returns this many bytes, or fails
  pub record ReadsOnce (given : Option ℕ) (old new : R) : Type 0 where
    pub buffer : List ℕ
    pub read : reads old given new buffer

  -- this many reads in a row return some bytes each
  abbrev pub ReadsOn : ℕ → R → R → Type 0
  ReadsOn zero old new = old ≡ new
  ReadsOn (suc n) old new = (mid : R) × ReadsOn n old mid × ReadsMore mid new

  -- any number of reads in a row, each of which returns some bytes
  abbrev pub ReadsSome : R → R → Type 0
  ReadsSome old new = (times : ℕ) × ReadsOn times old new

  -- such reads, and then a last one with this result
  pub record ReadsTo (last : Option ℕ) (old new : R) : Type 0 where
    pub times : ℕ
    pub mid : R
    pub before : ReadsOn times old mid
    pub buffer : List ℕ
    pub read : reads mid last new buffer

  -- The last read failed, or none did.
  abbrev pub FailsReading : R → R → Type 0
  FailsReading old new = ReadsTo None old new ⊎ ReadsSome old new

  -- The last read returned no bytes, or each returned some.
  abbrev pub EndsReading : R → R → Type 0
  EndsReading old new = ReadsTo (Some 0) old new ⊎ ReadsSome old new

  -- No read failed.
  pub record ReadsWell (old new : R) : Type 0 where
    pub count : ℕ
    pub ends : ReadsTo (Some count) old new

-- ---- writes

module _ {W : Type 0} (writes : W → List ℕ → Option ℕ → W → Type 0) where
  -- This many writes in a row, each of what is left of the bytes, take some of them each, and leave a rest.
  abbrev pub WritesOn : ℕ → W → List ℕ → W → List ℕ → Type 0
  WritesOn zero old octets new rest = (old ≡ new) × (octets ≡ rest)
  WritesOn (suc n) old octets new rest =
      (mid : W) × (left : List ℕ) × (count : ℕ) × WritesOn n old octets mid left × (0 < count) × writes mid left (Some count) new
      × (rest ≡ drop count left)

  -- any number of such writes in a row, which leave a rest
  abbrev pub WritesSome : W → List ℕ → W → List ℕ → Type 0
  WritesSome old octets new rest = (times : ℕ) × WritesOn times old octets new rest

  -- such writes take all bytes
  abbrev pub WritesAll : W → List ℕ → W → Type 0
  WritesAll old octets new = (times : ℕ) × WritesOn times old octets new []

  -- such writes take all bytes; nothing is said of what comes then
  abbrev pub WritesFirst : W → List ℕ → Type 0
  WritesFirst old octets = (taken : W) × WritesAll old octets taken

  -- Such writes, and then a last one of what is left, which fails or takes no bytes.
  pub record FailsWriting (old : W) (octets : List ℕ) (new : W) : Type 0 where
    pub times : ℕ
    pub mid : W
    pub left : List ℕ
    pub before : WritesOn times old octets mid left
    pub some : 0 < length left
    pub write : writes mid left None new ⊎ writes mid left (Some 0) new
