-- What `run --stream` does (docs/USING.md; our own rule).
use Rattle.std.specs.Prelude.{◌≡◌, ◌⊎◌, ◌<◌, ℕ, ◌+◌, Bool, List, [], ◌∷◌, length, Option, Some, None}
use Rattle.std.specs.List.{Contains}
use Rattle.itip_desk.specs.Desk.{Shown, IsDeskOf}
use Rattle.itip_desk.specs.DeskFile.{IsTold, TellsDesk, RefusesFile}
use Rattle.itip_streams.specs.declared.fault.StreamFault.TheVariants.{Memory}
use Rattle.itip_words.specs.Streams.{names_of}
use Rattle.itip_words.specs.declared.streamed.Streamed.{Streamed}
use Rattle.itip_world.specs.Serving.{IsStream, IsStreamFront}
use Rattle.itip_app.specs.declared.stream.LoadFault.{LoadFault}
use Rattle.itip_app.specs.declared.stream.LoadFault.TheVariants as load
use Rattle.itip_app.specs.declared.stream.Unserved.{Unserved}
use Rattle.itip_app.specs.declared.stream.Unserved.TheVariants as unserved

-- `holds` relates a file's name to the bytes that reading it may give, or to None if it can't be read.

-- The desk of this number begins as the file that is named for it tells; if none is named, it has heard nothing, and its tick is 0.
-- Either way a file can tell it completely.
pub data Begins (holds : List ℕ → Option (List ℕ) → Type 0) (loads : List (ℕ × List ℕ)) (number : ℕ) (desk : Shown) : Type 0 where
  of_file : (file octets : List ℕ) → Contains loads (number, file) → holds file (Some octets) → TellsDesk octets desk
      → Begins holds loads number desk
  of_nothing : ((file : List ℕ) → Contains loads (number, file) → ⊥) → IsDeskOf [] 0 desk → IsTold desk
      → Begins holds loads number desk

-- These desks, numbered from this number on, begin this way.
abbrev pub AreBegun : (List ℕ → Option (List ℕ) → Type 0) → List (ℕ × List ℕ) → ℕ → List Shown → Type 0
AreBegun holds loads number [] = Unit {0}
AreBegun holds loads number (desk ∷ desks) = Begins holds loads number desk × AreBegun holds loads (number + 1) desks

-- Why a desk can't be loaded from a file. If an allocation failed, nothing is known of the file.
abbrev pub IsLoadFault : (List ℕ → Option (List ℕ) → Type 0) → List ℕ → LoadFault → Type 0
IsLoadFault holds file load.Read = holds file None
IsLoadFault holds file (load.Refused refusal) = (octets : List ℕ) × holds file (Some octets) × RefusesFile octets refusal
IsLoadFault holds file load.NoMemory = Unit {0}

-- The desk of this number can't be loaded from its file, or an allocation failed.
abbrev pub IsUnbegun : (List ℕ → Option (List ℕ) → Type 0) → List (ℕ × List ℕ) → ℕ → Unserved → Type 0
IsUnbegun holds loads number (unserved.Load file fault) = Contains loads (number, file.now) × IsLoadFault holds file.now fault
IsUnbegun holds loads number (unserved.Stream fault) = fault ≡ Memory

-- All desks before one begin, and that one doesn't: it is the first that doesn't.
pub record BeginsUpTo (holds : List ℕ → Option (List ℕ) → Type 0) (streamed : Streamed) (why : Unserved) : Type 0 where
  pub desks : List Shown
  pub few : length desks < streamed.scripted.desks
  pub are : AreBegun holds (names_of streamed.loads.items) 0 desks
  pub next : IsUnbegun holds (names_of streamed.loads.items) (length desks) why

-- As many desks begin as are asked for.
pub record BeginsAll (holds : List ℕ → Option (List ℕ) → Type 0) (streamed : Streamed) (desks : List Shown) : Type 0 where
  pub count : length desks ≡ streamed.scripted.desks
  pub are : AreBegun holds (names_of streamed.loads.items) 0 desks

-- The desks that are asked for serve a stream to its end, in the window that is asked for.
pub record ServesStream (holds : List ℕ → Option (List ℕ) → Type 0) (streamed : Streamed) (input left output written : Option (List ℕ))
    (refusal : Bool) : Type 0 where
  pub desks : List Shown
  pub begun : BeginsAll holds streamed desks
  pub served : IsStream streamed.scripted.window desks input left output written refusal

-- The desks that are asked for serve a stream up to a fault.
pub record ServesStreamFront (holds : List ℕ → Option (List ℕ) → Type 0) (streamed : Streamed)
    (input left output written : Option (List ℕ)) : Type 0
  where
    pub desks : List Shown
    pub begun : BeginsAll holds streamed desks
    pub served : IsStreamFront streamed.scripted.window desks input left output written

-- nothing was read and nothing written
abbrev pub AreUntouched : Option (List ℕ) → Option (List ℕ) → Option (List ℕ) → Option (List ℕ) → Type 0
AreUntouched input left output written = (left ≡ input) × (written ≡ output)

-- A desk can't be loaded from its file, and nothing was read or written; or there was a fault.
abbrev pub IsUnserved : (List ℕ → Option (List ℕ) → Type 0) → Streamed → Option (List ℕ) → Option (List ℕ) →
    Option (List ℕ) → Option (List ℕ) → Unserved → Type 0
IsUnserved holds streamed input left output written (unserved.Load file fault) =
    AreUntouched input left output written × BeginsUpTo holds streamed (unserved.Load file fault)
IsUnserved holds streamed input left output written (unserved.Stream fault) =
    (AreUntouched input left output written × (fault ≡ Memory)) ⊎ ServesStreamFront holds streamed input left output written
