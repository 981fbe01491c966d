-- Which desks of a stream are loaded from files, by the words (our own form).
use Rattle.std.specs.Prelude.{◌≡◌, ◌≢◌, ◌<◌, ◌==◌, ℕ, List, map, length, if◌then◌else◌, Option, Some, None, string_bytes, option_map}
use Rattle.std.specs.List.{All, AllPairs, before_first, after_first}
use Rattle.itip_script.specs.Orders.{number_of}
use Rattle.itip_words.specs.declared.streamed.Load.{Load}

-- the desk and the file of `D=FILE`; a file has a name
abbrev pub load_of : List ℕ → Option (ℕ × List ℕ)
load_of text =
    if length (after_first (λ b. b == 61) text) == 0 then None
    else option_map (λ desk. (desk, after_first (λ b. b == 61) text)) (number_of (before_first (λ b. b == 61) text))

abbrev pub names_of : List Load → List (ℕ × List ℕ)
names_of loads = map (λ (load : Load). (load.desk, string_bytes load.file)) loads

-- A text names a desk below this number and its file, and these loads are of other desks.
pub record IsNextLoad (text : List ℕ) (desks : ℕ) (before : List Load) (load : ℕ × List ℕ) : Type 0 where
  pub named : load_of text ≡ Some load
  pub there : load.0 < desks
  pub once : All (λ (other : Load). other.desk ≢ load.0) before

-- Each names a desk below this number, and no two name the same.
pub record AreLoads (desks : ℕ) (loads : List (ℕ × List ℕ)) : Type 0 where
  pub there : All (λ (load : ℕ × List ℕ). load.0 < desks) loads
  pub once : AllPairs (λ (a b : ℕ × List ℕ). a.0 ≢ b.0) loads
