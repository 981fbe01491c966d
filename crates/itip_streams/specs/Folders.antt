-- Which names in a folder stand for sources, in which order, and what these are called (our own rule).
use Rattle.std.specs.Prelude.{ℕ, ◌-◌, Bool, ◌==◌, nat_eq, List, [], ◌∷◌, ◌++◌, length, drop, map, filter, slice_index, codes, if◌then◌else◌}
use Rattle.std.specs.Prelude.{String, string_bytes, string_cmp, IsPermutation, IsSorted}
use Rattle.std.specs.Char.{to_ascii_lowercase}
use Rattle.std.specs.Cmp.Lexicographic.{pointwise}

-- the last four octets are `.ics`, in any case
abbrev pub ends_in_ics : List ℕ → Bool
ends_in_ics name =
    pointwise nat_eq (map to_ascii_lowercase (drop (length name - 4) name)) (map to_ascii_lowercase (codes ".ics"))

abbrev pub is_ics : {Z : Type 0} → String Z → Bool
is_ics name = ends_in_ics (string_bytes name)

-- The names that end in `.ics`, each as often as it is there, sorted by their bytes.
pub record AreIcsNames {Z : Type 0} (names found : List (String Z)) : Type 0 where
  pub same : IsPermutation (filter is_ics names) found
  pub sorted : IsSorted string_cmp found

-- the folder ends in a slash
abbrev pub slash_ends : List ℕ → Bool
slash_ends folder = slice_index folder (length folder - 1) == 47

-- what comes between a folder and a name in it: a slash, unless the folder ends in one
abbrev pub slash_behind : List ℕ → List ℕ
slash_behind folder = if slash_ends folder then [] else 47 ∷ []

-- the path of a file in a folder
abbrev pub joined : List ℕ → List ℕ → List ℕ
joined folder name = folder ++ slash_behind folder ++ name
