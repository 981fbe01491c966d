-- What words for addresses and sources stand for (our own rule).
use Rattle.std.specs.Prelude.{ℕ, Bool, ◌==◌, nat_eq, if◌then◌else◌, List, ◌++◌, codes, count_by}
use Rattle.std.specs.List.{list_any}
use Rattle.std.specs.Cmp.Lexicographic.{pointwise}

-- An address without a colon gets `mailto:` before it.
abbrev pub address_of : List ℕ → List ℕ
address_of word = if list_any (λ c. c == 58) word then word else codes "mailto:" ++ word

-- the word for standard input
abbrev pub is_input : List ℕ → Bool
is_input word = pointwise nat_eq word (codes "-")

-- how often standard input is named
abbrev pub inputs : List (List ℕ) → ℕ
inputs words = count_by is_input words
