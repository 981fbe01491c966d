-- What is said if there are too many rows (our own format).
use Rattle.std.specs.Prelude.{ℕ, List, ◌++◌, codes, decimal}

-- which to-do has the most rows of a list or a report that is refused with a number
abbrev pub most_of : List ℕ → ℕ → List ℕ → ℕ → List ℕ
most_of word number uid rows =
    word ++ (codes ": refused " ++ (decimal number ++ (codes ": " ++ (decimal rows ++ (codes " rows of " ++ (uid ++
    codes ", the most of one to-do"))))))
