-- The list of a desk with its head (our own format). Each line ends with LF.
use Rattle.std.specs.Prelude.{ℕ, List, [], ◌∷◌, ◌++◌, length, codes}
use Rattle.std.specs.Fmt.{decimal}
use Rattle.itip_view.specs.ListText.{list_text}
use Rattle.itip_view.specs.declared.row.Row.{Row}

-- a line with a word, the number of the desk and the number of rows
abbrev pub head_text : List ℕ → ℕ → ℕ → List ℕ
head_text word desk number = word ++ codes " " ++ decimal desk ++ codes " rows " ++ decimal number ++ 10 ∷ []

-- the text of rows, after a line with a word, the number of the desk and the number of rows
abbrev pub headed_text : List ℕ → ℕ → List Row → List ℕ
headed_text word desk rows = word ++ codes " " ++ decimal desk ++ codes " rows " ++ decimal (length rows) ++ 10 ∷ list_text rows

abbrev pub listed_text : ℕ → List Row → List ℕ
listed_text desk rows = headed_text (codes "list") desk rows

-- the same for the rows that show an attendee
abbrev pub listed_for_text : ℕ → List Row → List ℕ
listed_for_text desk rows = headed_text (codes "mine") desk rows
