-- How many rows show each attendee (our own format).
use Rattle.std.specs.Prelude.{ℕ, List, [], ◌∷◌, ◌++◌, codes, map, length, Bool, not}
use Rattle.std.specs.Fmt.{decimal}
use Rattle.std.specs.List.{flat_map, filter, list_any}
use Rattle.std.specs.Ordering.{nat_cmp, is_eq}
use Rattle.std.specs.Cmp.Lexicographic.{slice_cmp}
use Rattle.itip_todo.specs.Table.{attendee_key}
use Rattle.itip_view.specs.declared.row.Row.{Row}
use Rattle.itip_view.specs.declared.row.ShownAttendee.{ShownAttendee}

abbrev pub same_text : List ℕ → List ℕ → Bool
same_text a b = is_eq (slice_cmp nat_cmp a b)

-- the keys of the attendees that a row shows
abbrev pub keys_in : Row → List (List ℕ)
keys_in row = map (λ (a : ShownAttendee). attendee_key a.address) row.attendees

-- each text where it first appears
unfoldable pub firsts : List (List ℕ) → List (List ℕ)
firsts [] = []
firsts (text ∷ texts) = text ∷ filter (λ other. not (same_text text other)) (firsts texts)

-- how many rows show an attendee
abbrev pub rows_with : List ℕ → List Row → ℕ
rows_with key rows = length (filter (λ row. list_any (same_text key) (keys_in row)) rows)

abbrev pub load_line : List Row → List ℕ → List ℕ
load_line rows key = key ++ (codes " " ++ decimal (rows_with key rows))

-- the attendees that rows show, in the order of first appearance, each with the number of rows that show them
abbrev pub load_lines : List Row → List (List ℕ)
load_lines rows = map (load_line rows) (firsts (flat_map keys_in rows))
