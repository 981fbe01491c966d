-- How far the rows of a list are (our own format).
use Rattle.std.specs.Prelude.{ℕ, List, ◌++◌, codes, option_to_list}
use Rattle.std.specs.Fmt.{decimal}
use Rattle.std.specs.List.{flat_map}
use Rattle.std.specs.Option.{option_map}
use Rattle.itip_view.specs.ListText.{id_text}
use Rattle.itip_view.specs.declared.row.Row.{Row}

-- UID, identifier and progress of a row that has a progress
abbrev pub line_with : Row → ℕ → List ℕ
line_with row n = row.uid ++ (codes " " ++ (id_text row.id ++ (codes " " ++ decimal n)))

abbrev pub progress_line : Row → List (List ℕ)
progress_line row = option_to_list (option_map (line_with row) row.progress)

-- the lines of the rows that have a progress, in their order
abbrev pub progress_lines : List Row → List (List ℕ)
progress_lines rows = flat_map progress_line rows
