-- Reports over rows as records (our own form). Their texts are those of the reports as lines.
use Rattle.std.specs.Prelude.{ℕ, List, ◌++◌, codes, map, option_to_list}
use Rattle.std.specs.Fmt.{decimal}
use Rattle.std.specs.List.{flat_map}
use Rattle.std.specs.Option.{option_map}
use Rattle.itip_view.specs.declared.row.Row.{Row}
use Rattle.itip_report.specs.Load.{firsts, keys_in, rows_with}
use Rattle.itip_report.specs.Progress.{line_with}
use Rattle.itip_report.specs.declared.records.AttendeeLoad.{AttendeeLoad}

-- how many rows show an attendee
abbrev pub load_of : List Row → List ℕ → AttendeeLoad
load_of rows key = record { attendee = key; rows = rows_with key rows }

-- the attendees that rows show, in the order of first appearance, each with the number of rows that show them
abbrev pub load_records : List Row → List AttendeeLoad
load_records rows = map (load_of rows) (firsts (flat_map keys_in rows))

-- the line of a record of load
abbrev pub load_text : AttendeeLoad → List ℕ
load_text load = load.attendee ++ (codes " " ++ decimal load.rows)

-- a row that has a progress, and the progress
pub record RowAt : Type 0 where
  pub row : Row
  pub percent : ℕ

abbrev pub row_at : Row → List RowAt
row_at row = option_to_list (option_map (λ n. record { row = row; percent = n }) row.progress)

-- the rows that have a progress, in their order
abbrev pub progress_records : List Row → List RowAt
progress_records rows = flat_map row_at rows

-- the line of a record of progress
abbrev pub progress_text : RowAt → List ℕ
progress_text at = line_with at.row at.percent
