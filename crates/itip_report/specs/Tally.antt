-- The rows that show each attendee, counted one after another (our own form).
use Rattle.std.specs.Prelude.{◌≡◌, ◌+◌, ◌<◌, ◌==◌, ℕ, List, [], ◌++◌, Bool, true, false, Option, Some, None, length, if◌then◌else◌}
use Rattle.std.specs.List.{flat_map, list_any}
use Rattle.std.specs.BTreeMap.{BTreeMap, get}
use Rattle.std.specs.Ordering.{nat_cmp}
use Rattle.std.specs.Cmp.Lexicographic.{slice_cmp}
use Rattle.itip_view.specs.declared.row.Row.{Row}
use Rattle.itip_report.specs.Load.{same_text, keys_in, firsts, rows_with}
use Rattle.itip_report.specs.declared.load.Tallied.{Tallied}
use Rattle.itip_report.specs.declared.load.Tally.{Tally}

abbrev pub one_if : Bool → ℕ
one_if true = 1
one_if false = 0

-- what was counted of an attendee: the rows done that show them, and the row at hand if it has shown them so far; the place of the
-- last of these
pub record IsCounted (done : List Row) (before : List (List ℕ)) (key : List ℕ) (seen : Tallied) : Type 0 where
  pub rows : seen.rows ≡ rows_with key done + one_if (list_any (same_text key) before)
  pub some : 0 < seen.rows
  pub here : list_any (same_text key) before ≡ true → seen.last ≡ length done
  pub earlier : list_any (same_text key) before ≡ false → seen.last < length done

-- the attendees that the rows done and the row at hand have shown so far, in the order of first appearance, each counted
pub record IsTally (done : List Row) (before keys : List (List ℕ)) (counts : BTreeMap (List ℕ) Tallied) : Type 0 where
  pub keys_are : keys ≡ firsts (flat_map keys_in done ++ before)
  pub counted : (key : List ℕ) → list_any (same_text key) keys ≡ true →
      (seen : Tallied) × (get (slice_cmp nat_cmp) counts key ≡ Some seen) × IsCounted done before key seen
  pub only : (key : List ℕ) (seen : Tallied) → get (slice_cmp nat_cmp) counts key ≡ Some seen → list_any (same_text key) keys ≡ true

-- these rows were counted, and no others
pub record AreTallied (done : List Row) (tally : Tally) : Type 0 where
  pub rows_are : tally.rows ≡ length done
  pub counted : IsTally done [] tally.keys.items tally.counts

-- the number of rows counted so far, or none if the row at this place was counted already
abbrev pub rows_before : ℕ → Option Tallied → Option ℕ
rows_before place None = Some 0
rows_before place (Some seen) = if seen.last == place then None else Some seen.rows

abbrev pub rows_of : Option Tallied → ℕ
rows_of None = 0
rows_of (Some seen) = seen.rows
