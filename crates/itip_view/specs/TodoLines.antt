-- The lines of a list that begin with TODO (our own format).
use Rattle.std.specs.Prelude.{◌≢◌, ◌<◌, ◌^◌, ◌+◌, ◌==◌, ◌&&◌, ℕ, nat_eq, Bool, true, if◌then◌else◌, List, [], ◌∷◌, codes, IfSome}
use Rattle.std.specs.List.{AllByRecursion, starts_with}
use Rattle.itip_moment.specs.Shown.{shown_moment}
use Rattle.itip_view.specs.ListText.{id_text}
use Rattle.itip_view.specs.declared.row.Row.{Row}
use Rattle.itip_view.specs.declared.row.ShownAttendee.{ShownAttendee}

abbrev pub begins_with_todo : List ℕ → Bool
begins_with_todo bytes = starts_with nat_eq bytes (codes "TODO")

-- how many lines begin with TODO; the flag says whether the text starts at the beginning of a line
unfoldable pub todo_lines_from : Bool → List ℕ → ℕ
todo_lines_from at_start [] = 0
todo_lines_from at_start (b ∷ bytes) =
    (if at_start && begins_with_todo (b ∷ bytes) then 1 else 0) + todo_lines_from (b == 10) bytes

-- how many lines of a text begin with TODO
abbrev pub todo_lines : List ℕ → ℕ
todo_lines text = todo_lines_from true text

-- the text has no line break; no text that a message brings has one
abbrev pub IsUnbroken : List ℕ → Type 0
IsUnbroken text = AllByRecursion (λ b. b ≢ 10) text

abbrev pub IsSmallNumber : ℕ → Type 0
IsSmallNumber n = n < 2 ^ 64

pub record HasUnbrokenAttendee (attendee : ShownAttendee) : Type 0 where
  pub address : IsUnbroken attendee.address
  pub percent : IfSome attendee.percent IsSmallNumber

-- no text of the row has a line break, and its numbers fit into 64 bits, as every `u8` and `u32` does
pub record HasUnbrokenTexts (row : Row) : Type 0 where
  pub uid : IsUnbroken row.uid
  pub id : IsUnbroken (id_text row.id)
  pub seq : IsSmallNumber row.seq
  pub percent : IfSome row.percent IsSmallNumber
  pub priority : IfSome row.priority IsSmallNumber
  pub start : IfSome row.start (λ moment. IsUnbroken (shown_moment moment))
  pub due : IfSome row.due (λ moment. IsUnbroken (shown_moment moment))
  pub summary : IfSome row.summary IsUnbroken
  pub attendees : AllByRecursion HasUnbrokenAttendee row.attendees
  pub progress : IfSome row.progress IsSmallNumber
