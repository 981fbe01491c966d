-- Which answers count, and what a row shows of an attendee (our own rules; a REPLY names the revision that it answers: RFC 5546 2.1.5).
use Rattle.std.specs.Prelude.{◌≡◌, ◌⊎◌, ◌≤◌, ℕ, List, [], ◌∷◌, Option, Some, None}
use Rattle.itip_moment.specs.declared.moment.Moment.{Moment}
use Rattle.itip_todo.specs.Participation.{partstat_of}
use Rattle.itip_todo.specs.Table.{attendee_key}
use Rattle.itip_todo.specs.declared.attendee.PartStat.{PartStat}
use Rattle.itip_todo.specs.declared.attendee.PartStat.TheVariants.{NeedsAction}
use Rattle.itip_todo.specs.Properties.{Property}
use Rattle.itip_items.specs.declared.item.Item.{Item}
use Rattle.itip_items.specs.declared.key.Key.{Key}
use Rattle.itip_items.specs.declared.key.Key.TheVariants.{Answer}
use Rattle.itip_items.specs.declared.kind.Kind.{Kind}
use Rattle.itip_items.specs.declared.kind.Kind.TheVariants as kind
use Rattle.itip_state.specs.Kept.{IsBest}
use Rattle.itip_view.specs.declared.row.ShownAttendee.{ShownAttendee}

-- the answers of a key, and the least sequence of those that count
pub record Asked : Type 0 where
  pub key : Key
  pub since : ℕ

-- an answer counts: it is the best of its key, and not of an earlier revision
pub record Counts (heard : List Item) (asked : Asked) (answer : Item) : Type 0 where
  pub best : IsBest heard asked.key answer
  pub since : asked.since ≤ answer.own

abbrev pub NoneCounts : List Item → Asked → Type 0
NoneCounts heard asked = (answer : Item) → ¬ Counts heard asked answer

-- the first of these with an answer that counts decides
abbrev pub Decides : List Item → List Asked → Option Item → Type 0
Decides heard [] None = Unit {0}
Decides heard [] (Some answer) = ⊥
Decides heard (asked ∷ rest) None = NoneCounts heard asked × Decides heard rest None
Decides heard (asked ∷ rest) (Some answer) = Counts heard asked answer ⊎ (NoneCounts heard asked × Decides heard rest (Some answer))

-- the key of the answers by the attendee of a line
abbrev pub answer_key : List ℕ → Option Moment → Property → Key
answer_key uid id line = Answer uid id (attendee_key line.value)

-- PARTSTAT of an answer, by the one ATTENDEE line that it keeps
abbrev pub partstat_in : List Property → PartStat
partstat_in [] = NeedsAction
partstat_in (line ∷ lines) = partstat_of line.params

-- what an answer of this kind shows: a removal leaves the attendee out
abbrev pub unless_removed : Kind → ShownAttendee → Option ShownAttendee
unless_removed kind.Remove attendee = None
unless_removed kind.Reply attendee = Some attendee
unless_removed kind.Request attendee = Some attendee
unless_removed kind.Add attendee = Some attendee
unless_removed kind.Cancel attendee = Some attendee
unless_removed kind.Refresh attendee = Some attendee

-- what an ATTENDEE line shows if this answer decides; with none, the line as it is and no percentage
abbrev pub shown_line : Property → Option Item → Option ShownAttendee
shown_line line None = Some (record { address = line.value; partstat = partstat_of line.params; percent = None })
shown_line line (Some answer) =
    unless_removed answer.kind
    (record { address = line.value; partstat = partstat_in answer.todo.attendees; percent = answer.todo.percent })

abbrev pub in_front : Option ShownAttendee → List ShownAttendee → List ShownAttendee
in_front None others = others
in_front (Some attendee) others = attendee ∷ others

-- the attendees that the lines of an item show, in order, if these answers are looked for with each line
abbrev pub AreShown : List Item → (Property → List Asked) → List Property → List ShownAttendee → Type 0
AreShown heard asked_of [] shown = shown ≡ []
AreShown heard asked_of (line ∷ lines) shown =
    (answer : Option Item) × (others : List ShownAttendee) × Decides heard (asked_of line) answer
    × AreShown heard asked_of lines others × (shown ≡ in_front (shown_line line answer) others)
