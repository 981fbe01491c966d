-- A to-do that a program makes of content lines as they are in a message (RFC 5545 3.6.2), and the item that a REQUEST of it gives.
use Rattle.std.specs.Prelude.{◌≡◌, ◌≢◌, ℕ, ◌+◌, ◌==◌, Bool, true, false, IsTrue, List, [], ◌∷◌, ◌++◌, length, codes, Some}
use Rattle.std.specs.Prelude.{if◌then◌else◌}
use Rattle.std.specs.List.{flat_map, list_all}
use Rattle.itip_lines.specs.UnfoldedLines.{HasNoLf}
use Rattle.itip_lines.specs.Lawful.{params_text}
use Rattle.itip_lines.specs.Octets.{is_quotable_octet}
use Rattle.itip_lines.specs.Reading as lines
use Rattle.itip_lines.specs.Reading.{line_at, plain_lines}
use Rattle.itip_lines.specs.declared.error.LineCause.TheVariants.{BadLine}
use Rattle.itip_lines.specs.declared.error.LineRefusal.{LineRefusal}
use Rattle.itip_lines.specs.declared.line.Line.{Line}
use Rattle.itip_lines.specs.declared.line.NumberedLine.{NumberedLine}
use Rattle.itip_lines.specs.declared.line.Param.{Param}
use Rattle.itip_moment.specs.Moment.{moment_zone}
use Rattle.itip_moment.specs.Written.{moment_text}
use Rattle.itip_moment.specs.declared.moment.Moment.{Moment}
use Rattle.itip_moment.specs.declared.moment.Moment.TheVariants.{Date, Floating, Utc, Zoned}
use Rattle.itip_todo.specs.PartsOf.{parts_of}
use Rattle.itip_todo.specs.Reading.{ReadsTodo, RefusesTodo}
use Rattle.itip_todo.specs.declared.error.TodoRefusal.{TodoRefusal}
use Rattle.itip_todo.specs.declared.todo.Todo.{Todo}
use Rattle.itip_items.specs.Given.{GivesItems, FirstOver, drafts_each}
use Rattle.itip_items.specs.Items.{drafts}
use Rattle.itip_items.specs.MethodNeeds.{is_property}
use Rattle.itip_items.specs.declared.item.Item.{Item}
use Rattle.itip_items.specs.declared.kind.Method.TheVariants as method
use Rattle.itip_message.specs.Refusals.{at_line, of_todo, large_form}
use Rattle.itip_message.specs.declared.error.MessageCause.TheVariants as cause
use Rattle.itip_message.specs.declared.error.MessageRefusal.{MessageRefusal}

-- the text is this one content line, which neither begins nor ends a component
pub record IsOneProperty (text : List ℕ) (line : Line) : Type 0 where
  pub number : ℕ
  pub reads : lines.Reads text (line_at number line ∷ [])
  pub property : IsTrue (is_property line)

-- the text isn't such a line: a line has a fault, there isn't exactly one, or it begins or ends a component
pub data RefusesText (text : List ℕ) (number : ℕ) : MessageRefusal → Type 0 where
  bad_line : (of : LineRefusal) → lines.Refused text of → RefusesText text number (at_line (cause.Lines of.cause) (Some number))
  not_one : (found : List NumberedLine) → lines.Reads text found → length found ≢ 1
      → RefusesText text number (at_line (cause.Lines BadLine) (Some number))
  of_component : (at : ℕ) (line : Line) → lines.Reads text (line_at at line ∷ []) → is_property line ≡ false
      → RefusesText text number (at_line cause.Nesting (Some number))

-- A value makes no line after a front: it has a line feed, which could pass as a fold; or it has none, and together they aren't a line.
pub data RefusesValue (front value : List ℕ) (number : ℕ) : MessageRefusal → Type 0 where
  broken_value : ¬ HasNoLf value → RefusesValue front value number (at_line (cause.Lines BadLine) (Some number))
  no_line : (refusal : MessageRefusal) → HasNoLf value → RefusesText (front ++ value) number refusal
      → RefusesValue front value number refusal

-- the number of the next line
abbrev pub next_number : List NumberedLine → ℕ
next_number given = length given + 1

-- the text is a line, which is added after those that were given, with the next number
pub record Adds (text : List ℕ) (old new : List NumberedLine) : Type 0 where
  pub line : Line
  pub is : IsOneProperty text line
  pub whole : new ≡ old ++ line_at (next_number old) line ∷ []

-- the lines of a UID, which has no line feed, and of a DTSTAMP, and no others
pub record BeginsWith (uid stamp : List ℕ) (given : List NumberedLine) : Type 0 where
  pub whole : HasNoLf uid
  pub before : List NumberedLine
  pub uid_is : Adds (codes "UID:" ++ uid) [] before
  pub stamp_is : Adds (codes "DTSTAMP:" ++ stamp) before given

-- a UID can't begin a to-do: it makes no first line; a DTSTAMP always makes a second
abbrev pub RefusesBeginning : List ℕ → MessageRefusal → Type 0
RefusesBeginning uid refusal = RefusesValue (codes "UID:") uid 1 refusal

-- the lines aren't a to-do, for this cause at this line
abbrev pub RefusesMade : List NumberedLine → MessageRefusal → Type 0
RefusesMade given refusal = (of : TodoRefusal) × RefusesTodo given of × (refusal ≡ of_todo 1 of)

-- the lines are those of a to-do, and a REQUEST of it alone gives this one item
pub record GivesItem (given : List NumberedLine) (item : Item) : Type 0 where
  pub todo : Todo
  pub reads : ReadsTodo (plain_lines given) todo
  pub gives : GivesItems (drafts method.Request (parts_of todo ∷ [])) (item ∷ [])

-- the lines give no item: they aren't a to-do, or its canonical form is too large
pub data RefusesItem (given : List NumberedLine) : MessageRefusal → Type 0 where
  no_todo : (refusal : MessageRefusal) → RefusesMade given refusal → RefusesItem given refusal
  too_large : (todo : Todo) (number : ℕ) → ReadsTodo (plain_lines given) todo
      → FirstOver 1 (drafts_each method.Request (parts_of todo ∷ []) (parts_of todo ∷ [])) number → RefusesItem given (large_form number)

-- TZID of a moment in a zone; of any other moment the text alone says which day or second it is
abbrev pub zone_params : Moment → List Param
zone_params (Date day) = []
zone_params (Floating at) = []
zone_params (Utc at) = []
zone_params (Zoned zone at) = (record { name = codes "TZID"; values = zone.bytes ∷ [] }) ∷ []

-- the line of a name and a moment
abbrev pub moment_line_text : List ℕ → Moment → List ℕ
moment_line_text name moment = name ++ (params_text (zone_params moment) ++ 58 ∷ moment_text moment)

-- whether the zone of a moment, if it has one, has only octets that a parameter value may have
abbrev pub has_lawful_zone : Moment → Bool
has_lawful_zone moment = list_all is_quotable_octet (moment_zone moment)

-- A moment makes no line after a name: its zone has an octet that no parameter value may have, such as a quote or a line feed, which
-- could pass as a fold; or it has none, and the text isn't a line.
pub data RefusesMoment (name : List ℕ) (moment : Moment) (number : ℕ) : MessageRefusal → Type 0 where
  bad_zone : has_lawful_zone moment ≡ false → RefusesMoment name moment number (at_line (cause.Lines BadLine) (Some number))
  no_moment : (refusal : MessageRefusal) → has_lawful_zone moment ≡ true → RefusesText (moment_line_text name moment) number refusal
      → RefusesMoment name moment number refusal

-- The line of a name and a moment is added after those that were given, with the next number: it has this name, the zone as it is, and
-- the text of the moment.
pub record AddsMoment (name : List ℕ) (moment : Moment) (old new : List NumberedLine) : Type 0 where
  pub line : Line
  pub is : IsOneProperty (moment_line_text name moment) line
  pub name_is : line.name ≡ name
  pub params_are : line.params ≡ zone_params moment
  pub value_is : line.value ≡ moment_text moment
  pub whole : new ≡ old ++ line_at (next_number old) line ∷ []

-- An octet of a text as it is written in a value of type TEXT (RFC 5545 3.3.11): a backslash (92), a semicolon (59) and a comma (44)
-- after a backslash, and a line feed (10) as `\n`.
abbrev pub octet_value : ℕ → List ℕ
octet_value octet =
    if octet == 92 then 92 ∷ (92 ∷ [])
    else (if octet == 59 then 92 ∷ (59 ∷ [])
    else (if octet == 44 then 92 ∷ (44 ∷ [])
    else (if octet == 10 then 92 ∷ (110 ∷ []) else octet ∷ [])))

abbrev pub text_value : List ℕ → List ℕ
text_value text = flat_map octet_value text
