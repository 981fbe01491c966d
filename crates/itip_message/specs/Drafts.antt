-- Reading a draft: a message that is to be sent as a REQUEST, whatever METHOD it has or lacks. DTSTAMP and SEQUENCE of its to-dos are
-- ignored (our own rule).
use Rattle.std.specs.Prelude.{◌≡◌, ℕ, ◌<◌, Bool, not, ◌&&◌, cond, List, [], ◌∷◌, map, codes, Some, None, IsTrue, Result, Ok, Err}
use Rattle.std.specs.List.{filter}
use Rattle.std.specs.Option.{is_some}
use Rattle.itip_lines.specs.Reading as lines
use Rattle.itip_lines.specs.Reading.{line_at}
use Rattle.itip_lines.specs.declared.error.LineRefusal.{LineRefusal}
use Rattle.itip_lines.specs.declared.line.Line.{Line}
use Rattle.itip_lines.specs.declared.line.NumberedLine.{NumberedLine}
use Rattle.itip_moment.specs.Spelling.{IsStampText}
use Rattle.itip_todo.specs.PartsOf.{parts_of}
use Rattle.itip_todo.specs.declared.property_name.PropertyName.TheVariants as name
use Rattle.itip_todo.specs.declared.todo.Todo.{Todo}
use Rattle.itip_items.specs.Given.{GivesItems, FirstOver, drafts_each}
use Rattle.itip_items.specs.Items.{drafts}
use Rattle.itip_items.specs.declared.item.Item.{Item}
use Rattle.itip_items.specs.declared.kind.Method.{Method}
use Rattle.itip_items.specs.declared.kind.Method.TheVariants as method
use Rattle.itip_message.specs.CauseLines.{is_named}
use Rattle.itip_message.specs.Frame.{frame, calendar_lines, todos}
use Rattle.itip_message.specs.Head.{is_version, only_value, odd_line, named, counted}
use Rattle.itip_message.specs.Message.{AreComponents, FirstRefused}
use Rattle.itip_message.specs.Refusals.{of_lines, at_line, large_form}
use Rattle.itip_message.specs.declared.frame.Placed.{Placed}
use Rattle.itip_message.specs.declared.sort.Component.{Component}
use Rattle.itip_message.specs.declared.error.MessageCause.TheVariants as cause
use Rattle.itip_message.specs.declared.error.MessageRefusal.{MessageRefusal}

-- The head of a draft with these properties directly in the VCALENDAR and these to-dos: that of a REQUEST. VERSION is checked first, then
-- the number of to-dos.
abbrev pub draft_head_of : List NumberedLine → List Component → Result Method MessageRefusal
draft_head_of calendar components =
    cond (is_version (only_value (named (codes "VERSION") calendar))) (counted components None (Some method.Request))
    (Err (at_line cause.Version (odd_line (named (codes "VERSION") calendar))))

-- the head of a draft with these placed lines
abbrev pub draft_head : List Placed → Result Method MessageRefusal
draft_head placed = draft_head_of (calendar_lines placed) (todos placed)

-- the bytes are lines, framed and with the head of a draft
pub record HasDraftHead (bytes : List ℕ) (components : List Component) : Type 0 where
  pub content : List NumberedLine
  pub placed : List Placed
  pub reads : lines.Reads bytes content
  pub framed : frame content ≡ Ok placed
  pub headed : draft_head placed ≡ Ok method.Request
  pub components_are : components ≡ todos placed

-- the line is the DTSTAMP of the first second of 1970
pub record IsFirstStamp (line : Line) : Type 0 where
  pub name_is : line.name ≡ codes "DTSTAMP"
  pub params_are : line.params ≡ []
  pub value_is : line.value ≡ codes "19700101T000000Z"

-- a line that says neither when its to-do was sent nor as which revision
abbrev pub is_undated : NumberedLine → Bool
is_undated line = not (is_named name.DtStamp line) && not (is_named name.Sequence line)

-- a to-do of a draft, with this line in place of its DTSTAMP and SEQUENCE lines
abbrev pub dated : Line → Component → Component
dated stamp component =
    record { begins = component.begins; lines = line_at component.begins stamp ∷ filter is_undated component.lines }

-- these to-dos of a draft, each with a DTSTAMP of the first second of 1970 in place of its DTSTAMP and SEQUENCE lines
pub record AreDated (components all : List Component) : Type 0 where
  pub stamp : Line
  pub first_stamp : IsFirstStamp stamp
  pub each : all ≡ map (dated stamp) components

-- the bytes are lines, framed, with the head of a draft, and with these to-dos, which are what a REQUEST needs
pub record HasDraftTodos (bytes : List ℕ) (all : List Todo) : Type 0 where
  pub components : List Component
  pub begins : HasDraftHead bytes components
  pub with_stamps : List Component
  pub dated_are : AreDated components with_stamps
  pub read : AreComponents method.Request with_stamps all

-- The bytes are a draft of these to-dos: those of the items that a REQUEST of all its to-dos gives, one for each item. So their
-- X-DESK-BASE is in canonical form.
pub record ReadsDraft (bytes : List ℕ) (todos : List Todo) : Type 0 where
  pub all : List Todo
  pub begins : HasDraftTodos bytes all
  pub items : List Item
  pub gives : GivesItems (drafts method.Request (map parts_of all)) items
  pub todos_are : todos ≡ map (λ (item : Item). item.todo) items

-- the bytes aren't a draft, for this cause: the first in the order of the stages
pub data RefusesDraft (bytes : List ℕ) : MessageRefusal → Type 0 where
  at_lines : (of : LineRefusal) → lines.Refused bytes of → RefusesDraft bytes (of_lines of)
  at_frame : (content : List NumberedLine) (refusal : MessageRefusal)
      → lines.Reads bytes content → frame content ≡ Err refusal → RefusesDraft bytes refusal
  at_head : (content : List NumberedLine) (placed : List Placed) (refusal : MessageRefusal)
      → lines.Reads bytes content → frame content ≡ Ok placed → draft_head placed ≡ Err refusal → RefusesDraft bytes refusal
  at_component : (components with_stamps : List Component) (refusal : MessageRefusal)
      → HasDraftHead bytes components → AreDated components with_stamps → FirstRefused method.Request 1 with_stamps refusal
      → RefusesDraft bytes refusal
  at_canonical_form : (all : List Todo) (todo : ℕ)
      → HasDraftTodos bytes all → FirstOver 1 (drafts_each method.Request (map parts_of all) (map parts_of all)) todo
      → RefusesDraft bytes (large_form todo)

-- a to-do without a DTSTAMP or a SEQUENCE of its own: it has the first second of 1970 and 0
pub record IsUndated (todo : Todo) : Type 0 where
  pub stamp : IsStampText (codes "19700101T000000Z") todo.stamp
  pub sequence : todo.seq ≡ 0

-- X-DESK-BASE in canonical form, of a to-do with SEQUENCE 0: only a to-do of an instance, or of it and all after it, has it, and it is
-- above 0
pub record HasCanonicalBase (todo : Todo) : Type 0 where
  pub named : (base : ℕ) → todo.base ≡ Some base → IsTrue (is_some todo.rid)
  pub above : (base : ℕ) → todo.base ≡ Some base → 0 < base
