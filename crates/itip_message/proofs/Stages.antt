-- The stages of reading a message, and what each says of the message.
use Rattle.std.proofs.Common.{◌≡◌, ◌∙◌, sym, ℕ, List, map, Ok, Err}
use Rattle.itip_lines.specs.Reading as lines
use Rattle.itip_lines.specs.declared.error.LineError as line_error
use Rattle.itip_lines.specs.declared.line.NumberedLine.{NumberedLine}
use Rattle.itip_todo.specs.PartsOf.{parts_of}
use Rattle.itip_todo.specs.declared.todo.Todo.{Todo}
use Rattle.itip_message.specs.Refusals.{IfRefused, line_gives, form_gives}
use Rattle.itip_message.specs.Frame.{frame, calendar_lines, todos}
use Rattle.itip_message.specs.Head.{head, head_of}
use Rattle.itip_items.specs.Items.{drafts}
use Rattle.itip_message.specs.Message.{HasHead, AreComponents, FirstRefused, ReadsMessage, RefusesMessage, at_lines, at_frame, at_head}
use Rattle.itip_message.specs.Message.{at_component, at_canonical_form}
use Rattle.itip_items.specs.Given.{GivesItems, FirstOver, IfTooLarge, drafts_each}
use Rattle.itip_items.specs.declared.error.FormError.{FormError}
use Rattle.itip_items.specs.declared.error.FormError.TheVariants as form_error
use Rattle.itip_message.specs.declared.sort.Component.{Component}
use Rattle.itip_message.specs.declared.frame.Placed.{Placed}
use Rattle.itip_items.specs.declared.item.Item.{Item}
use Rattle.itip_items.specs.declared.kind.Method.{Method}
use Rattle.itip_message.specs.declared.error.ReadError.{ReadError}
use Rattle.itip_message.specs.declared.error.ReadError.TheVariants as error

pub lines_refused : (e : line_error.LineError) (bytes : List ℕ) → lines.IfRefused e (lines.Refused bytes) →
    IfRefused (line_gives e) (RefusesMessage bytes)
lines_refused line_error.TheVariants.NoMemory bytes h = tt
lines_refused (line_error.TheVariants.Refused f) bytes h = at_lines f h

pub frame_refused : (e : ReadError) (bytes : List ℕ) (content : List NumberedLine) → lines.Reads bytes content →
    IfRefused e (λ f. frame content ≡ Err f) → IfRefused e (RefusesMessage bytes)
frame_refused error.NoMemory bytes content reads h = tt
frame_refused (error.Refused f) bytes content reads h = at_frame content f reads h

same_head : (placed : List Placed) (calendar : List NumberedLine) (components : List Component) → calendar ≡ calendar_lines placed →
    components ≡ todos placed
    → head placed ≡ head_of calendar components
same_head placed calendar components c t = λ i. head_of (sym c i) (sym t i)

pub head_refused : (e : ReadError) (bytes : List ℕ) (content : List NumberedLine) (placed : List Placed) (calendar : List NumberedLine)
    (components : List Component)
    → lines.Reads bytes content → frame content ≡ Ok placed → calendar ≡ calendar_lines placed → components ≡ todos placed
    → IfRefused e (λ f. head_of calendar components ≡ Err f) → IfRefused e (RefusesMessage bytes)
head_refused error.NoMemory bytes content placed calendar components reads framed c t h = tt
head_refused (error.Refused f) bytes content placed calendar components reads framed c t h =
    at_head content placed f reads framed (same_head placed calendar components c t ∙ h)

pub headed : (bytes : List ℕ) (m : Method) (content : List NumberedLine) (placed : List Placed) (calendar : List NumberedLine)
    (components : List Component)
    → lines.Reads bytes content → frame content ≡ Ok placed → calendar ≡ calendar_lines placed → components ≡ todos placed
    → head_of calendar components ≡ Ok m → HasHead bytes m components
headed bytes m content placed calendar components reads framed c t h = record {
  content = content;
  placed = placed;
  reads = reads;
  framed = framed;
  headed = same_head placed calendar components c t ∙ h;
  components_are = t;
}

pub component_refused : (e : ReadError) (bytes : List ℕ) (m : Method) (components : List Component) → HasHead bytes m components →
    IfRefused e (FirstRefused m 1 components) → IfRefused e (RefusesMessage bytes)
component_refused error.NoMemory bytes m components has h = tt
component_refused (error.Refused f) bytes m components has h = at_component m components f has h

pub over_refused : (e : FormError) (bytes : List ℕ) (m : Method) (components : List Component) (all : List Todo) →
    HasHead bytes m components → AreComponents m components all
    → IfTooLarge e (FirstOver 1 (drafts_each m (map parts_of all) (map parts_of all))) → IfRefused (form_gives e) (RefusesMessage bytes)
over_refused form_error.NoMemory bytes m components all has are h = tt
over_refused (form_error.TooLarge todo) bytes m components all has are h =
    at_canonical_form todo (record { method_is = m; components = components; all = all; begins = has; read = are; over = h })

pub items_given : (items : List Item) (bytes : List ℕ) (m : Method) (components : List Component) (all : List Todo) →
    HasHead bytes m components → AreComponents m components all
    → GivesItems (drafts m (map parts_of all)) items → ReadsMessage bytes items
items_given items bytes m components all has are h =
    record { method_is = m; components = components; all = all; begins = has; read = are; within = h.within; items_are = h.items_are }
