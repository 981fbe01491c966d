-- The stages of reading a draft, and what each says of the draft.
use Rattle.std.proofs.Common.{◌≡◌, ◌∙◌, sym, ℕ, List, map, Ok, Err}
use Rattle.itip_lines.specs.Reading as lines
use Rattle.itip_lines.specs.declared.error.LineError as line_error
use Rattle.itip_lines.specs.declared.line.NumberedLine.{NumberedLine}
use Rattle.itip_todo.specs.PartsOf.{parts_of}
use Rattle.itip_todo.specs.declared.todo.Todo.{Todo}
use Rattle.itip_items.specs.Given.{FirstOver, IfTooLarge, drafts_each}
use Rattle.itip_items.specs.declared.error.FormError.{FormError}
use Rattle.itip_items.specs.declared.error.FormError.TheVariants as form_error
use Rattle.itip_items.specs.declared.kind.Method.TheVariants as method
use Rattle.itip_message.specs.Drafts.{draft_head, draft_head_of, HasDraftHead, HasDraftTodos, AreDated, RefusesDraft, at_lines, at_frame}
use Rattle.itip_message.specs.Drafts.{at_head, at_component, at_canonical_form}
use Rattle.itip_message.specs.Frame.{frame, calendar_lines, todos}
use Rattle.itip_message.specs.Message.{FirstRefused}
use Rattle.itip_message.specs.Refusals.{IfRefused, line_gives, form_gives}
use Rattle.itip_message.specs.declared.error.ReadError.{ReadError}
use Rattle.itip_message.specs.declared.error.ReadError.TheVariants as error
use Rattle.itip_message.specs.declared.frame.Placed.{Placed}
use Rattle.itip_message.specs.declared.sort.Component.{Component}

pub lines_refused : (e : line_error.LineError) (bytes : List ℕ) → lines.IfRefused e (lines.Refused bytes) →
    IfRefused (line_gives e) (RefusesDraft bytes)
lines_refused line_error.TheVariants.NoMemory bytes h = tt
lines_refused (line_error.TheVariants.Refused f) bytes h = at_lines f h

pub frame_refused : (e : ReadError) (bytes : List ℕ) (content : List NumberedLine) → lines.Reads bytes content →
    IfRefused e (λ f. frame content ≡ Err f) → IfRefused e (RefusesDraft bytes)
frame_refused error.NoMemory bytes content reads h = tt
frame_refused (error.Refused f) bytes content reads h = at_frame content f reads h

same_head : (placed : List Placed) (calendar : List NumberedLine) (components : List Component) → calendar ≡ calendar_lines placed →
    components ≡ todos placed → draft_head placed ≡ draft_head_of calendar components
same_head placed calendar components c t = λ i. draft_head_of (sym c i) (sym t i)

pub head_refused : (e : ReadError) (bytes : List ℕ) (content : List NumberedLine) (placed : List Placed) (calendar : List NumberedLine)
    (components : List Component)
    → lines.Reads bytes content → frame content ≡ Ok placed → calendar ≡ calendar_lines placed → components ≡ todos placed
    → IfRefused e (λ f. draft_head_of calendar components ≡ Err f) → IfRefused e (RefusesDraft bytes)
head_refused error.NoMemory bytes content placed calendar components reads framed c t h = tt
head_refused (error.Refused f) bytes content placed calendar components reads framed c t h =
    at_head content placed f reads framed (same_head placed calendar components c t ∙ h)

pub headed : (bytes : List ℕ) (content : List NumberedLine) (placed : List Placed) (calendar : List NumberedLine)
    (components : List Component)
    → lines.Reads bytes content → frame content ≡ Ok placed → calendar ≡ calendar_lines placed → components ≡ todos placed
    → draft_head_of calendar components ≡ Ok method.Request → HasDraftHead bytes components
headed bytes content placed calendar components reads framed c t h = record {
  content = content;
  placed = placed;
  reads = reads;
  framed = framed;
  headed = same_head placed calendar components c t ∙ h;
  components_are = t;
}

pub component_refused : (e : ReadError) (bytes : List ℕ) (components with_stamps : List Component) → HasDraftHead bytes components →
    AreDated components with_stamps → IfRefused e (FirstRefused method.Request 1 with_stamps) → IfRefused e (RefusesDraft bytes)
component_refused error.NoMemory bytes components with_stamps has are h = tt
component_refused (error.Refused f) bytes components with_stamps has are h = at_component components with_stamps f has are h

pub over_refused : (e : FormError) (bytes : List ℕ) (all : List Todo) → HasDraftTodos bytes all →
    IfTooLarge e (FirstOver 1 (drafts_each method.Request (map parts_of all) (map parts_of all))) →
    IfRefused (form_gives e) (RefusesDraft bytes)
over_refused form_error.NoMemory bytes all has h = tt
over_refused (form_error.TooLarge todo) bytes all has h = at_canonical_form all todo has h
