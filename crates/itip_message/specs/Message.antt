-- Reading a message in six stages: length, lines, frame, head, components, canonical forms (RFC 5546 3.4; the order of causes is our own).
use Rattle.std.specs.Prelude.{◌≡◌, ℕ, ◌+◌, ◌⊎◌, List, [], ◌∷◌, map, Some, None, Ok, Err}
use Rattle.std.specs.List.{AllByRecursion}
use Rattle.itip_lines.specs.Reading as lines
use Rattle.itip_lines.specs.Reading.{plain_lines}
use Rattle.itip_lines.specs.declared.error.LineRefusal.{LineRefusal}
use Rattle.itip_lines.specs.declared.line.NumberedLine.{NumberedLine}
use Rattle.itip_todo.specs.PartsOf.{parts_of}
use Rattle.itip_todo.specs.Limits.{Limits, present}
use Rattle.itip_todo.specs.Reading.{ReadsTodo, ReadsTodoWithin, RefusesTodo}
use Rattle.itip_todo.specs.declared.error.TodoRefusal.{TodoRefusal}
use Rattle.itip_todo.specs.declared.todo.Todo.{Todo}
use Rattle.itip_items.specs.Given.{AreItemsOf, FirstOver, drafts_each}
use Rattle.itip_items.specs.MethodNeeds.{method_cause}
use Rattle.itip_items.specs.Items.{drafts, IsWithinLimits}
use Rattle.itip_items.specs.declared.error.MethodCause.{MethodCause}
use Rattle.itip_items.specs.declared.item.Item.{Item}
use Rattle.itip_items.specs.declared.kind.Method.{Method}
use Rattle.itip_message.specs.Frame.{frame, todos}
use Rattle.itip_message.specs.Head.{head}
use Rattle.itip_message.specs.CauseLines.{line_of_cause}
use Rattle.itip_message.specs.Refusals.{of_lines, of_todo, in_todo, large_form}
pub use Rattle.itip_message.specs.Refusals.{IfRefused}
use Rattle.itip_message.specs.declared.frame.Placed.{Placed}
use Rattle.itip_message.specs.declared.sort.Component.{Component}
use Rattle.itip_message.specs.declared.error.MessageCause.TheVariants as causes
use Rattle.itip_message.specs.declared.error.MessageRefusal.{MessageRefusal}

-- the component is this to-do, within these limits of to-dos, and it is what the method needs
pub record ReadsComponentWithin (limits : Limits) (m : Method) (component : Component) (todo : Todo) : Type 0 where
  pub reads : ReadsTodoWithin limits (plain_lines component.lines) todo
  pub fits : method_cause m (parts_of todo) ≡ None

abbrev pub ReadsComponent : Method → Component → Todo → Type 0
ReadsComponent = ReadsComponentWithin present

-- the component with this number isn't a to-do, or is one that isn't what the method needs
abbrev pub RefusesComponent : Method → ℕ → Component → MessageRefusal → Type 0
RefusesComponent m number component refusal =
    ((of : TodoRefusal) × RefusesTodo component.lines of × (refusal ≡ of_todo number of))
    ⊎ ((todo : Todo) × (cause : MethodCause) × ReadsTodo (plain_lines component.lines) todo × (method_cause m (parts_of todo) ≡ Some cause)
    × (refusal ≡ in_todo number (causes.Misfit cause) (line_of_cause cause component.lines)))

-- these components are these to-dos, within these limits
abbrev pub AreComponentsWithin : Limits → Method → List Component → List Todo → Type 0
AreComponentsWithin limits m [] [] = Unit {0}
AreComponentsWithin limits m [] (todo ∷ todos) = ⊥
AreComponentsWithin limits m (component ∷ components) [] = ⊥
AreComponentsWithin limits m (component ∷ components) (todo ∷ todos) =
    ReadsComponentWithin limits m component todo × AreComponentsWithin limits m components todos

abbrev pub AreComponents : Method → List Component → List Todo → Type 0
AreComponents = AreComponentsWithin present

-- the refusal of the first component that is refused; the first of all has the number `number`
abbrev pub FirstRefused : Method → ℕ → List Component → MessageRefusal → Type 0
FirstRefused m number [] refusal = ⊥
FirstRefused m number (component ∷ components) refusal =
    RefusesComponent m number component refusal ⊎
    (((todo : Todo) × ReadsComponent m component todo) × FirstRefused m (number + 1) components refusal)

-- the bytes are lines, framed and with a head
pub record HasHead (bytes : List ℕ) (m : Method) (components : List Component) : Type 0 where
  pub content : List NumberedLine
  pub placed : List Placed
  pub reads : lines.Reads bytes content
  pub framed : frame content ≡ Ok placed
  pub headed : head placed ≡ Ok m
  pub components_are : components ≡ todos placed

-- the bytes are a message that gives these items, by to-do and then by ATTENDEE line, within these limits of to-dos
pub record ReadsMessageWithin (limits : Limits) (bytes : List ℕ) (items : List Item) : Type 0 where
  pub method_is : Method
  pub components : List Component
  pub all : List Todo
  pub begins : HasHead bytes method_is components
  pub read : AreComponentsWithin limits method_is components all
  pub within : AllByRecursion IsWithinLimits (drafts method_is (map parts_of all))
  pub items_are : AreItemsOf (drafts method_is (map parts_of all)) items

abbrev pub ReadsMessage : List ℕ → List Item → Type 0
ReadsMessage = ReadsMessageWithin present

-- all components are read, and the to-do with this number is the first with a canonical form that is too large
pub record IsTooLarge (bytes : List ℕ) (todo : ℕ) : Type 0 where
  pub method_is : Method
  pub components : List Component
  pub all : List Todo
  pub begins : HasHead bytes method_is components
  pub read : AreComponents method_is components all
  pub over : FirstOver 1 (drafts_each method_is (map parts_of all) (map parts_of all)) todo

-- the bytes aren't a message, for this cause: the first in the order of the stages
pub data RefusesMessage (bytes : List ℕ) : MessageRefusal → Type 0 where
  at_lines : (of : LineRefusal) → lines.Refused bytes of → RefusesMessage bytes (of_lines of)
  at_frame : (content : List NumberedLine) (refusal : MessageRefusal)
      → lines.Reads bytes content → frame content ≡ Err refusal → RefusesMessage bytes refusal
  at_head : (content : List NumberedLine) (placed : List Placed) (refusal : MessageRefusal)
      → lines.Reads bytes content → frame content ≡ Ok placed → head placed ≡ Err refusal → RefusesMessage bytes refusal
  at_component : (m : Method) (components : List Component) (refusal : MessageRefusal)
      → HasHead bytes m components → FirstRefused m 1 components refusal → RefusesMessage bytes refusal
  at_canonical_form : (todo : ℕ) → IsTooLarge bytes todo → RefusesMessage bytes (large_form todo)
