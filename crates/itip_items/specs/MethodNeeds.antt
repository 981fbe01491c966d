-- What a method needs of a to-do besides UID and DTSTAMP (our own rule).
use Rattle.std.specs.Prelude.{◌≡◌, Bool, true, false, ◌||◌, ◌&&◌, not, IsTrue, List, [], ◌∷◌, codes, Option, Some, None}
use Rattle.std.specs.Option.{is_some, is_none}
use Rattle.std.specs.List.{list_all}
use Rattle.itip_lines.specs.declared.line.Line.{Line}
use Rattle.itip_todo.specs.Participation.{same_text}
use Rattle.itip_todo.specs.Parts.{Parts}
use Rattle.itip_todo.specs.Table.{has_period}
use Rattle.itip_todo.specs.Properties.{Property}
use Rattle.itip_todo.specs.declared.property_name.PropertyName.TheVariants as name
use Rattle.itip_items.specs.declared.kind.Method.{Method}
use Rattle.itip_items.specs.declared.kind.Method.TheVariants as method
use Rattle.itip_items.specs.declared.error.MethodCause.{MethodCause}
use Rattle.itip_items.specs.declared.error.MethodCause.TheVariants as cause

abbrev pub has_some : {A : Type 0} → List A → Bool
has_some [] = false
has_some (x ∷ xs) = true

-- The to-do is about an instance or recurs: it has RECURRENCE-ID, RRULE or RDATE. RDATE with `/` in its value is among the others.
abbrev pub recurs : Parts → Bool
recurs parts = is_some parts.rid || (has_some parts.rule || (has_some parts.rdates || has_period parts.others))

abbrev pub when : Bool → MethodCause → Option MethodCause
when true f = Some f
when false f = None

abbrev pub missing_in : {A : Type 0} → Option A → MethodCause → Option MethodCause → Option MethodCause
missing_in None f others = Some f
missing_in (Some x) f others = others

abbrev pub wants_one : List Property → Option MethodCause
wants_one [] = Some (cause.Missing name.Attendee)
wants_one (attendee ∷ []) = None
wants_one (attendee ∷ other ∷ others) = Some (cause.Twice name.Attendee)

abbrev pub wants_some : List Property → Option MethodCause
wants_some [] = Some (cause.Missing name.Attendee)
wants_some (attendee ∷ attendees) = None

-- a CANCEL without STATUS that names attendees removes them
abbrev pub removes : Parts → Bool
removes parts = is_none parts.status && has_some parts.attendees

-- why a to-do is not what its method needs besides UID and DTSTAMP (our own rule)
abbrev pub method_cause : Method → Parts → Option MethodCause
method_cause method.Request parts = None
method_cause method.Add parts = missing_in parts.start (cause.Missing name.DtStart) (when (recurs parts) cause.AddForm)
method_cause method.Cancel parts = when (removes parts && parts.range) cause.Range
method_cause method.Reply parts = wants_some parts.attendees
method_cause method.Refresh parts = wants_one parts.attendees

abbrev pub is_begin : Line → Bool
is_begin line = same_text line.name (codes "BEGIN")

abbrev pub is_end : Line → Bool
is_end line = same_text line.name (codes "END")

-- a line that neither begins nor ends a component
abbrev pub is_property : Line → Bool
is_property line = not (is_begin line || is_end line)

-- A to-do may be sent alone under a method: it is what the method needs, and none of its lines begins or ends a component.
pub record Suits (m : Method) (parts : Parts) : Type 0 where
  pub fits : method_cause m parts ≡ None
  pub others : IsTrue (list_all is_property parts.others)
