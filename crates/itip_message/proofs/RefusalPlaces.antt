-- A refusal names a to-do and a line as its cause says.
use Rattle.std.proofs.Common.{◌≡◌, sym, refl, ℕ, zero, suc, ◌<◌, ◌+◌, Bool, true, false, cond, List, [], ◌∷◌, length, drop, subst, arith}
use Rattle.std.proofs.Common.{inl, inr, Option, Some, None, Ok, Err, is_some, ltb-true}
use Rattle.std.specs.Prelude.{Result, nat_lt, ◌&&◌, codes}
use Rattle.itip_lines.specs.declared.line.NumberedLine.{NumberedLine}
use Rattle.itip_lines.proofs.OneReading as one_lines
use Rattle.itip_todo.specs.Participation.{same_text}
use Rattle.itip_todo.proofs.ReadingLaws as one_todo
use Rattle.itip_items.specs.MethodNeeds.{is_begin, is_end}
use Rattle.itip_items.specs.declared.error.MethodCause.{MethodCause}
use Rattle.itip_items.specs.declared.error.MethodCause.TheVariants as method_cause
use Rattle.itip_items.specs.declared.kind.Method.{Method}
use Rattle.itip_message.specs.Refusals.{at_line}
use Rattle.itip_message.specs.Frame.{frame, place, with_front, nested, opening, property, component_name, calendar_lines, todos}
use Rattle.itip_message.specs.Head.{head, counted, first_begins, is_version, method_in, only_value, odd_line, named}
use Rattle.itip_message.specs.CauseLines.{line_of_cause, MisfitsIn, NamesPlace}
use Rattle.itip_message.specs.Message.{RefusesComponent, FirstRefused, RefusesMessage, at_lines, at_frame, at_head, at_component}
use Rattle.itip_message.specs.Message.{at_canonical_form}
use Rattle.itip_message.specs.declared.sort.Component.{Component}
use Rattle.itip_message.specs.declared.frame.Placed.{Placed}
use Rattle.itip_message.specs.declared.error.MessageCause.TheVariants as causes
use Rattle.itip_message.specs.declared.error.MessageRefusal.{MessageRefusal}

abbrev pub GivesPlace : (A : Type 0) → Result A MessageRefusal → Type 0
GivesPlace A r = (f : MessageRefusal) → r ≡ Err f → NamesPlace f

ok_placed : (A : Type 0) (x : A) → GivesPlace A (Ok x)
ok_placed A x f e = absurd (cc)

pub err_placed : (A : Type 0) (g : MessageRefusal) → NamesPlace g → GivesPlace A (Err g)
err_placed A g h f e = let same : g ≡ f = cc in subst NamesPlace same h

pub cond_placed : (A : Type 0) (b : Bool) (r s : Result A MessageRefusal) → (b ≡ true → GivesPlace A r) → (b ≡ false → GivesPlace A s) →
    GivesPlace A (cond b r s)
cond_placed A true r s h k = h refl
cond_placed A false r s h k = k refl

-- nested components

nested_placed : (line : Option ℕ) → GivesPlace (List Placed) (nested line)
nested_placed line = err_placed (List Placed) (at_line causes.Nesting line) (refl, tt)

front_placed : (front : List Placed) (r : Result (List Placed) MessageRefusal) → GivesPlace (List Placed) r →
    GivesPlace (List Placed) (with_front front r)
front_placed front (Ok rest) h f e = absurd (cc)
front_placed front (Err g) h f e = h f e

inside_placed : (inside : List (List ℕ)) (lines : List NumberedLine) → GivesPlace (List Placed) (place inside lines)
inside_placed [] [] = ok_placed (List Placed) []
inside_placed (name ∷ inside) [] = nested_placed None
inside_placed [] (line ∷ lines) = nested_placed (Some line.number)
inside_placed (name ∷ inside) (line ∷ lines) =
    cond_placed (List Placed) (is_begin line.line) _ _
    (λ begins. cond_placed (List Placed) (nat_lt (length (name ∷ inside)) 32) _ _
    (λ fits. front_placed (opening (name ∷ inside) (component_name line.line) line.number)
    (place (component_name line.line ∷ name ∷ inside) lines) (inside_placed (component_name line.line ∷ name ∷ inside) lines))
    (λ deep. nested_placed (Some line.number)))
    (λ no_begin. cond_placed (List Placed) (is_end line.line) _ _
    (λ ends. cond_placed (List Placed) (same_text (component_name line.line) name) _ _ (λ right. inside_placed inside lines)
    (λ wrong. nested_placed (Some line.number)))
    (λ no_end. front_placed (property (name ∷ inside) line) (place (name ∷ inside) lines) (inside_placed (name ∷ inside) lines)))

pub frame_placed : (lines : List NumberedLine) → GivesPlace (List Placed) (frame lines)
frame_placed [] = err_placed (List Placed) (at_line causes.NoCalendar None) (refl, tt)
frame_placed (line ∷ lines) =
    cond_placed (List Placed) (is_begin line.line && same_text (component_name line.line) (codes "VCALENDAR")) _ _
    (λ begins. inside_placed (codes "VCALENDAR" ∷ []) lines)
    (λ other. err_placed (List Placed) (at_line causes.NoCalendar (Some line.number)) (refl, tt))

-- the head

begins_beyond : (n : ℕ) (components : List Component) → n < length components → is_some (first_begins (drop n components)) ≡ true
begins_beyond zero [] h = absurd (omega arith)
begins_beyond zero (component ∷ components) h = refl
begins_beyond (suc n) [] h = absurd (omega arith)
begins_beyond (suc n) (component ∷ components) h = begins_beyond n components (omega arith)

pub counted_placed : (components : List Component) (line : Option ℕ) (m : Option Method) → GivesPlace Method (counted components line m)
counted_placed components line None = err_placed Method (at_line causes.Method line) (refl, tt)
counted_placed components line (Some m) =
    cond_placed Method (nat_lt 1000 (length components)) _ _
    (λ many. err_placed Method (at_line causes.ManyTodos (first_begins (drop 1000 components))) (
      refl,
      begins_beyond 1000 components (ltb-true 1000 (length components) many),
    ))
    (λ few. cond_placed Method (nat_lt 0 (length components)) _ _ (λ some. ok_placed Method m)
    (λ none. err_placed Method (at_line causes.NoTodo None) (refl, refl)))

head_placed : (placed : List Placed) → GivesPlace Method (head placed)
head_placed placed =
    cond_placed Method (is_version (only_value (named (codes "VERSION") (calendar_lines placed)))) _ _
    (λ right. counted_placed (todos placed) (odd_line (named (codes "METHOD") (calendar_lines placed))) (method_in
    (only_value (named (codes "METHOD") (calendar_lines placed)))))
    (λ wrong. err_placed Method (at_line causes.Version (odd_line (named (codes "VERSION") (calendar_lines placed)))) (refl, tt))

-- components

misfit_placed : (c : MethodCause) (lines : List NumberedLine) → MisfitsIn c (line_of_cause c lines)
misfit_placed (method_cause.Missing p) lines = refl
misfit_placed (method_cause.Twice p) lines = tt
misfit_placed method_cause.Range lines = tt
misfit_placed method_cause.AddForm lines = tt

component_placed : (m : Method) (n : ℕ) (component : Component) (f : MessageRefusal) → RefusesComponent m n component f → NamesPlace f
component_placed m n component f (inl h) = subst NamesPlace (sym h.2) (refl, one_todo.refusal_place component.lines h.0 h.1)
component_placed m n component f (inr h) = subst NamesPlace (sym h.4) (refl, misfit_placed h.1 component.lines)

pub first_placed : (m : Method) (n : ℕ) (components : List Component) (f : MessageRefusal) → FirstRefused m n components f → NamesPlace f
first_placed m n [] f h = absurd h
first_placed m n (component ∷ components) f (inl h) = component_placed m n component f h
first_placed m n (component ∷ components) f (inr h) = first_placed m (n + 1) components f h.1

pub refusal_placed : (bytes : List ℕ) (f : MessageRefusal) → RefusesMessage bytes f → NamesPlace f
refusal_placed bytes g (at_lines of h) = (refl, one_lines.refusal_place bytes of h)
refusal_placed bytes g (at_frame content f h k) = frame_placed content f k
refusal_placed bytes g (at_head content placed f h k l) = head_placed placed f l
refusal_placed bytes g (at_component m components f h k) = first_placed m 1 components f k
refusal_placed bytes g (at_canonical_form todo h) = (refl, refl)
