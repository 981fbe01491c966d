-- The lines of a to-do in a message neither begin nor end a component.
use Rattle.std.proofs.Common.{◌≡◌, sym, refl, ℕ, Bool, true, false, cond, List, [], ◌∷◌, ◌++◌, length, map, subst, Ok, Err, IsTrue}
use Rattle.std.specs.Prelude.{Result, nat_lt, ◌&&◌, codes}
use Rattle.std.specs.List.{AllByRecursion, list_all, filter}
use Rattle.std.proofs.lemmas.Bool.{and_parts}
use Rattle.itip_lines.specs.Reading.{plain_lines}
use Rattle.itip_lines.specs.declared.line.Line.{Line}
use Rattle.itip_lines.specs.declared.line.NumberedLine.{NumberedLine}
use Rattle.itip_todo.specs.PartsOf.{parts_of}
use Rattle.itip_todo.specs.declared.todo.Todo.{Todo}
use Rattle.itip_message.specs.Frame.{frame, place, with_front, begun, with_line, opening, property, component_name, todos, todos_from}
use Rattle.itip_items.specs.MethodNeeds.{is_begin, is_end}
use Rattle.itip_todo.specs.Participation.{same_text}
use Rattle.itip_items.specs.MethodNeeds.{is_property, Suits}
use Rattle.itip_message.specs.Message.{AreComponents, ReadsComponent}
use Rattle.itip_message.specs.declared.sort.Component.{Component}
use Rattle.itip_message.specs.declared.frame.Placed.{Placed}
use Rattle.itip_message.specs.declared.frame.Placed.TheVariants.{CalendarLine, TodoBegins, TodoLine}
use Rattle.itip_items.specs.declared.kind.Method.{Method}
use Rattle.itip_message.specs.declared.error.MessageRefusal.{MessageRefusal}

abbrev pub AreProperties : List Line → Type 0
AreProperties lines = IsTrue (list_all is_property lines)

abbrev pub HasProperties : Component → Type 0
HasProperties component = AreProperties (plain_lines component.lines)

abbrev IsSound : Placed → Type 0
IsSound (CalendarLine line) = Unit {0}
IsSound (TodoBegins number) = Unit {0}
IsSound (TodoLine line) = IsTrue (is_property line.line)

abbrev AreSound : List Placed → Type 0
AreSound placed = AllByRecursion IsSound placed

sound_both : (a b : List Placed) → AreSound a → AreSound b → AreSound (a ++ b)
sound_both [] b h k = k
sound_both (x ∷ a) b h k = (h.0, sound_both a b h.1 k)

sound_front : (front : List Placed) (r : Result (List Placed) MessageRefusal) → AreSound front →
    ((placed : List Placed) → r ≡ Ok placed → AreSound placed) → (placed : List Placed) → with_front front r ≡ Ok placed → AreSound placed
sound_front front (Ok rest) h k placed e = let same : front ++ rest ≡ placed = cc in
    subst AreSound same (sound_both front rest h (k rest refl))
sound_front front (Err f) h k placed e = absurd (cc)

sound_opening : (inside : List (List ℕ)) (name : List ℕ) (number : ℕ) → AreSound (opening inside name number)
sound_opening [] name number = tt
sound_opening (x ∷ []) name number =
    elim (same_text name (codes "VTODO")) as (λ b. AreSound (cond b (TodoBegins number ∷ []) [])) [ true ↦ (tt, tt) | false ↦ tt ]
sound_opening (x ∷ (y ∷ rest)) name number = tt

sound_property : (inside : List (List ℕ)) (line : NumberedLine) → IsTrue (is_property line.line) → AreSound (property inside line)
sound_property [] line h = tt
sound_property (x ∷ []) line h = (tt, tt)
sound_property (x ∷ (y ∷ [])) line h =
    elim (same_text x (codes "VTODO")) as (λ b. AreSound (cond b (TodoLine line ∷ []) [])) [ true ↦ (h, tt) | false ↦ tt ]
sound_property (x ∷ (y ∷ (z ∷ rest))) line h = tt

neither : (line : Line) → is_begin line ≡ false → is_end line ≡ false → IsTrue (is_property line)
neither line h k = rw (h, k) refl

abbrev GivesSound : Result (List Placed) MessageRefusal → Type 0
GivesSound r = (placed : List Placed) → r ≡ Ok placed → AreSound placed

err_sound : (f : MessageRefusal) → GivesSound (Err f)
err_sound f placed e = absurd (cc)

none_sound : GivesSound (Ok [])
none_sound placed e = let same : [] ≡ placed = cc in subst AreSound same tt

cond_sound : (b : Bool) (r s : Result (List Placed) MessageRefusal) → (b ≡ true → GivesSound r) → (b ≡ false → GivesSound s) →
    GivesSound (cond b r s)
cond_sound true r s h k = h refl
cond_sound false r s h k = k refl

sound_place : (inside : List (List ℕ)) (lines : List NumberedLine) → GivesSound (place inside lines)
sound_place [] [] = none_sound
sound_place (name ∷ inside) [] = err_sound _
sound_place [] (line ∷ lines) = err_sound _
sound_place (name ∷ inside) (line ∷ lines) =
    cond_sound (is_begin line.line) _ _
    (λ begins. cond_sound (nat_lt (length (name ∷ inside)) 32) _ _
    (λ fits. sound_front (opening (name ∷ inside) (component_name line.line) line.number)
    (place (component_name line.line ∷ name ∷ inside) lines) (sound_opening (name ∷ inside) (component_name line.line) line.number)
    (sound_place (component_name line.line ∷ name ∷ inside) lines))
    (λ deep. err_sound _))
    (λ no_begin. cond_sound (is_end line.line) _ _
    (λ ends. cond_sound (same_text (component_name line.line) name) _ _ (λ right. sound_place inside lines) (λ wrong. err_sound _))
    (λ no_end. sound_front (property (name ∷ inside) line) (place (name ∷ inside) lines)
    (sound_property (name ∷ inside) line (neither line.line no_begin no_end)) (sound_place (name ∷ inside) lines)))

pub sound_frame : (lines : List NumberedLine) → GivesSound (frame lines)
sound_frame [] = err_sound _
sound_frame (line ∷ lines) =
    cond_sound (is_begin line.line && same_text (component_name line.line) (codes "VCALENDAR")) _ _
    (λ begins. sound_place (codes "VCALENDAR" ∷ []) lines) (λ other. err_sound _)

pub and_true : (a b : Bool) → a ≡ true → b ≡ true → (a && b) ≡ true
and_true true b h k = k
and_true false b h k = absurd (cc)

pub properties_more : (lines : List NumberedLine) (line : NumberedLine) → AreProperties (plain_lines lines) →
    IsTrue (is_property line.line) →
    AreProperties (plain_lines (lines ++ line ∷ []))
properties_more [] line h k = and_true (is_property line.line) true k refl
properties_more (x ∷ lines) line h k = let p = and_parts _ _ h in
    and_true (is_property x.line) (list_all is_property (plain_lines (lines ++ line ∷ []))) p.0 (properties_more lines line p.1 k)

sound_from : (first : Component) (placed : List Placed) → HasProperties first → AreSound placed →
    AllByRecursion HasProperties (todos_from first placed)
sound_from first [] h k = (h, tt)
sound_from first (TodoLine line ∷ placed) h k = sound_from (with_line first line) placed (properties_more first.lines line h k.0) k.1
sound_from first (TodoBegins number ∷ placed) h k = (h, sound_from (begun number) placed refl k.1)
sound_from first (CalendarLine line ∷ placed) h k = sound_from first placed h k.1

pub sound_todos : (placed : List Placed) → AreSound placed → AllByRecursion HasProperties (todos placed)
sound_todos [] k = tt
sound_todos (TodoBegins number ∷ placed) k = sound_from (begun number) placed refl k.1
sound_todos (CalendarLine line ∷ placed) k = sound_todos placed k.1
sound_todos (TodoLine line ∷ placed) k = sound_todos placed k.1

filtered : (test : Line → Bool) (lines : List Line) → AreProperties lines → AreProperties (filter test lines)
filtered test [] h = refl
filtered test (line ∷ lines) h =
    let p = and_parts _ _ h in
    let rest = filtered test lines p.1 in
    elim (test line) as (λ b. AreProperties (cond b (line ∷ filter test lines) (filter test lines)))
    [ true ↦ and_true (is_property line) (list_all is_property (filter test lines)) p.0 rest | false ↦ rest ]

suits : (m : Method) (component : Component) (todo : Todo) → ReadsComponent m component todo → HasProperties component →
    Suits m (parts_of todo)
suits m component todo h k =
    record { fits = h.fits; others = subst AreProperties (sym h.reads.others) (filtered _ (plain_lines component.lines) k) }

pub all_suit : (m : Method) (components : List Component) (all : List Todo) → AreComponents m components all →
    AllByRecursion HasProperties components → AllByRecursion (Suits m) (map parts_of all)
all_suit m [] [] h k = tt
all_suit m [] (todo ∷ all) h k = absurd h
all_suit m (component ∷ components) [] h k = tt
all_suit m (component ∷ components) (todo ∷ all) h k = (suits m component todo h.0 k.0, all_suit m components all h.1 k.1)

-- the to-dos of a framed message may be sent alone
pub framed_suit : (m : Method) (lines : List NumberedLine) (placed : List Placed) (all : List Todo) → frame lines ≡ Ok placed →
    AreComponents m (todos placed) all → AllByRecursion (Suits m) (map parts_of all)
framed_suit m lines placed all h k = all_suit m (todos placed) all k (sound_todos placed (sound_frame lines placed h))
