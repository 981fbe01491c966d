-- Placing lines, step by step.
use Rattle.std.proofs.Common.{◌≡◌, ◌∙◌, sym, ap, refl, ℕ, zero, suc, ◌<◌, ◌≤◌, true, false, cond, List, [], ◌∷◌, ◌++◌, length, arith}
use Rattle.std.proofs.Common.{length-append, append_assoc, append-nil, subst, get_or, lt-ltb, le-ltb}
use Rattle.std.specs.Prelude.{nat_lt, codes, Option, Some, None, Result, Ok, Err, ◌≢◌, ◌==◌}
use Rattle.itip_lines.specs.declared.line.NumberedLine.{NumberedLine}
use Rattle.itip_message.specs.Frame.{place, with_front, nested, opening, property, component_name, innermost_first}
use Rattle.itip_items.specs.MethodNeeds.{is_begin, is_end}
use Rattle.itip_todo.specs.Participation.{same_text}
use Rattle.itip_message.specs.declared.frame.Placed.{Placed}
use Rattle.itip_message.specs.declared.frame.Placed.TheVariants.{CalendarLine, TodoBegins, TodoLine}
use Rattle.itip_message.specs.Refusals.{IfRefused, at_line}
use Rattle.itip_message.specs.declared.error.ReadError.{ReadError}
use Rattle.itip_message.specs.declared.error.ReadError.TheVariants as error
use Rattle.itip_message.specs.declared.error.MessageCause.TheVariants.{Nesting}
use Rattle.itip_message.specs.declared.error.MessageRefusal.{MessageRefusal}

pub innermost_more : (outer : List (List ℕ)) (inner : List ℕ) → innermost_first (outer ++ inner ∷ []) ≡ inner ∷ innermost_first outer
innermost_more [] inner = refl
innermost_more (x ∷ outer) inner = ap (λ (names : List (List ℕ)). names ++ x ∷ []) (innermost_more outer inner)

pub innermost_length : (names : List (List ℕ)) → length (innermost_first names) ≡ length names
innermost_length [] = refl
innermost_length (x ∷ names) = let r = length-append (innermost_first names) (x ∷ []) in let h = innermost_length names in omega arith

pub with_none : (rest : Result (List Placed) MessageRefusal) → with_front [] rest ≡ rest
with_none (Ok placed) = refl
with_none (Err f) = refl

pub with_two : (front more : List Placed) (rest : Result (List Placed) MessageRefusal) →
    with_front (front ++ more) rest ≡ with_front front (with_front more rest)
with_two front more (Ok placed) = ap (λ (all : List Placed). Ok all) (append_assoc front more placed)
with_two front more (Err f) = refl

-- the last of a list that is not empty
pub record Last (names : List (List ℕ)) : Type 0 where
  pub outer : List (List ℕ)
  pub inner : List ℕ
  pub whole : names ≡ outer ++ inner ∷ []

pub last_of : (names : List (List ℕ)) → 0 < length names → Last names
last_of [] h = absurd (omega arith)
last_of (x ∷ []) h = record { outer = []; inner = x; whole = refl }
last_of (x ∷ (y ∷ names)) h = let r = last_of (y ∷ names) (omega arith) in
    record { outer = x ∷ r.outer; inner = r.inner; whole = ap (λ (all : List (List ℕ)). x ∷ all) r.whole }

-- a line where no component is open
pub place_outside : (line : NumberedLine) (lines : List NumberedLine) → place [] (line ∷ lines) ≡ nested (Some line.number)
place_outside line lines = refl

place_at_begin : (inside : List (List ℕ)) (line : NumberedLine) (lines : List NumberedLine) → 0 < length inside → is_begin line.line ≡ true
    → place inside (line ∷ lines) ≡ cond (nat_lt (length inside) 32)
    (with_front (opening inside (component_name line.line) line.number) (place (component_name line.line ∷ inside) lines))
    (nested (Some line.number))
place_at_begin [] line lines some h = absurd (omega arith)
place_at_begin (name ∷ inside) line lines some h = rw h refl

pub place_begins : (inside : List (List ℕ)) (line : NumberedLine) (lines : List NumberedLine) → 0 < length inside → is_begin
    line.line ≡ true → length inside < 32
    → place inside (line ∷ lines) ≡ with_front (opening inside (component_name line.line) line.number)
    (place (component_name line.line ∷ inside) lines)
place_begins inside line lines some h shallow = let fits : nat_lt (length inside) 32 ≡ true = lt-ltb _ _ shallow in place_at_begin
    inside line lines some h ∙ rw fits refl

pub place_deep : (inside : List (List ℕ)) (line : NumberedLine) (lines : List NumberedLine) → 0 < length inside → is_begin
    line.line ≡ true → 32 ≤ length inside → place inside (line ∷ lines) ≡ nested (Some line.number)
place_deep inside line lines some h deep = let not : nat_lt (length inside) 32 ≡ false = le-ltb _ _ deep in place_at_begin
    inside line lines some h ∙ rw not refl

pub place_ends : (name : List ℕ) (inside : List (List ℕ)) (line : NumberedLine) (lines : List NumberedLine) → is_begin line.line ≡ false →
    is_end line.line ≡ true
    → place (name ∷ inside) (line ∷ lines) ≡ cond (same_text (component_name line.line) name) (place inside lines)
    (nested (Some line.number))
place_ends name inside line lines h k = rw (h, k) refl

pub place_property : (inside : List (List ℕ)) (line : NumberedLine) (lines : List NumberedLine) → 0 < length inside → is_begin
    line.line ≡ false → is_end line.line ≡ false
    → place inside (line ∷ lines) ≡ with_front (property inside line) (place inside lines)
place_property [] line lines some h k = absurd (omega arith)
place_property (name ∷ inside) line lines some h k = rw (h, k) refl

pub opening_one : (inside : List (List ℕ)) (name : List ℕ) (number : ℕ) → length inside ≡ 1 →
    opening (innermost_first inside) name number ≡ cond (same_text name (codes "VTODO")) (TodoBegins number ∷ []) []
opening_one [] name number h = absurd (omega arith)
opening_one (x ∷ []) name number h = refl
opening_one (x ∷ (y ∷ inside)) name number h = absurd (omega arith)

opening_other : (inside : List (List ℕ)) (name : List ℕ) (number : ℕ) → length inside ≢ 1 → opening inside name number ≡ []
opening_other [] name number h = refl
opening_other (x ∷ []) name number h = absurd (omega arith)
opening_other (x ∷ (y ∷ inside)) name number h = refl

pub opening_more : (inside : List (List ℕ)) (name : List ℕ) (number : ℕ) → length inside ≢ 1 →
    opening (innermost_first inside) name number ≡ []
opening_more inside name number h = opening_other (innermost_first inside) name number (λ e. h (sym (innermost_length inside) ∙ e))

pub property_one : (inside : List (List ℕ)) (line : NumberedLine) → length inside ≡ 1 →
    property (innermost_first inside) line ≡ CalendarLine line ∷ []
property_one [] line h = absurd (omega arith)
property_one (x ∷ []) line h = refl
property_one (x ∷ (y ∷ inside)) line h = absurd (omega arith)

pub property_two : (inside : List (List ℕ)) (line : NumberedLine) (inner : List ℕ) → length inside ≡ 2 → inner ≡ get_or inside 1 inner →
    property (innermost_first inside) line ≡ cond (same_text inner (codes "VTODO")) (TodoLine line ∷ []) []
property_two [] line inner h e = absurd (omega arith)
property_two (x ∷ []) line inner h e = absurd (omega arith)
property_two (x ∷ (y ∷ [])) line inner h e = ap (λ (n : List ℕ). cond (same_text n (codes "VTODO")) (TodoLine line ∷ []) []) (sym e)
property_two (x ∷ (y ∷ (z ∷ inside))) line inner h e = absurd (omega arith)

property_other : (inside : List (List ℕ)) (line : NumberedLine) → length inside ≢ 1 → length inside ≢ 2 → property inside line ≡ []
property_other [] line h k = refl
property_other (x ∷ []) line h k = absurd (omega arith)
property_other (x ∷ (y ∷ [])) line h k = absurd (omega arith)
property_other (x ∷ (y ∷ (z ∷ inside))) line h k = refl

pub property_more : (inside : List (List ℕ)) (line : NumberedLine) → length inside ≢ 1 → length inside ≢ 2 →
    property (innermost_first inside) line ≡ []
property_more inside line h k =
    property_other (innermost_first inside) line (λ e. h (sym (innermost_length inside) ∙ e)) (λ e. k (sym (innermost_length inside) ∙ e))

pub innermost_some : (names : List (List ℕ)) → 0 < length names → 0 < length (innermost_first names)
innermost_some names h = let r = innermost_length names in omega arith

pub place_wrong_end : (names : List (List ℕ)) (r : Last names) (line : NumberedLine) (lines : List NumberedLine) → is_begin
    line.line ≡ false → is_end line.line ≡ true → same_text (component_name line.line) r.inner ≡ false
    → place (innermost_first names) (line ∷ lines) ≡ nested (Some line.number)
place_wrong_end names r line lines h k e =
    ap (λ (inside : List (List ℕ)). place inside (line ∷ lines)) (ap innermost_first r.whole ∙ innermost_more r.outer r.inner)
    ∙ place_ends r.inner (innermost_first r.outer) line lines h k ∙ rw e refl

pub place_right_end : (names : List (List ℕ)) (r : Last names) (line : NumberedLine) (lines : List NumberedLine) → is_begin
    line.line ≡ false → is_end line.line ≡ true → same_text (component_name line.line) r.inner ≡ true
    → place (innermost_first names) (line ∷ lines) ≡ with_front [] (place (innermost_first r.outer) lines)
place_right_end names r line lines h k e =
    ap (λ (inside : List (List ℕ)). place inside (line ∷ lines)) (ap innermost_first r.whole ∙ innermost_more r.outer r.inner)
    ∙ place_ends r.inner (innermost_first r.outer) line lines h k ∙ rw e (sym (with_none _))

pub not_zero : (n : ℕ) → (n == 0) ≡ false → 0 < n
not_zero zero h = absurd (cc)
not_zero (suc n) h = omega arith

pub begins_so : (inside now : List (List ℕ)) (line : NumberedLine) (lines : List NumberedLine) (front : List Placed) → 0 < length inside →
    is_begin line.line ≡ true → length inside < 32
    → front ≡ opening inside (component_name line.line) line.number → now ≡ component_name line.line ∷ inside →
    place inside (line ∷ lines) ≡ with_front front (place now lines)
begins_so inside now line lines front some h shallow e k =
    place_begins inside line lines some h shallow ∙ (λ i. with_front (sym e i) (place (sym k i) lines))

pub property_so : (inside : List (List ℕ)) (line : NumberedLine) (lines : List NumberedLine) (front : List Placed) → 0 < length inside →
    is_begin line.line ≡ false → is_end line.line ≡ false
    → front ≡ property inside line → place inside (line ∷ lines) ≡ with_front front (place inside lines)
property_so inside line lines front some h k e = place_property inside line lines some h k ∙
    (λ i. with_front (sym e i) (place inside lines))

-- one more line is placed
pub one_more : (front more : List Placed) (inside now : List (List ℕ)) (line : NumberedLine) (left rest : List NumberedLine)
    (all : Result (List Placed) MessageRefusal)
    → with_front front (place inside left) ≡ all → left ≡ line ∷ rest → place inside (line ∷ rest) ≡ with_front more (place now rest)
    → with_front (front ++ more) (place now rest) ≡ all
one_more front more inside now line left rest all h e k =
    with_two front more (place now rest) ∙ ap (with_front front) (sym k) ∙
    ap (λ (lines : List NumberedLine). with_front front (place inside lines)) (sym e) ∙ h

-- the fault of a line is that of all
pub fails_so : (e : ReadError) (front : List Placed) (inside : List (List ℕ)) (line : NumberedLine) (left rest : List NumberedLine)
    (all : Result (List Placed) MessageRefusal)
    → with_front front (place inside left) ≡ all → left ≡ line ∷ rest →
    IfRefused e (λ f. (lines : List NumberedLine) → place inside (line ∷ lines) ≡ Err f) → IfRefused e (λ f. all ≡ Err f)
fails_so error.NoMemory front inside line left rest all h e k = tt
fails_so (error.Refused f) front inside line left rest all h e k =
    sym h ∙ ap (λ (lines : List NumberedLine). with_front front (place inside lines)) e ∙ ap (with_front front) (k rest)

nothing : (lines : List NumberedLine) → length lines ≡ 0 → lines ≡ []
nothing [] h = refl
nothing (x ∷ lines) h = absurd (omega arith)

still_inside : (front : List Placed) (inside : List (List ℕ)) → 0 < length inside → with_front front (place inside []) ≡ nested None
still_inside front [] some = absurd (omega arith)
still_inside front (x ∷ inside) some = refl

pub not_closed : (front : List Placed) (names : List (List ℕ)) (left : List NumberedLine) (all : Result (List Placed) MessageRefusal)
    → with_front front (place (innermost_first names) left) ≡ all → length left ≡ 0 → 0 < length names → all ≡ nested None
not_closed front names left all h none some =
    sym h ∙ ap (λ (lines : List NumberedLine). with_front front (place (innermost_first names) lines)) (nothing left none) ∙
    still_inside front (innermost_first names) (innermost_some names some)

none_inside : (names : List (List ℕ)) → length names ≡ 0 → innermost_first names ≡ []
none_inside [] h = refl
none_inside (x ∷ names) h = absurd (omega arith)

pub closed : (front : List Placed) (names : List (List ℕ)) (left : List NumberedLine) (all : Result (List Placed) MessageRefusal)
    → with_front front (place (innermost_first names) left) ≡ all → length left ≡ 0 → length names ≡ 0 → all ≡ Ok front
closed front names left all h none outside =
    sym h ∙ (λ i. with_front front (place (none_inside names outside i) (nothing left none i))) ∙
    ap (λ (placed : List Placed). Ok placed) (append-nil front)

pub not_some : {A : Type 0} (o : Option A) → ((x : A) → o ≡ Some x → ⊥) → o ≡ None
not_some None h = refl
not_some (Some x) h = absurd (h x refl)

-- an error of a line that is badly nested, where this is what all lines come to
pub if_nested : (e : ReadError) (number : ℕ) (placed : List NumberedLine → Result (List Placed) MessageRefusal) →
    e ≡ error.Refused (at_line Nesting (Some number)) → ((lines : List NumberedLine) → placed lines ≡ nested (Some number))
    → IfRefused e (λ f. (lines : List NumberedLine) → placed lines ≡ Err f)
if_nested e number placed is h = subst (λ (x : ReadError). IfRefused x (λ f. (lines : List NumberedLine) → placed lines ≡ Err f)) (sym is) h
