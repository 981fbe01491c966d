-- Lines that are looked for from the first to the last.
use Rattle.std.proofs.Common.{◌≡◌, ap, refl, ℕ, Bool, true, false, cond, List, [], ◌∷◌, Option, Some, None}
use Rattle.std.specs.List.{filter}
use Rattle.itip_lines.specs.declared.line.NumberedLine.{NumberedLine}
use Rattle.itip_todo.specs.declared.property_name.PropertyName.{PropertyName}
use Rattle.itip_message.specs.CauseLines.{is_named, is_recurring, first_line, second_line}

pub named_other : (p : PropertyName) (line : NumberedLine) (lines : List NumberedLine) → is_named p line ≡ false →
    first_line (filter (is_named p) (line ∷ lines)) ≡ first_line (filter (is_named p) lines)
named_other p line lines e = ap (λ (b : Bool). first_line (cond b (line ∷ filter (is_named p) lines) (filter (is_named p) lines))) e

pub named_here : (p : PropertyName) (line : NumberedLine) (lines : List NumberedLine) → is_named p line ≡ true →
    first_line (filter (is_named p) (line ∷ lines)) ≡ Some line.number
named_here p line lines e = ap (λ (b : Bool). first_line (cond b (line ∷ filter (is_named p) lines) (filter (is_named p) lines))) e

pub recurring_other : (line : NumberedLine) (lines : List NumberedLine) → is_recurring line ≡ false →
    first_line (filter is_recurring (line ∷ lines)) ≡ first_line (filter is_recurring lines)
recurring_other line lines e = ap (λ (b : Bool). first_line (cond b (line ∷ filter is_recurring lines) (filter is_recurring lines))) e

pub recurring_here : (line : NumberedLine) (lines : List NumberedLine) → is_recurring line ≡ true →
    first_line (filter is_recurring (line ∷ lines)) ≡ Some line.number
recurring_here line lines e = ap (λ (b : Bool). first_line (cond b (line ∷ filter is_recurring lines) (filter is_recurring lines))) e

-- the second line of these, where one of them may have come before
abbrev pub second_after : Bool → List NumberedLine → Option ℕ
second_after true lines = first_line lines
second_after false lines = second_line lines

pub second_other : (found : Bool) (p : PropertyName) (line : NumberedLine) (lines : List NumberedLine) → is_named p line ≡ false →
    second_after found (filter (is_named p) (line ∷ lines)) ≡ second_after found (filter (is_named p) lines)
second_other found p line lines e =
    ap (λ (b : Bool). second_after found (cond b (line ∷ filter (is_named p) lines) (filter (is_named p) lines))) e

pub second_first : (p : PropertyName) (line : NumberedLine) (lines : List NumberedLine) → is_named p line ≡ true →
    second_after false (filter (is_named p) (line ∷ lines)) ≡ second_after true (filter (is_named p) lines)
second_first p line lines e =
    ap (λ (b : Bool). second_after false (cond b (line ∷ filter (is_named p) lines) (filter (is_named p) lines))) e

pub second_here : (p : PropertyName) (line : NumberedLine) (lines : List NumberedLine) → is_named p line ≡ true →
    second_after true (filter (is_named p) (line ∷ lines)) ≡ Some line.number
second_here p line lines e = ap (λ (b : Bool). second_after true (cond b (line ∷ filter (is_named p) lines) (filter (is_named p) lines))) e

pub second_none : (found : Bool) → second_after found [] ≡ None
second_none true = refl
second_none false = refl
