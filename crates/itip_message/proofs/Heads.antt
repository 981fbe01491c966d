-- The one line of a name, found from the first to the last; and what the number of to-dos says of a head.
use Rattle.std.proofs.Common.{◌≡◌, ◌∙◌, sym, ap, refl, ℕ, Bool, true, false, cond, List, [], ◌∷◌, Option, Some, None, Err}
use Rattle.std.specs.Prelude.{Result, codes}
use Rattle.itip_lines.specs.declared.line.NumberedLine.{NumberedLine}
use Rattle.itip_todo.specs.Participation.{same_text}
use Rattle.itip_items.specs.declared.kind.Method.{Method}
use Rattle.itip_items.specs.declared.kind.Method.TheVariants as methods
use Rattle.itip_message.specs.Drafts.{draft_head_of}
use Rattle.itip_message.specs.Head.{only_value, odd_line, named, is_version, method_in, counted, head_of}
use Rattle.itip_message.specs.Refusals.{IfRefused, at_line}
use Rattle.itip_message.specs.declared.error.MessageCause.TheVariants as causes
use Rattle.itip_message.specs.declared.error.MessageRefusal.{MessageRefusal}
use Rattle.itip_message.specs.declared.error.ReadError.{ReadError}
use Rattle.itip_message.specs.declared.error.ReadError.TheVariants as error
use Rattle.itip_message.specs.declared.sort.Component.{Component}

-- the only value, where this one was found before
abbrev pub completes : Option (List ℕ) → List NumberedLine → Option (List ℕ)
completes None lines = only_value lines
completes (Some value) [] = Some value
completes (Some value) (line ∷ lines) = None

pub completes_first : (line : NumberedLine) (lines : List NumberedLine) → completes (Some line.line.value) lines ≡ only_value (line ∷ lines)
completes_first line [] = refl
completes_first line (other ∷ lines) = refl

-- a line of another name
pub step_other : (found : Option (List ℕ)) (name : List ℕ) (line : NumberedLine) (lines : List NumberedLine) →
    same_text line.line.name name ≡ false → completes found (named name (line ∷ lines)) ≡ completes found (named name lines)
step_other found name line lines e = ap (λ (b : Bool). completes found (cond b (line ∷ named name lines) (named name lines))) e

-- the first line of the name
pub step_first : (name : List ℕ) (line : NumberedLine) (lines : List NumberedLine) → same_text line.line.name name ≡ true →
    completes (Some line.line.value) (named name lines) ≡ completes None (named name (line ∷ lines))
step_first name line lines e = completes_first line (named name lines) ∙
    sym (ap (λ (b : Bool). only_value (cond b (line ∷ named name lines) (named name lines))) e)

-- another line of the name
pub step_again : (value name : List ℕ) (line : NumberedLine) (lines : List NumberedLine) → same_text line.line.name name ≡ true →
    completes (Some value) (named name (line ∷ lines)) ≡ None
step_again value name line lines e = ap (λ (b : Bool). completes (Some value) (cond b (line ∷ named name lines) (named name lines))) e

-- the odd line, where this one was found before
abbrev pub odd_after : Option ℕ → List NumberedLine → Option ℕ
odd_after None lines = odd_line lines
odd_after (Some number) [] = Some number
odd_after (Some number) (line ∷ lines) = Some line.number

pub odd_after_first : (line : NumberedLine) (lines : List NumberedLine) → odd_after (Some line.number) lines ≡ odd_line (line ∷ lines)
odd_after_first line [] = refl
odd_after_first line (other ∷ lines) = refl

pub odd_other : (found : Option ℕ) (name : List ℕ) (line : NumberedLine) (lines : List NumberedLine) →
    same_text line.line.name name ≡ false → odd_after found (named name (line ∷ lines)) ≡ odd_after found (named name lines)
odd_other found name line lines e = ap (λ (b : Bool). odd_after found (cond b (line ∷ named name lines) (named name lines))) e

pub odd_first : (name : List ℕ) (line : NumberedLine) (lines : List NumberedLine) → same_text line.line.name name ≡ true →
    odd_after (Some line.number) (named name lines) ≡ odd_after None (named name (line ∷ lines))
odd_first name line lines e = odd_after_first line (named name lines) ∙
    sym (ap (λ (b : Bool). odd_line (cond b (line ∷ named name lines) (named name lines))) e)

pub odd_again : (found : ℕ) (name : List ℕ) (line : NumberedLine) (lines : List NumberedLine) → same_text line.line.name name ≡ true →
    odd_after (Some found) (named name (line ∷ lines)) ≡ Some line.number
odd_again found name line lines e = ap (λ (b : Bool). odd_after (Some found) (cond b (line ∷ named name lines) (named name lines))) e

-- where VERSION is right and METHOD is one that is read, the number of to-dos decides
pub head_counted : (calendar : List NumberedLine) (components : List Component) (m : Method) (r : Result Method MessageRefusal) →
    is_version (only_value (named (codes "VERSION") calendar)) ≡ true → method_in (only_value (named (codes "METHOD") calendar)) ≡ Some m →
    counted components (odd_line (named (codes "METHOD") calendar)) (Some m) ≡ r → head_of calendar components ≡ r
head_counted calendar components m r version method h =
    let line : Option ℕ = odd_line (named (codes "METHOD") calendar) in
    ap (λ (b : Bool). cond b (counted components line (method_in (only_value (named (codes "METHOD") calendar))))
    (Err (at_line causes.Version (odd_line (named (codes "VERSION") calendar))))) version
    ∙ ap (λ (o : Option Method). counted components line o) method ∙ h

-- what a wrong number of to-dos says of them, whatever the method is
abbrev pub Miscounts : List Component → MessageRefusal → Type 0
Miscounts components f = (line : Option ℕ) (m : Method) → counted components line (Some m) ≡ Err f

pub head_miscounted : (e : ReadError) (calendar : List NumberedLine) (components : List Component) (m : Method) →
    is_version (only_value (named (codes "VERSION") calendar)) ≡ true → method_in (only_value (named (codes "METHOD") calendar)) ≡ Some m →
    IfRefused e (Miscounts components) → IfRefused e (λ f. head_of calendar components ≡ Err f)
head_miscounted error.NoMemory calendar components m version method h = tt
head_miscounted (error.Refused f) calendar components m version method h =
    head_counted calendar components m (Err f) version method (h (odd_line (named (codes "METHOD") calendar)) m)

-- of a draft VERSION and the number of to-dos decide
pub draft_counted : (calendar : List NumberedLine) (components : List Component) (r : Result Method MessageRefusal) →
    is_version (only_value (named (codes "VERSION") calendar)) ≡ true → counted components None (Some methods.Request) ≡ r →
    draft_head_of calendar components ≡ r
draft_counted calendar components r version h =
    ap (λ (b : Bool). cond b (counted components None (Some methods.Request))
    (Err (at_line causes.Version (odd_line (named (codes "VERSION") calendar))))) version ∙ h

pub draft_miscounted : (e : ReadError) (calendar : List NumberedLine) (components : List Component) →
    is_version (only_value (named (codes "VERSION") calendar)) ≡ true → IfRefused e (Miscounts components) →
    IfRefused e (λ f. draft_head_of calendar components ≡ Err f)
draft_miscounted error.NoMemory calendar components version h = tt
draft_miscounted (error.Refused f) calendar components version h =
    draft_counted calendar components (Err f) version (h None methods.Request)
