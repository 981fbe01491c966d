-- One more line after good ones.
use Rattle.std.proofs.Common.{◌≡◌, true, false, cond, ℕ, ◌+◌, ◌<◌, List, [], ◌∷◌, ◌++◌, length, take, drop, get_or, refl, sym, ap, subst}
use Rattle.std.proofs.Common.{◌∙◌, inl, inr, append_assoc, append-nil, take-append-drop}
use Rattle.std.proofs.lemmas.List.{take_more}
use Rattle.std.proofs.lemmas.List.Elements.{filter-append}
use Rattle.itip_lines.specs.declared.line.Line.{Line}
use Rattle.itip_lines.specs.Reading.{plain_lines}
use Rattle.itip_lines.specs.declared.line.NumberedLine.{NumberedLine}
use Rattle.itip_todo.specs.Causes.{IfCause}
use Rattle.itip_todo.specs.Reading.{AreGood, IsGood, HasRefusal, FirstRefusal, IfRefused, lines_of}
use Rattle.itip_todo.specs.Drafts.{Holds, IsDraftOf, more}
use Rattle.itip_todo.specs.Table.{is_same, property_of}
use Rattle.itip_todo.specs.declared.draft.Draft.{Draft}
use Rattle.itip_todo.specs.declared.property_name.PropertyName.{PropertyName}
use Rattle.itip_todo.specs.declared.error.TodoError.{TodoError}
use Rattle.itip_todo.specs.declared.error.TodoError.TheVariants as error
use Rattle.itip_todo.specs.declared.error.CauseError.{CauseError}
use Rattle.itip_todo.specs.declared.error.CauseError.TheVariants as cause_error
use Rattle.itip_todo.specs.declared.error.TodoCause.{TodoCause}
use Rattle.itip_todo.specs.declared.error.TodoRefusal.{TodoRefusal}

pub are_good_more : (above lines : List Line) (line : Line) → AreGood above lines → IsGood (above ++ lines) line →
    AreGood above (lines ++ line ∷ [])
are_good_more above [] line good is = (subst (λ (ls : List Line). IsGood ls line) (append-nil above) is, tt)
are_good_more above (l ∷ lines) line (first, good) is = (
  first,
  are_good_more (above ++ l ∷ []) lines line good
      (subst (λ (ls : List Line). IsGood ls line) (sym (append_assoc above (l ∷ []) lines)) is),
)

pub first_refusal_at : (above : List Line) (front : List NumberedLine) (l : NumberedLine) (rest : List NumberedLine) (r : TodoRefusal) →
    AreGood above (plain_lines front) → HasRefusal (above ++ plain_lines front) l r → FirstRefusal above (front ++ l ∷ rest) r
first_refusal_at above [] l rest r good has = inl (subst (λ (ls : List Line). HasRefusal ls l r) (append-nil above) has)
first_refusal_at above (k ∷ front) l rest r (first, good) has =
    inr (
      first,
      first_refusal_at (above ++ k.line ∷ []) front l rest r good
          (subst (λ (ls : List Line). HasRefusal ls l r) (sym (append_assoc above (k.line ∷ []) (plain_lines front))) has),
    )

-- the lines are those before one, that one, and the others
pub parted : {X : Type 0} (lines : List X) (i : ℕ) (line : X) → i < length lines → line ≡ get_or lines i line → lines ≡ take i lines ++
    line ∷ drop (i + 1) lines
parted lines i line lt is =
    sym (take-append-drop (i + 1) lines) ∙ ap (λ front. front ++ drop (i + 1) lines) (take_more lines i line lt ∙
    ap (λ l. take i lines ++ l ∷ []) (sym is))
    ∙ append_assoc (take i lines) (line ∷ []) (drop (i + 1) lines)

-- what holds of a cause or of a refusal, in other words
pub IfCause-weaker : (e : CauseError) (P Q : TodoCause → Type 0) → ((f : TodoCause) → P f → Q f) → IfCause e P → IfCause e Q
IfCause-weaker cause_error.NoMemory P Q more h = tt
IfCause-weaker (cause_error.Cause f) P Q more h = more f h

pub IfRefused-weaker : (e : TodoError) (P Q : TodoRefusal → Type 0) → ((r : TodoRefusal) → P r → Q r) → IfRefused e P → IfRefused e Q
IfRefused-weaker error.NoMemory P Q more h = tt
IfRefused-weaker (error.Refused r) P Q more h = more r h

-- the lines of each property, with one more
pub lines_more : (above : List Line) (line : Line) (p : PropertyName) →
    more (lines_of above) (property_of line) line p ≡ lines_of (above ++ line ∷ []) p
lines_more above line p =
    (elim (is_same (property_of line) p) as (λ b. cond b (lines_of above p ++ line ∷ []) (lines_of above p) ≡ lines_of above p ++
    cond b (line ∷ []) []) [
      | true ↦ refl
      | false ↦ sym (append-nil (lines_of above p))
    ]) ∙ sym (filter-append (λ (l : Line). is_same (property_of l) p) above (line ∷ []))

pub draft_more : (above : List Line) (line : Line) (d : Draft) → IsDraftOf (more (lines_of above) (property_of line) line) d →
    IsDraftOf (lines_of (above ++ line ∷ [])) d
draft_more above line d is p = subst (λ (ls : List Line). Holds d p ls) (lines_more above line p) (is p)
