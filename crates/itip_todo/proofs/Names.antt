-- A property that is told apart by name is spelled by that name.
use Rattle.std.proofs.Common.{◌≡◌, ℕ, ◌==◌, Bool, true, false, cond, ◌&&◌, List, [], ◌∷◌, refl, sym, ap, ◌∙◌, ◌<◌, arith, Some}
use Rattle.std.specs.Prelude.{codes}
use Rattle.std.proofs.lemmas.Bool.{eqb-true}
use Rattle.std.specs.List.{AllByRecursion, list_any}
use Rattle.itip_lines.specs.declared.line.Line.{Line}
use Rattle.itip_todo.specs.Participation.{same_text}
use Rattle.itip_todo.specs.Reading.{lines_of, first_of}
use Rattle.itip_todo.specs.Table.{property_named, name_text, place_of, is_same, property_of, IsSpelled}
use Rattle.itip_todo.specs.declared.property_name.PropertyName.{PropertyName}
use Rattle.itip_todo.specs.declared.property_name.PropertyName.TheVariants as name

both : (a b : Bool) → (a && b) ≡ true → (a ≡ true) × (b ≡ true)
both true b e = (refl, e)
both false b e = cc

pub text_is : (a b : List ℕ) → same_text a b ≡ true → a ≡ b
text_is [] [] e = refl
text_is [] (y ∷ ys) e = cc
text_is (x ∷ xs) [] e = cc
text_is (x ∷ xs) (y ∷ ys) e = let parts = both (x == y) (same_text xs ys) e in λ i. eqb-true x y parts.0 i ∷ text_is xs ys parts.1 i

spelled_next : (text : List ℕ) (b : Bool) (p rest : PropertyName) → (b ≡ true → text ≡ name_text p) → IsSpelled rest text →
    IsSpelled (cond b p rest) text
spelled_next text true p rest here later = λ _. here refl
spelled_next text false p rest here later = later

pub spelled : (text : List ℕ) → IsSpelled (property_named text) text
spelled text =
    spelled_next text (same_text text (codes "UID")) name.Uid _ (text_is text (codes "UID"))
    (spelled_next text (same_text text (codes "DTSTAMP")) name.DtStamp _ (text_is text (codes "DTSTAMP"))
    (spelled_next text (same_text text (codes "SEQUENCE")) name.Sequence _ (text_is text (codes "SEQUENCE"))
    (spelled_next text (same_text text (codes "X-DESK-BASE")) name.DeskBase _ (text_is text (codes "X-DESK-BASE"))
    (spelled_next text (same_text text (codes "RECURRENCE-ID")) name.RecurrenceId _ (text_is text (codes "RECURRENCE-ID"))
    (spelled_next text (same_text text (codes "DTSTART")) name.DtStart _ (text_is text (codes "DTSTART"))
    (spelled_next text (same_text text (codes "DUE")) name.Due _ (text_is text (codes "DUE"))
    (spelled_next text (same_text text (codes "STATUS")) name.Status _ (text_is text (codes "STATUS"))
    (spelled_next text (same_text text (codes "PERCENT-COMPLETE")) name.PercentComplete _ (text_is text (codes "PERCENT-COMPLETE"))
    (spelled_next text (same_text text (codes "PRIORITY")) name.Priority _ (text_is text (codes "PRIORITY"))
    (spelled_next text (same_text text (codes "SUMMARY")) name.Summary _ (text_is text (codes "SUMMARY"))
    (spelled_next text (same_text text (codes "ORGANIZER")) name.Organizer _ (text_is text (codes "ORGANIZER"))
    (spelled_next text (same_text text (codes "ATTENDEE")) name.Attendee _ (text_is text (codes "ATTENDEE"))
    (spelled_next text (same_text text (codes "RRULE")) name.RRule _ (text_is text (codes "RRULE"))
    (spelled_next text (same_text text (codes "RDATE")) name.RDate _ (text_is text (codes "RDATE"))
    (spelled_next text (same_text text (codes "EXDATE")) name.ExDate _ (text_is text (codes "EXDATE"))
    (λ few. absurd (omega (arith, few))))))))))))))))))

pub place_is : (p q : PropertyName) → is_same p q ≡ true → place_of p ≡ place_of q
place_is p q e = eqb-true (place_of p) (place_of q) e

-- a property is known by its place
at_place : ℕ → PropertyName
at_place n =
    cond (n == 0) name.Uid
    (cond (n == 1) name.DtStamp
    (cond (n == 2) name.Sequence
    (cond (n == 3) name.DeskBase
    (cond (n == 4) name.RecurrenceId
    (cond (n == 5) name.DtStart
    (cond (n == 6) name.Due
    (cond (n == 7) name.Status
    (cond (n == 8) name.PercentComplete
    (cond (n == 9) name.Priority
    (cond (n == 10) name.Summary
    (cond (n == 11) name.Organizer
    (cond (n == 12) name.Attendee
    (cond (n == 13) name.RRule
    (cond (n == 14) name.RDate
    (cond (n == 15) name.ExDate name.Others)))))))))))))))

placed : (p : PropertyName) → at_place (place_of p) ≡ p
unfolding at_place
placed name.Uid = refl
placed name.DtStamp = refl
placed name.Sequence = refl
placed name.DeskBase = refl
placed name.RecurrenceId = refl
placed name.DtStart = refl
placed name.Due = refl
placed name.Status = refl
placed name.PercentComplete = refl
placed name.Priority = refl
placed name.Summary = refl
placed name.Organizer = refl
placed name.Attendee = refl
placed name.RRule = refl
placed name.RDate = refl
placed name.ExDate = refl
placed name.Others = refl

pub same_is : (p q : PropertyName) → is_same p q ≡ true → p ≡ q
same_is p q e = sym (placed p) ∙ ap at_place (place_is p q e) ∙ placed q

-- the lines of a property are of it
pub all_named : (lines : List Line) (p : PropertyName) → AllByRecursion (λ (l : Line). property_of l ≡ p) (lines_of lines p)
all_named [] p = tt
all_named (l ∷ lines) p =
    elim (is_same (property_of l) p) as (λ b. is_same (property_of l) p ≡ b →
    AllByRecursion (λ (m : Line). property_of m ≡ p) (cond b (l ∷ lines_of lines p) (lines_of lines p))) [
      | true ↦ λ yes. (same_is (property_of l) p yes, all_named lines p)
      | false ↦ λ _. all_named lines p
    ] refl

pub first_named_is : (lines : List Line) (p : PropertyName) (line : Line) → first_of (lines_of lines p) ≡ Some line → property_of line ≡ p
first_named_is lines p line e = first (lines_of lines p) (all_named lines p) e
  where
    first : (ls : List Line) → AllByRecursion (λ (l : Line). property_of l ≡ p) ls → first_of ls ≡ Some line → property_of line ≡ p
    first [] h e = absurd cc
    first (l ∷ ls) h e = let same : l ≡ line = cc in ap property_of (sym same) ∙ h.0

-- a line of a property that is told apart by name has its name
pub has_name : (line : Line) (p : PropertyName) → property_of line ≡ p → place_of p < 16 → line.name ≡ name_text p
unfolding property_of
has_name line p e few =
    elim (is_same (property_named line.name) name.RDate && list_any (λ c. c == 47) line.value) as
    (λ b. cond b name.Others (property_named line.name) ≡ p → line.name ≡ name_text p) [
      | true ↦ λ other. absurd (let at : 16 ≡ place_of p = ap place_of other in omega arith)
      | false ↦ λ is. spelled line.name (let at : place_of (property_named line.name) ≡ place_of p = ap place_of is in omega arith) ∙
          ap name_text is
    ] e
