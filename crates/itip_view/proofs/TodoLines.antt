-- The lines of rows that begin with TODO, piece by piece.
use Rattle.std.proofs.Common.{◌≡◌, ◌+◌, ◌==◌, ℕ, zero, suc, Bool, true, false, cond, List, [], ◌∷◌, ◌++◌, map, length}
use Rattle.std.proofs.Common.{Option, Some, None, inl, inr, true≢false, refl, sym, ap, subst, ◌∙◌, arith, append_assoc, append-nil}
use Rattle.std.proofs.Common.{zero-add, add-zero, add_assoc}
use Rattle.std.specs.Prelude.{codes, IfSome}
use Rattle.std.specs.Fmt.{decimal}
use Rattle.std.specs.List.{flat_map, AllByRecursion}
use Rattle.std.proofs.lemmas.Bool.{ne_eqb, cases_Bool, eq-eqb}
use Rattle.std.proofs.lemmas.Fmt.{decimal_digit, decimal-digits_of}
use Rattle.std.specs.Int.Digits.{digits_of}
use Rattle.itip_moment.specs.Shown.{shown_moment}
use Rattle.itip_moment.specs.declared.moment.Moment.{Moment}
use Rattle.itip_todo.specs.Participation.{partstat_text}
use Rattle.itip_todo.specs.StatusText.{status_text}
use Rattle.itip_todo.specs.declared.attendee.PartStat.{PartStat}
use Rattle.itip_todo.specs.declared.attendee.PartStat.TheVariants as partstat
use Rattle.itip_todo.specs.declared.status.Status.{Status}
use Rattle.itip_todo.specs.declared.status.Status.TheVariants as status
use Rattle.itip_view.specs.ListText.{shown, id_text, attendee_text, names_text, numbers_text, dates_text, summary_text, progress_text}
use Rattle.itip_view.specs.ListText.{row_text, list_text}
use Rattle.itip_view.specs.TodoLines.{todo_lines_from, todo_lines, IsUnbroken, IsSmallNumber, HasUnbrokenAttendee, HasUnbrokenTexts}
use Rattle.itip_view.specs.declared.row.Row.{Row}
use Rattle.itip_view.specs.declared.row.ShownAttendee.{ShownAttendee}

-- A text adds `lines` such lines to those of what follows. The flags say whether it begins and ends at the beginning of a line.
pub record Adds (start : Bool) (text : List ℕ) (lines : ℕ) (end : Bool) : Type 0 where
  pub adds : (rest : List ℕ) → todo_lines_from start (text ++ rest) ≡ lines + todo_lines_from end rest

pub adds_none : (at : Bool) → Adds at [] 0 at
adds_none at = record { adds = λ rest. sym (zero-add (todo_lines_from at rest)) }

pub then_adds : {a b c : Bool} {m n : ℕ} (x y : List ℕ) → Adds a x m b → Adds b y n c → Adds a (x ++ y) (m + n) c
then_adds {a} {b} {c} {m} {n} x y first second = record {
  adds = λ rest. ap (todo_lines_from a) (append_assoc x y rest) ∙ first.adds (y ++ rest) ∙ ap (λ k. m + k) (second.adds rest) ∙
      sym (add_assoc m n (todo_lines_from c rest));
}

-- a text without a line break, in a line
pub unbroken : (text : List ℕ) → IsUnbroken text → Adds false text 0 false
unfolding todo_lines_from
unbroken [] none = adds_none false
unbroken (b ∷ text) none = record {
  adds = λ rest. zero-add (todo_lines_from (b == 10) (text ++ rest)) ∙
      ap (λ at. todo_lines_from at (text ++ rest)) (ne_eqb b 10 none.0) ∙ (unbroken text none.1).adds rest;
}

-- ---- pieces between the texts

todo : Adds true (codes "TODO ") 1 false
unfolding todo_lines_from
todo = record { adds = λ rest. omega arith }

pub line_end : Adds false (codes "\n") 0 true
unfolding todo_lines_from
line_end = record { adds = λ rest. omega arith }

-- a blank begins no such line
pub blank : (text : List ℕ) → IsUnbroken text → Adds true (32 ∷ text) 0 false
unfolding todo_lines_from
blank text none = record { adds = λ rest. zero-add (todo_lines_from false (text ++ rest)) ∙ (unbroken text none).adds rest }

next_line : (text : List ℕ) → IsUnbroken text → Adds false (10 ∷ 32 ∷ text) 0 false
next_line text none = then_adds (codes "\n") (32 ∷ text) line_end (blank text none)

-- ---- texts

pub digits_unbroken : (digits : List ℕ) → IsUnbroken (map (λ d. 48 + d) digits)
digits_unbroken [] = tt
digits_unbroken (d ∷ digits) = (λ e. absurd (omega arith), digits_unbroken digits)

pub number_unbroken : (n : ℕ) → IsSmallNumber n → IsUnbroken (decimal n)
number_unbroken zero small = subst IsUnbroken (sym (decimal_digit 0 (omega arith))) (λ e. absurd (omega arith), tt)
number_unbroken (suc n) small =
    subst IsUnbroken (sym (decimal-digits_of (suc n) (omega arith) small)) (digits_unbroken (digits_of 10 (suc n)))

pub shown_unbroken : {A : Type 0} (text : A → List ℕ) (P : A → Type 0) (x : Option A) → ((a : A) → P a → IsUnbroken (text a)) →
    IfSome x P → IsUnbroken (shown text x)
shown_unbroken text P None each some = (λ e. absurd (omega arith), tt)
shown_unbroken text P (Some x) each some = each x some

-- a text that is written out
abbrev is_unbroken : List ℕ → Bool
is_unbroken [] = true
is_unbroken (b ∷ text) = cond (b == 10) false (is_unbroken text)

pub written_out : (text : List ℕ) → is_unbroken text ≡ true → IsUnbroken text
written_out [] e = tt
written_out (b ∷ text) e = elim (cases_Bool (b == 10)) [
  | inl is ↦ absurd (true≢false (sym (rw is at e)))
  | inr not ↦ (λ same. true≢false (sym (eq-eqb b 10 same) ∙ not), written_out text (rw not at e))
]

status_unbroken : (s : Status) → IsUnbroken (status_text s)
status_unbroken status.NeedsAction = written_out (codes "NEEDS-ACTION") refl
status_unbroken status.Completed = written_out (codes "COMPLETED") refl
status_unbroken status.InProcess = written_out (codes "IN-PROCESS") refl
status_unbroken status.Cancelled = written_out (codes "CANCELLED") refl

partstat_unbroken : (s : PartStat) → IsUnbroken (partstat_text s)
partstat_unbroken partstat.NeedsAction = written_out (codes "NEEDS-ACTION") refl
partstat_unbroken partstat.Accepted = written_out (codes "ACCEPTED") refl
partstat_unbroken partstat.Declined = written_out (codes "DECLINED") refl
partstat_unbroken partstat.Tentative = written_out (codes "TENTATIVE") refl
partstat_unbroken partstat.Delegated = written_out (codes "DELEGATED") refl
partstat_unbroken partstat.Completed = written_out (codes "COMPLETED") refl
partstat_unbroken partstat.InProcess = written_out (codes "IN-PROCESS") refl

status_shown : (s : Option Status) → IsUnbroken (shown status_text s)
status_shown None = (λ e. absurd (omega arith), tt)
status_shown (Some s) = status_unbroken s

number_shown : (n : Option ℕ) → IfSome n IsSmallNumber → IsUnbroken (shown decimal n)
number_shown n small = shown_unbroken decimal IsSmallNumber n number_unbroken small

-- ---- rows

module _ (row : Row) (has : HasUnbrokenTexts row) where
  names : Adds true (names_text row) 1 false
  names =
      then_adds (codes "TODO ") (row.uid ++ (codes "\n  ID " ++ id_text row.id)) todo
      (then_adds row.uid (codes "\n  ID " ++ id_text row.id) (unbroken row.uid has.uid)
      (then_adds (codes "\n  ID ") (id_text row.id) (next_line (codes " ID ") (written_out (codes " ID ") refl))
      (unbroken (id_text row.id) has.id)))

  numbers : Adds false (numbers_text row) 0 false
  numbers =
      then_adds (codes "\n  SEQ ") _ (next_line (codes " SEQ ") (written_out (codes " SEQ ") refl))
      (then_adds (decimal row.seq) _ (unbroken (decimal row.seq) (number_unbroken row.seq has.seq))
      (then_adds (codes " STATUS ") _ (unbroken (codes " STATUS ") (written_out (codes " STATUS ") refl))
      (then_adds (shown status_text row.status) _ (unbroken (shown status_text row.status) (status_shown row.status))
      (then_adds (codes " PERCENT ") _ (unbroken (codes " PERCENT ") (written_out (codes " PERCENT ") refl))
      (then_adds (shown decimal row.percent) _ (unbroken (shown decimal row.percent) (number_shown row.percent has.percent))
      (then_adds (codes " PRIORITY ") _ (unbroken (codes " PRIORITY ") (written_out (codes " PRIORITY ") refl))
      (unbroken (shown decimal row.priority) (number_shown row.priority has.priority))))))))

  dates : Adds false (dates_text row) 0 false
  dates =
      then_adds (codes "\n  START ") _ (next_line (codes " START ") (written_out (codes " START ") refl))
      (then_adds (shown shown_moment row.start) _
      (unbroken (shown shown_moment row.start)
      (shown_unbroken shown_moment (λ (m : Moment). IsUnbroken (shown_moment m)) row.start (λ m is. is) has.start))
      (then_adds (codes " DUE ") _ (unbroken (codes " DUE ") (written_out (codes " DUE ") refl))
      (unbroken (shown shown_moment row.due)
      (shown_unbroken shown_moment (λ (m : Moment). IsUnbroken (shown_moment m)) row.due (λ m is. is) has.due))))

  summary : Adds false (summary_text row) 0 true
  summary =
      then_adds (codes "\n  SUMMARY ") _ (next_line (codes " SUMMARY ") (written_out (codes " SUMMARY ") refl))
      (then_adds (shown (λ text. text) row.summary) (codes "\n")
      (unbroken (shown (λ text. text) row.summary) (shown_unbroken (λ text. text) IsUnbroken row.summary (λ text is. is) has.summary))
      line_end)

  progress : Adds true (progress_text row) 0 true
  progress =
      then_adds (codes "  PROGRESS ") _ (blank (codes " PROGRESS ") (written_out (codes " PROGRESS ") refl))
      (then_adds (shown decimal row.progress) (codes "\n")
      (unbroken (shown decimal row.progress) (number_shown row.progress has.progress)) line_end)

who : (attendee : ShownAttendee) → HasUnbrokenAttendee attendee → Adds true (attendee_text attendee) 0 true
who attendee has =
    then_adds (codes "  ATTENDEE ") _ (blank (codes " ATTENDEE ") (written_out (codes " ATTENDEE ") refl))
    (then_adds attendee.address _ (unbroken attendee.address has.address)
    (then_adds (codes " ") _ (unbroken (codes " ") (written_out (codes " ") refl))
    (then_adds (partstat_text attendee.partstat) _
    (unbroken (partstat_text attendee.partstat) (partstat_unbroken attendee.partstat))
    (then_adds (codes " ") _ (unbroken (codes " ") (written_out (codes " ") refl))
    (then_adds (shown decimal attendee.percent) (codes "\n")
    (unbroken (shown decimal attendee.percent) (number_shown attendee.percent has.percent)) line_end)))))

all_who : (attendees : List ShownAttendee) → AllByRecursion HasUnbrokenAttendee attendees →
    Adds true (flat_map attendee_text attendees) 0 true
all_who [] has = adds_none true
all_who (attendee ∷ attendees) has =
    then_adds (attendee_text attendee) (flat_map attendee_text attendees) (who attendee has.0) (all_who attendees has.1)

one_row : (row : Row) → HasUnbrokenTexts row → Adds true (row_text row) 1 true
one_row row has =
    then_adds (names_text row) _ (names row has)
    (then_adds (numbers_text row) _ (numbers row has)
    (then_adds (dates_text row) _ (dates row has)
    (then_adds (summary_text row) _ (summary row has)
    (then_adds (flat_map attendee_text row.attendees) (progress_text row) (all_who row.attendees has.attendees) (progress row has)))))

pub rows_add : (rows : List Row) → AllByRecursion HasUnbrokenTexts rows → Adds true (list_text rows) (length rows) true
rows_add [] has = adds_none true
rows_add (row ∷ rows) has = record {
  adds = λ rest. (then_adds (row_text row) (list_text rows) (one_row row has.0) (rows_add rows has.1)).adds rest ∙
      ap (λ n. n + todo_lines_from true rest) (omega arith);
}

pub lines_of_rows : (rows : List Row) → AllByRecursion HasUnbrokenTexts rows → todo_lines (list_text rows) ≡ length rows
unfolding todo_lines_from
lines_of_rows rows has =
    ap todo_lines (sym (append-nil (list_text rows))) ∙ (rows_add rows has).adds [] ∙ add-zero (length rows)
