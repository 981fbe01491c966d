-- The lines of a to-do without SEQUENCE are read as a to-do whose sequence is 0.
use Rattle.std.proofs.Common.{◌≡◌, ◌∙◌, sym, ap, refl, Bool, true, false, cond, ◌&&◌, List, [], ◌∷◌, ◌++◌, length, map, subst, Some}
use Rattle.std.specs.Prelude.{nat_le}
use Rattle.std.specs.Fmt.{decimal}
use Rattle.std.specs.Option.{is_some}
use Rattle.std.specs.List.{list_any}
use Rattle.std.proofs.lemmas.List.Elements.{filter-append}
use Rattle.itip_lines.specs.declared.line.Line.{Line}
use Rattle.itip_moment.specs.Written.{stamp_text}
use Rattle.itip_todo.specs.Lawful.{IsLawful}
use Rattle.itip_todo.specs.Participation.{same_text}
use Rattle.itip_todo.specs.Parts.{Parts}
use Rattle.itip_todo.specs.PartsOf.{parts_of}
use Rattle.itip_todo.specs.Reading.{ReadsTodo, AreGood, IsGood, IsOptional, IsOrNought, IsUidOf, IsStampOf, IsSequenceOf, IsPercentOf}
use Rattle.itip_todo.specs.Reading.{IsPriorityOf, IsMomentOf, IsStatusOf, IsPropertyOf, IsOrganizerOf, AreMomentsOf}
use Rattle.itip_todo.specs.Reading.{lines_of, first_of, range_of, key_of, whole_property, value_of}
use Rattle.itip_todo.specs.Table.{property_of, is_same, stands_once, attendee_limit, name_text}
use Rattle.itip_todo.specs.Written.{Content, content_of, plain, parts_contents}
use Rattle.itip_todo.specs.declared.property_name.PropertyName.{PropertyName}
use Rattle.itip_todo.specs.declared.property_name.PropertyName.TheVariants as name
use Rattle.itip_todo.specs.declared.todo.Todo.{Todo}
use Rattle.itip_todo.proofs.ByProperty.{lines_named}
use Rattle.itip_todo.proofs.Names.{same_is}
use Rattle.itip_todo.proofs.Segments.{base_on}
use Rattle.itip_todo.proofs.WritingLaws.{read_again}
use Rattle.itip_writing.proofs.Framing.{first_two}

-- ---- lines that are the same apart from those of SEQUENCE

abbrev SameBut : List Line → List Line → Type 0
SameBut less whole = (r : PropertyName) → is_same r name.Sequence ≡ false → lines_of less r ≡ lines_of whole r

same_more : (less whole : List Line) (l : Line) → SameBut less whole → SameBut (less ++ l ∷ []) (whole ++ l ∷ [])
same_more less whole l same r other =
    filter-append (λ (k : Line). is_same (property_of k) r) less (l ∷ [])
    ∙ ap (λ (ls : List Line). ls ++ lines_of (l ∷ []) r) (same r other)
    ∙ sym (filter-append (λ (k : Line). is_same (property_of k) r) whole (l ∷ []))

good_line : (less whole : List Line) (l : Line) → SameBut less whole → is_same (property_of l) name.Sequence ≡ false → IsGood whole l →
    IsGood less l
good_line less whole l same other h = record {
  once = ap (λ (ls : List Line). stands_once (property_of l) && is_some (first_of ls)) (same (property_of l) other) ∙ h.once;
  range = h.range;
  value = h.value;
  few = ap (λ (ls : List Line). is_same (property_of l) name.Attendee && nat_le attendee_limit (length ls)) (same name.Attendee refl) ∙
      h.few;
  new = ap (λ (ls : List Line). is_same (property_of l) name.Attendee && list_any (same_text (key_of l)) (map key_of ls))
      (same name.Attendee refl) ∙ h.new;
}

not_first : (b : Bool) (l : Line) (ls : List Line) → cond b (l ∷ ls) ls ≡ [] → (b ≡ false) × (ls ≡ [])
not_first true l ls e = absurd cc
not_first false l ls e = (refl, e)

good_less : (less whole lines : List Line) → SameBut less whole → lines_of lines name.Sequence ≡ [] → AreGood whole lines →
    AreGood less lines
good_less less whole [] same none h = tt
good_less less whole (l ∷ lines) same none h =
    let two = not_first (is_same (property_of l) name.Sequence) l (lines_of lines name.Sequence) none in (
      good_line less whole l same two.0 h.0,
      good_less (less ++ l ∷ []) (whole ++ l ∷ []) lines (same_more less whole l same) two.1 h.1,
    )

-- ---- a SEQUENCE line after the first two lines

-- the test for the same property is symmetric if one of the two is SEQUENCE
other_way : (r : PropertyName) → is_same r name.Sequence ≡ false → is_same name.Sequence r ≡ false
other_way r h = elim (is_same name.Sequence r) as (λ b. is_same name.Sequence r ≡ b → b ≡ false) [
  | true ↦ λ e.
      let not : true ≡ false =
      subst (λ (q : PropertyName). is_same q name.Sequence ≡ false) (sym (same_is name.Sequence r e)) h in
      absurd cc
  | false ↦ λ _. refl
] refl

module _ (a b s : Line) (rest : List Line) (is : property_of s ≡ name.Sequence) where
  -- the lines of a property if these follow the first two
  abbrev behind_two : PropertyName → List Line → List Line
  behind_two r ls =
      cond (is_same (property_of a) r) (a ∷ cond (is_same (property_of b) r) (b ∷ ls) ls) (cond (is_same (property_of b) r) (b ∷ ls) ls)

  without : (r : PropertyName) → is_same r name.Sequence ≡ false → lines_of (s ∷ rest) r ≡ lines_of rest r
  without r other =
      ap (λ (x : Bool). cond x (s ∷ lines_of rest r) (lines_of rest r))
      (ap (λ (p : PropertyName). is_same p r) is ∙ other_way r other)

  same_but : SameBut (a ∷ (b ∷ rest)) (a ∷ (b ∷ (s ∷ rest)))
  same_but r other = ap (behind_two r) (sym (without r other))

  with_sequence : lines_of (a ∷ (b ∷ (s ∷ rest))) name.Sequence ≡ behind_two name.Sequence (s ∷ lines_of rest name.Sequence)
  with_sequence = ap (λ (p : PropertyName). behind_two name.Sequence
      (cond (is_same p name.Sequence) (s ∷ lines_of rest name.Sequence) (lines_of rest name.Sequence))) is

-- if one of the lines is of SEQUENCE and is the only one, none is left without it
only_one : (x y : Bool) (a b s : Line) (ls : List Line) (c : Content) →
    map content_of (cond x (a ∷ cond y (b ∷ (s ∷ ls)) (s ∷ ls)) (cond y (b ∷ (s ∷ ls)) (s ∷ ls))) ≡ c ∷ [] →
    (cond x (a ∷ cond y (b ∷ ls) ls) (cond y (b ∷ ls) ls) ≡ []) × (ls ≡ [])
only_one true true a b s ls c e = absurd cc
only_one true false a b s ls c e = absurd cc
only_one false true a b s ls c e = absurd cc
only_one false false a b s [] c e = (refl, refl)
only_one false false a b s (l ∷ ls) c e = absurd cc

-- ---- the lines of a to-do

abbrev pub unnumbered_lines : Parts → List Content
unnumbered_lines p = plain name.Uid p.uid ∷ (plain name.DtStamp (stamp_text p.stamp) ∷ base_on p)

-- its SEQUENCE line
abbrev sequence_line : Todo → Line
sequence_line todo = record {
  name = name_text name.Sequence;
  params = [];
  value = decimal todo.seq;
  lawful = todo.lawful.lines.1.1.0;
}

is_sequence : (todo : Todo) → property_of (sequence_line todo) ≡ name.Sequence
unfolding property_of
is_sequence todo = refl

with_line : (a b : Line) (rest : List Line) (todo : Todo) → map content_of (a ∷ (b ∷ rest)) ≡ unnumbered_lines (parts_of todo) →
    map content_of (a ∷ (b ∷ (sequence_line todo ∷ rest))) ≡ parts_contents (parts_of todo)
with_line a b rest todo e =
    let one = first_two (content_of a) (plain name.Uid todo.uid) (map content_of (b ∷ rest))
    (plain name.DtStamp (stamp_text todo.stamp) ∷ base_on (parts_of todo)) e in
    let two = first_two (content_of b) (plain name.DtStamp (stamp_text todo.stamp)) (map content_of rest) (base_on (parts_of todo)) one.1
    in
    λ i. one.0 i ∷ (two.0 i ∷ (content_of (sequence_line todo) ∷ two.1 i))

module _ (a b : Line) (rest : List Line) (todo : Todo) (nought : todo.seq ≡ 0)
    (again : ReadsTodo (a ∷ (b ∷ (sequence_line todo ∷ rest))) todo)
    (only : (lines_of (a ∷ (b ∷ rest)) name.Sequence ≡ []) × (lines_of rest name.Sequence ≡ [])) where
  moved : (r : PropertyName) → is_same r name.Sequence ≡ false → (P : List Line → Type 0) →
      P (lines_of (a ∷ (b ∷ (sequence_line todo ∷ rest))) r) → P (lines_of (a ∷ (b ∷ rest)) r)
  moved r other P h = subst P (sym (same_but a b (sequence_line todo) rest (is_sequence todo) r other)) h

  good : AreGood [] (a ∷ (b ∷ rest))
  good = (
    again.good.0,
    (
      again.good.1.0,
      good_less (a ∷ (b ∷ [])) (a ∷ (b ∷ (sequence_line todo ∷ []))) rest
          (same_but a b (sequence_line todo) [] (is_sequence todo)) only.1 again.good.1.1.1,
    ),
  )

  without_number : ReadsTodo (a ∷ (b ∷ rest)) todo
  without_number = record {
    good = good;
    uid = moved name.Uid refl (λ (ls : List Line). IsOptional IsUidOf (first_of ls) (Some todo.uid)) again.uid;
    stamp = moved name.DtStamp refl (λ (ls : List Line). IsOptional IsStampOf (first_of ls) (Some todo.stamp)) again.stamp;
    seq = subst (λ (ls : List Line). IsOrNought IsSequenceOf (first_of ls) todo.seq) (sym only.0) nought;
    base = moved name.DeskBase refl (λ (ls : List Line). IsOptional IsSequenceOf (first_of ls) todo.base) again.base;
    rid = moved name.RecurrenceId refl (λ (ls : List Line). IsOptional IsMomentOf (first_of ls) todo.rid) again.rid;
    range = moved name.RecurrenceId refl (λ (ls : List Line). todo.range ≡ range_of (first_of ls)) again.range;
    start = moved name.DtStart refl (λ (ls : List Line). IsOptional IsMomentOf (first_of ls) todo.start) again.start;
    due = moved name.Due refl (λ (ls : List Line). IsOptional IsMomentOf (first_of ls) todo.due) again.due;
    status = moved name.Status refl (λ (ls : List Line). IsOptional IsStatusOf (first_of ls) todo.status) again.status;
    percent = moved name.PercentComplete refl (λ (ls : List Line). IsOptional IsPercentOf (first_of ls) todo.percent) again.percent;
    priority = moved name.Priority refl (λ (ls : List Line). IsOptional IsPriorityOf (first_of ls) todo.priority) again.priority;
    summary = moved name.Summary refl (λ (ls : List Line). IsOptional IsPropertyOf (first_of ls) todo.summary) again.summary;
    organizer = moved name.Organizer refl (λ (ls : List Line). IsOptional IsOrganizerOf (first_of ls) todo.organizer) again.organizer;
    attendees = moved name.Attendee refl (λ (ls : List Line). todo.attendees ≡ map whole_property ls) again.attendees;
    rule = moved name.RRule refl (λ (ls : List Line). todo.rule ≡ map value_of ls) again.rule;
    rdates = moved name.RDate refl (λ (ls : List Line). AreMomentsOf ls todo.rdates) again.rdates;
    exdates = moved name.ExDate refl (λ (ls : List Line). AreMomentsOf ls todo.exdates) again.exdates;
    others = moved name.Others refl (λ (ls : List Line). todo.others ≡ ls) again.others;
  }

pub unnumbered : (ls : List Line) (todo : Todo) → todo.seq ≡ 0 → map content_of ls ≡ unnumbered_lines (parts_of todo) → ReadsTodo ls todo
unnumbered [] todo nought e = absurd cc
unnumbered (a ∷ []) todo nought e = absurd cc
unnumbered (a ∷ (b ∷ rest)) todo nought e =
    let lawful : IsLawful (parts_of todo) = todo.lawful in
    let whole = with_line a b rest todo e in
    let at = lines_named (a ∷ (b ∷ (sequence_line todo ∷ rest))) (parts_of todo) lawful.others whole name.Sequence in
    let one = only_one (is_same (property_of a) name.Sequence) (is_same (property_of b) name.Sequence) a b (sequence_line todo)
    (lines_of rest name.Sequence) (plain name.Sequence (decimal todo.seq))
    (ap (map content_of) (sym (with_sequence a b (sequence_line todo) rest (is_sequence todo))) ∙ at) in
    without_number a b rest todo nought (read_again (a ∷ (b ∷ (sequence_line todo ∷ rest))) todo whole) one
