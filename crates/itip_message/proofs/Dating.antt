-- To-dos of a draft come out with DTSTAMP of the first second of 1970 and without a SEQUENCE, and may be sent in a REQUEST.
use Rattle.std.proofs.Common.{◌≡◌, ◌∙◌, sym, ap, refl, ℕ, Bool, true, false, cond, List, [], ◌∷◌, map, subst, arith, Option, Some, None}
use Rattle.std.specs.Prelude.{codes, not, ◌==◌, ◌&&◌, ◌||◌, IsTrue}
use Rattle.std.specs.List.{AllByRecursion, filter, list_all, list_any}
use Rattle.std.proofs.lemmas.Bool.{and_parts}
use Rattle.itip_lines.specs.Reading.{plain_lines}
use Rattle.itip_lines.specs.declared.line.Line.{Line}
use Rattle.itip_lines.specs.declared.line.NumberedLine.{NumberedLine}
use Rattle.itip_lines.proofs.SameLine.{same_line}
use Rattle.itip_moment.specs.Spelling.{IsStampText}
use Rattle.itip_todo.specs.Lawful.{IsLawfulContent}
use Rattle.itip_todo.specs.Participation.{same_text}
use Rattle.itip_todo.specs.PartsOf.{parts_of}
use Rattle.itip_todo.specs.Reading.{ReadsTodo, IsOptional, IsOrNought, IsStampOf, IsSequenceOf, lines_of, first_of, first_named}
use Rattle.itip_todo.specs.Table.{property_named, property_of, read_as, is_same}
use Rattle.itip_todo.specs.Written.{bare}
use Rattle.itip_todo.specs.declared.property_name.PropertyName.{PropertyName}
use Rattle.itip_todo.specs.declared.property_name.PropertyName.TheVariants as name
use Rattle.itip_todo.specs.declared.todo.Todo.{Todo}
use Rattle.itip_todo.proofs.ContentLines.{plain_lawful}
use Rattle.itip_items.specs.MethodNeeds.{Suits, is_property}
use Rattle.itip_items.specs.declared.kind.Method.TheVariants as method
use Rattle.itip_message.specs.CauseLines.{is_named}
use Rattle.itip_message.specs.Drafts.{IsFirstStamp, IsUndated, AreDated, HasDraftTodos, dated, is_undated}
use Rattle.itip_message.specs.Frame.{todos}
use Rattle.itip_message.specs.Message.{AreComponents}
use Rattle.itip_message.specs.declared.sort.Component.{Component}
use Rattle.itip_message.proofs.Properties.{AreProperties, HasProperties, sound_frame, sound_todos, all_suit, and_true}

-- ---- the line

pub first_lawful : IsLawfulContent (bare (codes "DTSTAMP") (codes "19700101T000000Z"))
first_lawful = plain_lawful (codes "DTSTAMP") (codes "19700101T000000Z") (omega arith) refl refl refl (omega arith)

first_line : Line
first_line = record { name = codes "DTSTAMP"; params = []; value = codes "19700101T000000Z"; lawful = first_lawful }

is_first : IsFirstStamp first_line
unfolding first_line
is_first = record { name_is = refl; params_are = refl; value_is = refl }

pub some_dating : (components : List Component) → (all : List Component) × AreDated components all
some_dating components =
    (map (dated first_line) components, record { stamp = first_line; first_stamp = is_first; each = refl })

one_stamp : (a b : Line) → IsFirstStamp a → IsFirstStamp b → a ≡ b
one_stamp a b h k = same_line a b (h.name_is ∙ sym k.name_is) (h.params_are ∙ sym k.params_are) (h.value_is ∙ sym k.value_is)

pub one_dating : (components all others : List Component) → AreDated components all → AreDated components others → all ≡ others
one_dating components all others h k =
    h.each ∙ ap (λ (line : Line). map (dated line) components) (one_stamp h.stamp k.stamp h.first_stamp k.first_stamp) ∙ sym k.each

-- ---- the to-dos

stamp_named : (stamp : Line) → IsFirstStamp stamp → property_of stamp ≡ name.DtStamp
unfolding property_of
stamp_named stamp first = ap (λ (n : List ℕ). read_as n stamp.value) first.name_is

-- the first line of DTSTAMP is this one
stamp_first : (stamp : Line) (lines : List Line) → IsFirstStamp stamp → first_named name.DtStamp (stamp ∷ lines) ≡ Some stamp
stamp_first stamp lines first =
    ap (λ (p : PropertyName). first_of (cond (is_same p name.DtStamp) (stamp ∷ lines_of lines name.DtStamp) (lines_of lines name.DtStamp)))
    (stamp_named stamp first)

negated : (b : Bool) → not b ≡ true → b ≡ false
negated true e = cc
negated false e = refl

no_sequence : (line : NumberedLine) → is_undated line ≡ true → is_same (property_of line.line) name.Sequence ≡ false
unfolding property_of
no_sequence line undated =
    let other : is_same (property_named line.line.name) name.Sequence ≡ false =
    negated (is_named name.Sequence line) (and_parts (not (is_named name.DtStamp line)) (not (is_named name.Sequence line)) undated).1 in
    elim (is_same (property_named line.line.name) name.RDate && list_any (λ c. c == 47) line.line.value) as
    (λ b. is_same (cond b name.Others (property_named line.line.name)) name.Sequence ≡ false) [ true ↦ refl | false ↦ other ]

none_left : (lines : List NumberedLine) → lines_of (plain_lines (filter is_undated lines)) name.Sequence ≡ []
none_left [] = refl
none_left (line ∷ lines) =
    let rest : List NumberedLine = filter is_undated lines in
    elim (is_undated line) as
    (λ b. is_undated line ≡ b → lines_of (plain_lines (cond b (line ∷ rest) rest)) name.Sequence ≡ []) [
      | true ↦ λ yes. ap (λ (b : Bool). cond b (line.line ∷ lines_of (plain_lines rest) name.Sequence)
          (lines_of (plain_lines rest) name.Sequence)) (no_sequence line yes) ∙ none_left lines
      | false ↦ λ _. none_left lines
    ] refl

-- no line of SEQUENCE is left
sequence_none : (stamp : Line) (lines : List NumberedLine) → IsFirstStamp stamp →
    first_named name.Sequence (stamp ∷ plain_lines (filter is_undated lines)) ≡ None
sequence_none stamp lines first =
    let rest : List Line = lines_of (plain_lines (filter is_undated lines)) name.Sequence in
    ap (λ (p : PropertyName). first_of (cond (is_same p name.Sequence) (stamp ∷ rest) rest)) (stamp_named stamp first) ∙
    ap first_of (none_left lines)

undated_one : (stamp : Line) (component : Component) (todo : Todo) → IsFirstStamp stamp →
    ReadsTodo (plain_lines (dated stamp component).lines) todo → IsUndated todo
undated_one stamp component todo first reads =
    let lines : List Line = plain_lines (filter is_undated component.lines) in
    let stamped : IsStampOf stamp todo.stamp =
    subst (λ (line : Option Line). IsOptional IsStampOf line (Some todo.stamp)) (stamp_first stamp lines first) reads.stamp in
    record {
      stamp = subst (λ (text : List ℕ). IsStampText text todo.stamp) first.value_is stamped;
      sequence = subst (λ (line : Option Line). IsOrNought IsSequenceOf line todo.seq) (sequence_none stamp component.lines first)
          reads.seq;
    }

each_undated : (stamp : Line) → IsFirstStamp stamp → (components : List Component) (all : List Todo) →
    AreComponents method.Request (map (dated stamp) components) all → AllByRecursion IsUndated all
each_undated stamp first [] [] are = tt
each_undated stamp first [] (todo ∷ all) are = absurd are
each_undated stamp first (component ∷ components) [] are = absurd are
each_undated stamp first (component ∷ components) (todo ∷ all) are =
    (undated_one stamp component todo first are.0.reads, each_undated stamp first components all are.1)

pub all_undated : (components with_stamps : List Component) (all : List Todo) → AreDated components with_stamps →
    AreComponents method.Request with_stamps all → AllByRecursion IsUndated all
all_undated components with_stamps all are read =
    each_undated are.stamp are.first_stamp components all
    (subst (λ (cs : List Component). AreComponents method.Request cs all) are.each read)

-- ---- they may be sent

stamp_property : (stamp : Line) → IsFirstStamp stamp → IsTrue (is_property stamp)
stamp_property stamp first =
    ap (λ (n : List ℕ). not (same_text n (codes "BEGIN") || same_text n (codes "END"))) first.name_is

left_properties : (lines : List NumberedLine) → AreProperties (plain_lines lines) →
    AreProperties (plain_lines (filter is_undated lines))
left_properties [] h = refl
left_properties (line ∷ lines) h =
    let parts = and_parts (is_property line.line) (list_all is_property (plain_lines lines)) h in
    let rest : AreProperties (plain_lines (filter is_undated lines)) = left_properties lines parts.1 in
    elim (is_undated line) as
    (λ b. AreProperties (plain_lines (cond b (line ∷ filter is_undated lines) (filter is_undated lines)))) [
      | true ↦ and_true (is_property line.line) (list_all is_property (plain_lines (filter is_undated lines))) parts.0 rest
      | false ↦ rest
    ]

dated_properties : (stamp : Line) (component : Component) → IsFirstStamp stamp → HasProperties component →
    HasProperties (dated stamp component)
dated_properties stamp component first h =
    and_true (is_property stamp) (list_all is_property (plain_lines (filter is_undated component.lines))) (stamp_property stamp first)
    (left_properties component.lines h)

each_properties : (stamp : Line) → IsFirstStamp stamp → (components : List Component) → AllByRecursion HasProperties components →
    AllByRecursion HasProperties (map (dated stamp) components)
each_properties stamp first [] h = tt
each_properties stamp first (component ∷ components) h =
    (dated_properties stamp component first h.0, each_properties stamp first components h.1)

pub draft_suits : (bytes : List ℕ) (all : List Todo) → HasDraftTodos bytes all →
    AllByRecursion (Suits method.Request) (map parts_of all)
draft_suits bytes all reads =
    let found : AllByRecursion HasProperties (todos reads.begins.placed) =
    sound_todos reads.begins.placed (sound_frame reads.begins.content reads.begins.placed reads.begins.framed) in
    let properties : AllByRecursion HasProperties reads.components =
    subst (λ (cs : List Component). AllByRecursion HasProperties cs) (sym reads.begins.components_are) found in
    let dated_ones : AllByRecursion HasProperties reads.with_stamps =
    subst (λ (cs : List Component). AllByRecursion HasProperties cs) (sym reads.dated_are.each)
    (each_properties reads.dated_are.stamp reads.dated_are.first_stamp reads.components properties) in
    all_suit method.Request reads.with_stamps all reads.read dated_ones
