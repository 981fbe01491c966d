-- A message that is written and read back gives the items that it was made of.
use Rattle.std.proofs.Common.{◌≡◌, ◌∙◌, sym, ap, refl, ℕ, ◌<◌, ◌≤◌, List, [], ◌∷◌, ◌++◌, length, map, subst, arith, Some}
use Rattle.std.specs.Prelude.{IsTrue, codes}
use Rattle.std.specs.List.{AllByRecursion, Contains, IsDistinct, flat_map, list_all}
use Rattle.std.specs.List.Sorted.{IsStrictlySortedBy}
use Rattle.std.specs.Option.{is_some}
use Rattle.itip_lines.specs.Reading.{plain_lines}
use Rattle.itip_lines.specs.declared.line.Line.{Line}
use Rattle.itip_lines.specs.declared.line.NumberedLine.{NumberedLine}
use Rattle.itip_moment.specs.Order.{moment_cmp}
use Rattle.itip_todo.specs.Lawful.{IsLawful, IsLawfulContent, HasValue, keys_of}
use Rattle.itip_todo.specs.Participation.{same_text}
use Rattle.itip_todo.specs.Parts.{Parts}
use Rattle.itip_todo.specs.PartsOf.{parts_of}
use Rattle.itip_todo.specs.Reading.{ReadsTodo}
use Rattle.itip_todo.specs.Table.{sequence_limit, percent_limit, priority_limit, attendee_limit, is_other}
use Rattle.itip_todo.specs.Written.{Content, content_of, parts_contents}
use Rattle.itip_todo.specs.Properties.{Property}
use Rattle.itip_todo.specs.declared.todo.Todo.{Todo}
use Rattle.itip_todo.proofs.ContentLines.{plain_lawful}
use Rattle.itip_todo.proofs.LawfulLines.{number_lawful}
use Rattle.itip_todo.proofs.ReadingLaws.{one_todo}
use Rattle.itip_todo.proofs.SameTodo.{todo_of}
use Rattle.itip_todo.proofs.Segments.{base_on}
use Rattle.itip_todo.proofs.WritingLaws.{read_again}
use Rattle.itip_items.specs.Given.{AreItemsOf}
use Rattle.itip_items.specs.Items.{ItemDraft, bare, drafts, method_text}
use Rattle.itip_items.specs.MethodNeeds.{Suits, is_property}
use Rattle.itip_items.specs.declared.item.Item.{Item}
use Rattle.itip_items.specs.declared.kind.Method.{Method}
use Rattle.itip_items.specs.declared.kind.Method.TheVariants as method
use Rattle.itip_message.specs.Frame.{frame, todos}
use Rattle.itip_message.specs.Head.{head}
use Rattle.itip_message.specs.Message.{AreComponents, ReadsMessage}
use Rattle.itip_message.specs.declared.sort.Component.{Component}
use Rattle.itip_message.proofs.OneMessage.{ok_same}
use Rattle.itip_state.proofs.Members.{cons_first, cons_later}
use Rattle.itip_writing.specs.Sent.{calendar_end, sent_contents, sent_front, sent_octets, sent_todo}
use Rattle.itip_writing.proofs.Framing.{HaveContents, IsFramed, contents, inner_of, sent_framed}
use Rattle.itip_writing.proofs.Spelt.{AreSpelt, IsSpelt, all_spelt, read_contents, spelt_both, spelt_of}
use Rattle.itip_writing.proofs.Unnumbered.{unnumbered}

-- what makes parts lawful, apart from the length of the lines that they are written as
pub record IsAlmost (p : Parts) : Type 0 where
  pub uid : 0 < length p.uid
  pub seq : p.seq ≤ sequence_limit
  pub base : (n : ℕ) → p.base ≡ Some n → n ≤ sequence_limit
  pub range : IsTrue p.range → IsTrue (is_some p.rid)
  pub percent : (n : ℕ) → p.percent ≡ Some n → n ≤ percent_limit
  pub priority : (n : ℕ) → p.priority ≡ Some n → n ≤ priority_limit
  pub organizer : (v : Property) → p.organizer ≡ Some v → HasValue v
  pub attendee_count : length p.attendees ≤ attendee_limit
  pub attendee_values : AllByRecursion HasValue p.attendees
  pub attendee_keys : IsDistinct same_text (keys_of p.attendees)
  pub rdates : IsStrictlySortedBy moment_cmp p.rdates
  pub exdates : IsStrictlySortedBy moment_cmp p.exdates
  pub others : IsTrue (list_all is_other p.others)
  pub spelt : AreSpelt (parts_contents p)

pub almost_of : (p : Parts) → IsLawful p → IsAlmost p
almost_of p h = record {
  uid = h.uid;
  seq = h.seq;
  base = h.base;
  range = h.range;
  percent = h.percent;
  priority = h.priority;
  organizer = h.organizer;
  attendee_count = h.attendee_count;
  attendee_values = h.attendee_values;
  attendee_keys = h.attendee_keys;
  rdates = h.rdates;
  exdates = h.exdates;
  others = h.others;
  spelt = all_spelt (parts_contents p) h.lines;
}

lawful_with : (p : Parts) → IsAlmost p → AllByRecursion IsLawfulContent (parts_contents p) → IsLawful p
lawful_with p h lines = record {
  uid = h.uid;
  seq = h.seq;
  base = h.base;
  range = h.range;
  percent = h.percent;
  priority = h.priority;
  organizer = h.organizer;
  attendee_count = h.attendee_count;
  attendee_values = h.attendee_values;
  attendee_keys = h.attendee_keys;
  rdates = h.rdates;
  exdates = h.exdates;
  others = h.others;
  lines = lines;
}

-- ---- all lines are spelt as content lines are

method_lawful : (m : Method) → IsLawfulContent (bare (codes "METHOD") (method_text m))
method_lawful method.Request = plain_lawful (codes "METHOD") (codes "REQUEST") (omega arith) refl refl refl (omega arith)
method_lawful method.Add = plain_lawful (codes "METHOD") (codes "ADD") (omega arith) refl refl refl (omega arith)
method_lawful method.Cancel = plain_lawful (codes "METHOD") (codes "CANCEL") (omega arith) refl refl refl (omega arith)
method_lawful method.Reply = plain_lawful (codes "METHOD") (codes "REPLY") (omega arith) refl refl refl (omega arith)
method_lawful method.Refresh = plain_lawful (codes "METHOD") (codes "REFRESH") (omega arith) refl refl refl (omega arith)

spelt_front : (m : Method) → AreSpelt (sent_front m)
spelt_front m =
    let begin : IsLawfulContent (bare (codes "BEGIN") (codes "VCALENDAR")) =
    plain_lawful (codes "BEGIN") (codes "VCALENDAR") (omega arith) refl refl refl (omega arith) in
    let product : IsLawfulContent (bare (codes "PRODID") (codes "-//itipdesk//1//EN")) =
    plain_lawful (codes "PRODID") (codes "-//itipdesk//1//EN") (omega arith) refl refl refl (omega arith) in
    let version : IsLawfulContent (bare (codes "VERSION") (codes "2.0")) =
    plain_lawful (codes "VERSION") (codes "2.0") (omega arith) refl refl refl (omega arith) in
    all_spelt (sent_front m) (begin, (product, (version, (method_lawful m, tt))))

spelt_end : IsSpelt calendar_end
spelt_end = spelt_of calendar_end (plain_lawful (codes "END") (codes "VCALENDAR") (omega arith) refl refl refl (omega arith))

abbrev begin_todo : Content
begin_todo = bare (codes "BEGIN") (codes "VTODO")

abbrev end_todo : Content
end_todo = bare (codes "END") (codes "VTODO")

spelt_begin_todo : IsSpelt begin_todo
spelt_begin_todo = spelt_of begin_todo (plain_lawful (codes "BEGIN") (codes "VTODO") (omega arith) refl refl refl (omega arith))

spelt_end_todo : IsSpelt end_todo
spelt_end_todo = spelt_of end_todo (plain_lawful (codes "END") (codes "VTODO") (omega arith) refl refl refl (omega arith))

spelt_whole : (p : Parts) → AreSpelt (parts_contents p) → AreSpelt (begin_todo ∷ (parts_contents p ++ end_todo ∷ []))
spelt_whole p h = (spelt_begin_todo, spelt_both (parts_contents p) (end_todo ∷ []) h (spelt_end_todo, tt))

spelt_todo : (m : Method) (p : Parts) → AreSpelt (parts_contents p) → AreSpelt (sent_todo m p)
spelt_todo method.Request p h = spelt_whole p h
spelt_todo method.Add p h = spelt_whole p h
spelt_todo method.Cancel p h = spelt_whole p h
spelt_todo method.Reply p h = spelt_whole p h
spelt_todo method.Refresh p h =
    (spelt_begin_todo, (h.0, (h.1.0, spelt_both (base_on p) (end_todo ∷ []) h.1.1.1 (spelt_end_todo, tt))))

spelt_todos : (m : Method) (all : List Parts) → AllByRecursion IsAlmost all → AreSpelt (flat_map (sent_todo m) all)
spelt_todos m [] h = tt
spelt_todos m (p ∷ all) h = spelt_both (sent_todo m p) (flat_map (sent_todo m) all) (spelt_todo m p h.0.spelt) (spelt_todos m all h.1)

sent_spelt : (m : Method) (all : List Parts) → AllByRecursion IsAlmost all → AreSpelt (sent_contents m all)
sent_spelt m all h =
    spelt_both (sent_front m) (flat_map (sent_todo m) all ++ calendar_end ∷ []) (spelt_front m)
    (spelt_both (flat_map (sent_todo m) all) (calendar_end ∷ []) (spelt_todos m all h) (spelt_end, tt))

-- ---- the to-dos that are read

each_lawful : (ls : List Line) → AllByRecursion IsLawfulContent (map content_of ls)
each_lawful [] = tt
each_lawful (l ∷ ls) = (l.lawful, each_lawful ls)

read_whole : (p : Parts) → IsAlmost p → (ns : List NumberedLine) (t : Todo) → contents ns ≡ parts_contents p →
    ReadsTodo (plain_lines ns) t → parts_of t ≡ p
read_whole p h ns t e reads =
    let lawful : IsLawful p = lawful_with p h (subst (AllByRecursion IsLawfulContent) e (each_lawful (plain_lines ns))) in
    ap parts_of (one_todo (plain_lines ns) t (todo_of p lawful) reads (read_again (plain_lines ns) (todo_of p lawful) e))

one_read : (m : Method) (p : Parts) → IsAlmost p → (m ≡ method.Refresh → p.seq ≡ 0) → (ns : List NumberedLine) (t : Todo) →
    contents ns ≡ inner_of m p → ReadsTodo (plain_lines ns) t → parts_of t ≡ p
one_read method.Request p h nought ns t e reads = read_whole p h ns t e reads
one_read method.Add p h nought ns t e reads = read_whole p h ns t e reads
one_read method.Cancel p h nought ns t e reads = read_whole p h ns t e reads
one_read method.Reply p h nought ns t e reads = read_whole p h ns t e reads
one_read method.Refresh p h nought ns t e reads =
    let read : AllByRecursion IsLawfulContent (inner_of method.Refresh p) =
    subst (AllByRecursion IsLawfulContent) e (each_lawful (plain_lines ns)) in
    let number = number_lawful (codes "SEQUENCE") (record { some = omega arith; upper = refl }) (omega arith) p.seq h.seq in
    let lawful : IsLawful p = lawful_with p h (read.0, (read.1.0, (number, read.1.1))) in
    ap parts_of
    (one_todo (plain_lines ns) t (todo_of p lawful) reads (unnumbered (plain_lines ns) (todo_of p lawful) (nought refl) e))

all_read : (m n : Method) (all : List Parts) → AllByRecursion IsAlmost all →
    (m ≡ method.Refresh → AllByRecursion (λ (p : Parts). p.seq ≡ 0) all) → (components : List Component) (ts : List Todo) →
    HaveContents (map (inner_of m) all) components → AreComponents n components ts → map parts_of ts ≡ all
all_read m n [] almost nought [] [] have read = refl
all_read m n [] almost nought [] (t ∷ ts) have read = absurd read
all_read m n [] almost nought (c ∷ cs) ts have read = absurd have
all_read m n (p ∷ all) almost nought [] ts have read = absurd have
all_read m n (p ∷ all) almost nought (c ∷ cs) [] have read = absurd read
all_read m n (p ∷ all) almost nought (c ∷ cs) (t ∷ ts) have read = λ i.
    one_read m p almost.0 (λ e. (nought e).0) c.lines t have.0 read.0.reads i
    ∷ all_read m n all almost.1 (λ e. (nought e).1) cs ts have.1 read.1 i

-- ---- the items

no_component : (m : Method) (all : List Parts) → AllByRecursion (Suits m) all →
    AllByRecursion (λ p. IsTrue (list_all is_property p.others)) all
no_component m [] h = tt
no_component m (p ∷ all) h = (h.0.others, no_component m all h.1)

pub parts_read : (m : Method) (all : List Parts) (items : List Item) → AllByRecursion IsAlmost all → AllByRecursion (Suits m) all →
    (m ≡ method.Refresh → AllByRecursion (λ (p : Parts). p.seq ≡ 0) all) → ReadsMessage (sent_octets m all) items →
    AreItemsOf (drafts m all) items
parts_read m all items almost suits nought reads =
    let ns : List NumberedLine = reads.begins.content in
    let are : contents ns ≡ sent_contents m all = read_contents (sent_contents m all) (sent_spelt m all almost) ns reads.begins.reads in
    let is : IsFramed m (map (inner_of m) all) ns = sent_framed m all (no_component m all suits) ns are in
    let placed : is.placed ≡ reads.begins.placed = ok_same (frame ns) is.placed reads.begins.placed is.framed reads.begins.framed in
    let same : m ≡ reads.method_is = is.headed reads.method_is (ap head placed ∙ reads.begins.headed) in
    let have : HaveContents (map (inner_of m) all) reads.components =
    subst (λ (cs : List Component). HaveContents (map (inner_of m) all) cs) (ap todos placed ∙ sym reads.begins.components_are) is.have in
    let are_all : map parts_of reads.all ≡ all =
    all_read m reads.method_is all almost nought reads.components reads.all have reads.read in
    let back : reads.method_is ≡ m = sym same in
    subst (λ (ds : List ItemDraft). AreItemsOf ds items) (λ i. drafts (back i) (are_all i)) reads.items_are

-- ---- the same of to-dos

all_almost : (all : List Todo) → AllByRecursion IsAlmost (map parts_of all)
all_almost [] = tt
all_almost (todo ∷ all) = (almost_of (parts_of todo) todo.lawful, all_almost all)

each_nought : (all : List Todo) → ((todo : Todo) → Contains all todo → todo.seq ≡ 0) →
    AllByRecursion (λ (p : Parts). p.seq ≡ 0) (map parts_of all)
each_nought [] h = tt
each_nought (todo ∷ all) h = (h todo (cons_first todo all), each_nought all (λ t there. h t (cons_later todo all t there)))

pub sent_read : (m : Method) (all : List Todo) (items : List Item) → AllByRecursion (Suits m) (map parts_of all) →
    (m ≡ method.Refresh → (todo : Todo) → Contains all todo → todo.seq ≡ 0) → ReadsMessage (sent_octets m (map parts_of all)) items →
    AreItemsOf (drafts m (map parts_of all)) items
sent_read m all items suits nought reads =
    parts_read m (map parts_of all) items (all_almost all) suits (λ e. each_nought all (nought e)) reads
