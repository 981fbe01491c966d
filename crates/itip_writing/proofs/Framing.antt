-- The lines of a message of several to-dos are framed, have a head, and hold these to-dos.
use Rattle.std.proofs.Common.{◌≡◌, ◌∙◌, sym, ap, refl, ℕ, Bool, true, false, cond, ◌&&◌, ◌||◌, List, [], ◌∷◌, ◌++◌, length, map}
use Rattle.std.proofs.Common.{append_assoc}
use Rattle.std.proofs.Common.{append-nil, subst, Some, Ok, Err}
use Rattle.std.specs.Prelude.{Result, not, nat_lt, codes, IsTrue}
use Rattle.std.specs.Fmt.{decimal}
use Rattle.std.specs.List.{AllByRecursion, flat_map, list_all}
use Rattle.std.specs.Str.{str_to_ascii_uppercase}
use Rattle.std.proofs.lemmas.Bool.{and_parts}
use Rattle.itip_lines.specs.Reading.{line_at, plain_lines}
use Rattle.itip_lines.specs.declared.line.Line.{Line}
use Rattle.itip_lines.specs.declared.line.NumberedLine.{NumberedLine}
use Rattle.itip_lines.proofs.SameLine.{same_line}
use Rattle.itip_todo.specs.Lawful.{IsLawfulContent}
use Rattle.itip_todo.specs.Participation.{same_text}
use Rattle.itip_todo.specs.Parts.{Parts}
use Rattle.itip_todo.specs.StatusText.{status_text}
use Rattle.itip_todo.specs.Written.{Content, content_of, moment_line, plain, property_line, rid_line}
use Rattle.itip_todo.specs.declared.property_name.PropertyName.TheVariants as name
use Rattle.itip_todo.proofs.Segments.{AllParts, all_parts, all_optional, all_map, base_on}
use Rattle.itip_items.specs.Items.{bare, method_text}
use Rattle.itip_items.specs.MethodNeeds.{is_property}
use Rattle.itip_items.specs.declared.kind.Method.{Method}
use Rattle.itip_items.specs.declared.kind.Method.TheVariants as method
use Rattle.itip_message.specs.Frame.{depth_limit, frame, place, with_front, nested, opening, property, begun, todos, todos_from}
use Rattle.itip_message.specs.Frame.{calendar_lines}
use Rattle.itip_message.specs.Head.{head, head_of, counted}
use Rattle.itip_message.specs.Refusals.{at_line}
use Rattle.itip_message.specs.declared.error.MessageCause.TheVariants.{NoCalendar}
use Rattle.itip_message.specs.declared.error.MessageRefusal.{MessageRefusal}
use Rattle.itip_message.specs.declared.frame.Placed.{Placed}
use Rattle.itip_message.specs.declared.frame.Placed.TheVariants.{CalendarLine, TodoBegins, TodoLine}
use Rattle.itip_message.specs.declared.sort.Component.{Component}
use Rattle.itip_writing.specs.Sent.{calendar_end, sent_contents, sent_front, sent_head, sent_todo}

pub first_two : {A : Type 0} (x y : A) (xs ys : List A) → x ∷ xs ≡ y ∷ ys → (x ≡ y) × (xs ≡ ys)
first_two x y xs ys e = (cc, cc)

-- the contents of numbered lines
abbrev pub contents : List NumberedLine → List Content
contents ns = map content_of (plain_lines ns)

-- ---- contents that neither begin nor end a component

abbrev pub IsProperty : Content → Type 0
IsProperty c = IsTrue (not (same_text c.name (codes "BEGIN") || same_text c.name (codes "END")))

abbrev pub AreProperties : List Content → Type 0
AreProperties cs = AllByRecursion IsProperty cs

each : {A : Type 0} (f : A → Content) (xs : List A) → ((x : A) → IsProperty (f x)) → AllByRecursion (λ x. IsProperty (f x)) xs
each f [] h = tt
each f (x ∷ xs) h = (h x, each f xs h)

of_others : (lines : List Line) → IsTrue (list_all is_property lines) → AreProperties (map content_of lines)
of_others [] h = tt
of_others (line ∷ lines) h = let p = and_parts _ _ h in (p.0, of_others lines p.1)

all_properties : (p : Parts) → IsTrue (list_all is_property p.others) → AllParts IsProperty p
all_properties p h = record {
  head = (refl, (refl, (refl, tt)));
  base = all_optional IsProperty (λ n. plain name.DeskBase (decimal n)) p.base (λ n e. refl);
  rid = all_optional IsProperty (rid_line p.range) p.rid (λ m e. refl);
  start = all_optional IsProperty (moment_line name.DtStart) p.start (λ m e. refl);
  due = all_optional IsProperty (moment_line name.Due) p.due (λ m e. refl);
  status = all_optional IsProperty (λ s. plain name.Status (status_text s)) p.status (λ s e. refl);
  percent = all_optional IsProperty (λ n. plain name.PercentComplete (decimal n)) p.percent (λ n e. refl);
  priority = all_optional IsProperty (λ n. plain name.Priority (decimal n)) p.priority (λ n e. refl);
  summary = all_optional IsProperty (property_line name.Summary) p.summary (λ v e. refl);
  organizer = all_optional IsProperty (property_line name.Organizer) p.organizer (λ v e. refl);
  attendee = all_map IsProperty (property_line name.Attendee) p.attendees (each (property_line name.Attendee) p.attendees (λ v. refl));
  rule = all_map IsProperty (plain name.RRule) p.rule (each (plain name.RRule) p.rule (λ v. refl));
  rdate = all_map IsProperty (moment_line name.RDate) p.rdates (each (moment_line name.RDate) p.rdates (λ m. refl));
  exdate = all_map IsProperty (moment_line name.ExDate) p.exdates (each (moment_line name.ExDate) p.exdates (λ m. refl));
  other = of_others p.others h;
}

-- the lines between BEGIN:VTODO and END:VTODO under a method
abbrev pub inner_of : Method → Parts → List Content
inner_of m p = sent_head m p ++ base_on p

pub inner_properties : (m : Method) (p : Parts) → IsTrue (list_all is_property p.others) → AreProperties (inner_of m p)
inner_properties method.Request p h = all_parts IsProperty p (all_properties p h)
inner_properties method.Add p h = all_parts IsProperty p (all_properties p h)
inner_properties method.Cancel p h = all_parts IsProperty p (all_properties p h)
inner_properties method.Reply p h = all_parts IsProperty p (all_properties p h)
inner_properties method.Refresh p h = let all = all_parts IsProperty p (all_properties p h) in (all.0, (all.1.0, all.1.1.1))

abbrev begin_todo : Content
begin_todo = bare (codes "BEGIN") (codes "VTODO")

abbrev end_todo : Content
end_todo = bare (codes "END") (codes "VTODO")

pub sent_is : (m : Method) (p : Parts) → sent_todo m p ≡ begin_todo ∷ (inner_of m p ++ end_todo ∷ [])
sent_is method.Request p = refl
sent_is method.Add p = refl
sent_is method.Cancel p = refl
sent_is method.Reply p = refl
sent_is method.Refresh p = refl

-- the lines of to-dos, each between its BEGIN and END, and the end of the calendar
abbrev todos_then : List (List Content) → List Content
todos_then [] = calendar_end ∷ []
todos_then (cs ∷ css) = begin_todo ∷ (cs ++ end_todo ∷ todos_then css)

sent_then : (m : Method) (all : List Parts) → flat_map (sent_todo m) all ++ calendar_end ∷ [] ≡ todos_then (map (inner_of m) all)
sent_then m [] = refl
sent_then m (p ∷ all) =
    let rest : List Content = flat_map (sent_todo m) all in
    ap (λ (cs : List Content). (cs ++ rest) ++ calendar_end ∷ []) (sent_is m p)
    ∙ ap (λ (cs : List Content). begin_todo ∷ cs)
    (append_assoc (inner_of m p ++ end_todo ∷ []) rest (calendar_end ∷ [])
    ∙ append_assoc (inner_of m p) (end_todo ∷ []) (rest ++ calendar_end ∷ [])
    ∙ ap (λ (cs : List Content). inner_of m p ++ end_todo ∷ cs) (sent_then m all))

-- ---- where lines are placed, by their contents

abbrev outer : List (List ℕ)
outer = codes "VCALENDAR" ∷ []

abbrev inside : List (List ℕ)
inside = codes "VTODO" ∷ codes "VCALENDAR" ∷ []

-- the places of a line with this content and of those after it
abbrev step : List ℕ → List (List ℕ) → NumberedLine → List NumberedLine → Content → Result (List Placed) MessageRefusal
step name open_names n ns c =
    cond (same_text c.name (codes "BEGIN"))
    (cond (nat_lt (length (name ∷ open_names)) depth_limit)
    (with_front (opening (name ∷ open_names) (str_to_ascii_uppercase c.value) n.number)
    (place (str_to_ascii_uppercase c.value ∷ name ∷ open_names) ns))
    (nested (Some n.number)))
    (cond (same_text c.name (codes "END"))
    (cond (same_text (str_to_ascii_uppercase c.value) name) (place open_names ns) (nested (Some n.number)))
    (with_front (property (name ∷ open_names) n) (place (name ∷ open_names) ns)))

at_begin : (n : NumberedLine) (ns : List NumberedLine) → content_of n.line ≡ begin_todo →
    place outer (n ∷ ns) ≡ with_front (TodoBegins n.number ∷ []) (place inside ns)
at_begin n ns e = ap (step (codes "VCALENDAR") [] n ns) e

at_end : (n : NumberedLine) (ns : List NumberedLine) → content_of n.line ≡ end_todo → place inside (n ∷ ns) ≡ place outer ns
at_end n ns e = ap (step (codes "VTODO") outer n ns) e

at_last : (n : NumberedLine) → content_of n.line ≡ calendar_end → place outer (n ∷ []) ≡ Ok []
at_last n e = ap (step (codes "VCALENDAR") [] n []) e

neither : (b e : Bool) → IsTrue (not (b || e)) → (b ≡ false) × (e ≡ false)
neither true e h = absurd (cc)
neither false true h = absurd (cc)
neither false false h = (refl, refl)

-- a property directly in the calendar, and one in the to-do
at_property : (name : List ℕ) (open_names : List (List ℕ)) (n : NumberedLine) (ns : List NumberedLine) (c : Content) →
    content_of n.line ≡ c → IsProperty c →
    place (name ∷ open_names) (n ∷ ns) ≡ with_front (property (name ∷ open_names) n) (place (name ∷ open_names) ns)
at_property name open_names n ns c e h =
    let p = neither (same_text c.name (codes "BEGIN")) (same_text c.name (codes "END")) h in
    ap (step name open_names n ns) e ∙ rw (p.0, p.1) refl

-- the lines of one to-do, after its BEGIN
record InTodo (cs ds : List Content) (ns : List NumberedLine) : Type 0 where
  inner : List NumberedLine
  after : List NumberedLine
  placed : (more : List Placed) → place outer after ≡ Ok more → place inside ns ≡ Ok (map TodoLine inner ++ more)
  inner_are : contents inner ≡ cs
  after_are : contents after ≡ ds

in_todo : (cs ds : List Content) → AreProperties cs → (ns : List NumberedLine) → contents ns ≡ cs ++ end_todo ∷ ds → InTodo cs ds ns
in_todo [] ds k [] e = absurd cc
in_todo (c ∷ cs) ds k [] e = absurd cc
in_todo [] ds k (n ∷ ns) e =
    let two = first_two (content_of n.line) end_todo (contents ns) ds e in
    record { inner = []; after = ns; placed = λ more h. at_end n ns two.0 ∙ h; inner_are = refl; after_are = two.1 }
in_todo (c ∷ cs) ds k (n ∷ ns) e =
    let two = first_two (content_of n.line) c (contents ns) (cs ++ end_todo ∷ ds) e in
    let rest = in_todo cs ds k.1 ns two.1 in
    record {
      inner = n ∷ rest.inner;
      after = rest.after;
      placed = λ more h. at_property (codes "VTODO") outer n ns c two.0 k.0 ∙
          ap (λ (r : Result (List Placed) MessageRefusal). with_front (TodoLine n ∷ []) r) (rest.placed more h);
      inner_are = λ i. two.0 i ∷ rest.inner_are i;
      after_are = rest.after_are;
    }

-- ---- the to-dos

-- what follows the lines of a to-do is the next to-do, if anything
abbrev AtTodo : List Placed → Type 0
AtTodo [] = Unit {0}
AtTodo (TodoBegins number ∷ placed) = Unit {0}
AtTodo (CalendarLine line ∷ placed) = ⊥
AtTodo (TodoLine line ∷ placed) = ⊥

abbrev with_lines : Component → List NumberedLine → Component
with_lines first lines = record { begins = first.begins; lines = first.lines ++ lines }

one_todo : (first : Component) (lines : List NumberedLine) (more : List Placed) → AtTodo more →
    todos_from first (map TodoLine lines ++ more) ≡ with_lines first lines ∷ todos more
one_todo first [] [] h = ap (λ (all : List NumberedLine). record { begins = first.begins; lines = all } ∷ []) (sym (append-nil first.lines))
one_todo first [] (TodoBegins number ∷ more) h =
    ap (λ (all : List NumberedLine). record { begins = first.begins; lines = all } ∷ todos (TodoBegins number ∷ more))
    (sym (append-nil first.lines))
one_todo first [] (CalendarLine line ∷ more) h = absurd h
one_todo first [] (TodoLine line ∷ more) h = absurd h
one_todo first (line ∷ lines) more h = one_todo (with_lines first (line ∷ [])) lines more h ∙
    ap (λ (all : List NumberedLine). record { begins = first.begins; lines = all } ∷ todos more)
    (append_assoc first.lines (line ∷ []) lines)

no_calendar_line : (lines : List NumberedLine) (more : List Placed) → calendar_lines (map TodoLine lines ++ more) ≡ calendar_lines more
no_calendar_line [] more = refl
no_calendar_line (line ∷ lines) more = no_calendar_line lines more

-- the components have these contents
abbrev pub HaveContents : List (List Content) → List Component → Type 0
HaveContents [] [] = Unit {0}
HaveContents [] (component ∷ components) = ⊥
HaveContents (cs ∷ css) [] = ⊥
HaveContents (cs ∷ css) (component ∷ components) = (contents component.lines ≡ cs) × HaveContents css components

record InCalendar (css : List (List Content)) (ns : List NumberedLine) : Type 0 where
  placed : List Placed
  is : place outer ns ≡ Ok placed
  at_todo : AtTodo placed
  no_lines : calendar_lines placed ≡ []
  have : HaveContents css (todos placed)

no_more : (ns : List NumberedLine) → contents ns ≡ [] → ns ≡ []
no_more [] e = refl
no_more (n ∷ ns) e = absurd cc

in_calendar : (css : List (List Content)) → AllByRecursion AreProperties css → (ns : List NumberedLine) → contents ns ≡ todos_then css →
    InCalendar css ns
in_calendar [] k [] e = absurd cc
in_calendar [] k (n ∷ ns) e =
    let two = first_two (content_of n.line) calendar_end (contents ns) [] e in
    record {
      placed = [];
      is = ap (λ (rest : List NumberedLine). place outer (n ∷ rest)) (no_more ns two.1) ∙ at_last n two.0;
      at_todo = tt;
      no_lines = refl;
      have = tt;
    }
in_calendar (cs ∷ css) k [] e = absurd cc
in_calendar (cs ∷ css) k (n ∷ ns) e =
    let two = first_two (content_of n.line) begin_todo (contents ns) (cs ++ end_todo ∷ todos_then css) e in
    let one = in_todo cs (todos_then css) k.0 ns two.1 in
    let rest = in_calendar css k.1 one.after one.after_are in
    let of : todos_from (begun n.number) (map TodoLine one.inner ++ rest.placed)
    ≡ with_lines (begun n.number) one.inner ∷ todos rest.placed =
    one_todo (begun n.number) one.inner rest.placed rest.at_todo in
    record {
      placed = TodoBegins n.number ∷ (map TodoLine one.inner ++ rest.placed);
      is = at_begin n ns two.0 ∙ ap (λ (r : Result (List Placed) MessageRefusal). with_front (TodoBegins n.number ∷ []) r)
          (one.placed rest.placed rest.is);
      at_todo = tt;
      no_lines = no_calendar_line one.inner rest.placed ∙ rest.no_lines;
      have = subst (λ (components : List Component). HaveContents (cs ∷ css) components) (sym of) (one.inner_are, rest.have);
    }

-- ---- the head

abbrev product : Content
product = bare (codes "PRODID") (codes "-//itipdesk//1//EN")

abbrev version : Content
version = bare (codes "VERSION") (codes "2.0")

abbrev method_line : Method → Content
method_line m = bare (codes "METHOD") (method_text m)

lawful_of : (line : Line) (c : Content) → content_of line ≡ c → IsLawfulContent c
lawful_of line c e = subst IsLawfulContent e line.lawful

-- a line with a content
abbrev line_of : (c : Content) → IsLawfulContent c → Line
line_of c h = record { name = c.name; params = c.params; value = c.value; lawful = h }

is_line : (line : Line) (c : Content) (e : content_of line ≡ c) → line ≡ line_of c (lawful_of line c e)
is_line line c e =
    same_line line (line_of c (lawful_of line c e)) (ap (λ (d : Content). d.name) e) (ap (λ (d : Content). d.params) e)
    (ap (λ (d : Content). d.value) e)

head_is : (m : Method) (l n o : ℕ) (a : IsLawfulContent product) (b : IsLawfulContent version) (c : IsLawfulContent (method_line m))
    (components : List Component)
    → head_of (line_at l (line_of product a) ∷ line_at n (line_of version b) ∷ line_at o (line_of (method_line m) c) ∷ []) components
    ≡ counted components (Some o) (Some m)
head_is method.Request l n o a b c components = refl
head_is method.Add l n o a b c components = refl
head_is method.Cancel l n o a b c components = refl
head_is method.Reply l n o a b c components = refl
head_is method.Refresh l n o a b c components = refl

counted_is : (many some : Bool) (f g : MessageRefusal) (m n : Method) → cond many (Err f) (cond some (Ok m) (Err g)) ≡ Ok n → m ≡ n
counted_is true some f g m n e = absurd cc
counted_is false true f g m n e = cc
counted_is false false f g m n e = absurd cc

-- ---- the whole message

-- the lines of a message are framed, with this method and these contents
pub record IsFramed (m : Method) (css : List (List Content)) (ns : List NumberedLine) : Type 0 where
  pub placed : List Placed
  pub framed : frame ns ≡ Ok placed
  pub headed : (n : Method) → head placed ≡ Ok n → m ≡ n
  pub have : HaveContents css (todos placed)

-- the places of all lines, if the first has this content
abbrev first_step : NumberedLine → List NumberedLine → Content → Result (List Placed) MessageRefusal
first_step n ns c =
    cond (same_text c.name (codes "BEGIN") && same_text (str_to_ascii_uppercase c.value) (codes "VCALENDAR")) (place outer ns)
    (Err (at_line NoCalendar (Some n.number)))

at_calendar : (n : NumberedLine) (ns : List NumberedLine) → content_of n.line ≡ bare (codes "BEGIN") (codes "VCALENDAR") →
    frame (n ∷ ns) ≡ place outer ns
at_calendar n ns e = ap (first_step n ns) e

framed_lines : (m : Method) (css : List (List Content)) → AllByRecursion AreProperties css → (ns : List NumberedLine) →
    contents ns ≡ sent_front m ++ todos_then css → IsFramed m css ns
framed_lines m css k [] e = absurd cc
framed_lines m css k (a ∷ []) e = absurd (let two = first_two _ _ _ _ e in cc)
framed_lines m css k (a ∷ (b ∷ [])) e = absurd (let two = first_two _ _ _ _ e in let three = first_two _ _ _ _ two.1 in cc)
framed_lines m css k (a ∷ (b ∷ (c ∷ []))) e =
    absurd (let two = first_two _ _ _ _ e in let three = first_two _ _ _ _ two.1 in let four = first_two _ _ _ _ three.1 in cc)
framed_lines m css k (a ∷ (b ∷ (c ∷ (d ∷ ns)))) e =
    let one = first_two (content_of a.line) (bare (codes "BEGIN") (codes "VCALENDAR")) (contents (b ∷ (c ∷ (d ∷ ns))))
    (product ∷ (version ∷ (method_line m ∷ todos_then css))) e in
    let two = first_two (content_of b.line) product (contents (c ∷ (d ∷ ns))) (version ∷ (method_line m ∷ todos_then css)) one.1 in
    let three = first_two (content_of c.line) version (contents (d ∷ ns)) (method_line m ∷ todos_then css) two.1 in
    let four = first_two (content_of d.line) (method_line m) (contents ns) (todos_then css) three.1 in
    let rest = in_calendar css k ns four.1 in
    let placed : List Placed = CalendarLine b ∷ (CalendarLine c ∷ (CalendarLine d ∷ rest.placed)) in
    let last : place outer (d ∷ ns) ≡ Ok (CalendarLine d ∷ rest.placed) =
    at_property (codes "VCALENDAR") [] d ns (method_line m) four.0 refl ∙
    ap (λ (r : Result (List Placed) MessageRefusal). with_front (CalendarLine d ∷ []) r) rest.is in
    let middle : place outer (c ∷ (d ∷ ns)) ≡ Ok (CalendarLine c ∷ (CalendarLine d ∷ rest.placed)) =
    at_property (codes "VCALENDAR") [] c (d ∷ ns) version three.0 refl ∙
    ap (λ (r : Result (List Placed) MessageRefusal). with_front (CalendarLine c ∷ []) r) last in
    let all : place outer (b ∷ (c ∷ (d ∷ ns))) ≡ Ok placed =
    at_property (codes "VCALENDAR") [] b (c ∷ (d ∷ ns)) product two.0 refl ∙
    ap (λ (r : Result (List Placed) MessageRefusal). with_front (CalendarLine b ∷ []) r) middle in
    let first : b.line ≡ line_of product (lawful_of b.line product two.0) = is_line b.line product two.0 in
    let second : c.line ≡ line_of version (lawful_of c.line version three.0) = is_line c.line version three.0 in
    let third : d.line ≡ line_of (method_line m) (lawful_of d.line (method_line m) four.0) = is_line d.line (method_line m) four.0 in
    let heads : head placed ≡ counted (todos rest.placed) (Some d.number) (Some m) =
    (λ i. head_of (line_at b.number (first i) ∷ line_at c.number (second i) ∷ line_at d.number (third i) ∷ rest.no_lines i)
    (todos rest.placed))
    ∙ head_is m b.number c.number d.number (lawful_of b.line product two.0) (lawful_of c.line version three.0)
    (lawful_of d.line (method_line m) four.0) (todos rest.placed) in
    record {
      placed = placed;
      framed = at_calendar a (b ∷ (c ∷ (d ∷ ns))) one.0 ∙ all;
      headed = λ n h. counted_is _ _ _ _ m n (sym heads ∙ h);
      have = rest.have;
    }

pub sent_framed : (m : Method) (all : List Parts) → AllByRecursion (λ p. IsTrue (list_all is_property p.others)) all →
    (ns : List NumberedLine) → contents ns ≡ sent_contents m all → IsFramed m (map (inner_of m) all) ns
sent_framed m all h ns e =
    framed_lines m (map (inner_of m) all) (all_map AreProperties (inner_of m) all (inner m all h)) ns
    (e ∙ ap (λ (cs : List Content). sent_front m ++ cs) (sent_then m all))
  where
    inner : (m : Method) (all : List Parts) → AllByRecursion (λ p. IsTrue (list_all is_property p.others)) all →
        AllByRecursion (λ p. AreProperties (inner_of m p)) all
    inner m [] h = tt
    inner m (p ∷ all) h = (inner_properties m p h.0, inner m all h.1)
