-- The lines of a canonical form are framed, have a head, and hold one to-do.
use Rattle.std.proofs.Common.{◌≡◌, ◌∙◌, sym, ap, refl, ℕ, Bool, true, false, List, [], ◌∷◌, ◌++◌, map, append-nil, append_assoc}
use Rattle.std.proofs.Common.{subst, Option, Some, None, Ok, IsTrue}
use Rattle.std.specs.Prelude.{Result, not, ◌||◌, codes}
use Rattle.std.specs.List.{AllByRecursion, list_all}
use Rattle.std.proofs.lemmas.Bool.{and_parts}
use Rattle.itip_lines.specs.Reading.{line_at, plain_lines}
use Rattle.itip_lines.specs.declared.line.Line.{Line}
use Rattle.itip_lines.specs.declared.line.Param.{Param}
use Rattle.itip_lines.specs.declared.line.NumberedLine.{NumberedLine}
use Rattle.itip_todo.specs.Lawful.{IsLawfulContent}
use Rattle.itip_todo.specs.Parts.{Parts}
use Rattle.itip_todo.specs.Written.{Content, content_of, parts_contents, property_line, moment_line, plain, optional}
use Rattle.itip_todo.specs.declared.property_name.PropertyName.TheVariants as name
use Rattle.itip_message.specs.Frame.{frame, place, with_front, begun, todos, todos_from, calendar_lines}
use Rattle.itip_items.specs.MethodNeeds.{is_begin, is_end}
use Rattle.itip_todo.specs.Participation.{same_text}
use Rattle.itip_message.specs.Head.{head, head_of}
use Rattle.itip_items.specs.Items.{bare, method_of, method_text}
use Rattle.itip_items.specs.MethodNeeds.{is_property}
use Rattle.itip_message.specs.declared.sort.Component.{Component}
use Rattle.itip_message.specs.declared.frame.Placed.{Placed}
use Rattle.itip_message.specs.declared.frame.Placed.TheVariants.{CalendarLine, TodoBegins, TodoLine}
use Rattle.itip_items.specs.declared.kind.Kind.{Kind}
use Rattle.itip_items.specs.declared.kind.Kind.TheVariants as kind
use Rattle.itip_message.specs.declared.error.MessageRefusal.{MessageRefusal}
use Rattle.itip_todo.proofs.ContentLines.{lines_from, contents_of}
use Rattle.itip_items.proofs.Pieces.{base_of, rid_of, start_of, due_of, status_of, percent_of, priority_of, summary_of, organizer_of}
use Rattle.itip_items.proofs.Pieces.{attendees_of, rule_of, rdates_of, exdates_of, others_of, from_rid, from_start, from_due, from_status}
use Rattle.itip_items.proofs.Pieces.{from_percent, from_priority, from_summary, from_organizer, from_attendees, from_rule, from_rdates}
use Rattle.itip_items.proofs.Pieces.{from_exdates}

-- contents that neither begin nor end a component

abbrev IsProperty : Content → Type 0
IsProperty c = IsTrue (not (same_text c.name (codes "BEGIN") || same_text c.name (codes "END")))

abbrev AreProperties : List Content → Type 0
AreProperties cs = AllByRecursion IsProperty cs

both : (cs ds : List Content) → AreProperties cs → AreProperties ds → AreProperties (cs ++ ds)
both [] ds h k = k
both (c ∷ cs) ds h k = (h.0, both cs ds h.1 k)

of_option : {A : Type 0} (line : A → Content) (o : Option A) → ((a : A) → IsProperty (line a)) → AreProperties (optional line o)
of_option line None h = tt
of_option line (Some a) h = (h a, tt)

of_list : {A : Type 0} (line : A → Content) (list : List A) → ((a : A) → IsProperty (line a)) → AreProperties (map line list)
of_list line [] h = tt
of_list line (a ∷ list) h = (h a, of_list line list h)

of_others : (lines : List Line) → IsTrue (list_all is_property lines) → AreProperties (map content_of lines)
of_others [] h = tt
of_others (line ∷ lines) h = let p = and_parts _ _ h in (p.0, of_others lines p.1)

parts_properties : (p : Parts) → IsTrue (list_all is_property p.others) → AreProperties (parts_contents p)
parts_properties p h = (
  refl,
  (
    refl,
    (
      refl,
      both (base_of p) (from_rid p) (of_option _ p.base (λ a. refl))
          (both (rid_of p) (from_start p) (of_option _ p.rid (λ a. refl))
          (both (start_of p) (from_due p) (of_option _ p.start (λ a. refl))
          (both (due_of p) (from_status p) (of_option _ p.due (λ a. refl))
          (both (status_of p) (from_percent p) (of_option _ p.status (λ a. refl))
          (both (percent_of p) (from_priority p) (of_option _ p.percent (λ a. refl))
          (both (priority_of p) (from_summary p) (of_option _ p.priority (λ a. refl))
          (both (summary_of p) (from_organizer p) (of_option _ p.summary (λ a. refl))
          (both (organizer_of p) (from_attendees p) (of_option _ p.organizer (λ a. refl))
          (both (attendees_of p) (from_rule p) (of_list (property_line name.Attendee) p.attendees (λ a. refl))
          (both (rule_of p) (from_rdates p) (of_list (plain name.RRule) p.rule (λ a. refl))
          (both (rdates_of p) (from_exdates p) (of_list (moment_line name.RDate) p.rdates (λ a. refl))
          (both (exdates_of p) (others_of p) (of_list (moment_line name.ExDate) p.exdates (λ a. refl))
          (of_others p.others h))))))))))))),
    ),
  ),
)

-- they are placed in the to-do

abbrev pub ends : List Content
ends = bare (codes "END") (codes "VTODO") ∷ bare (codes "END") (codes "VCALENDAR") ∷ []

abbrev front : (cs ds : List Content) → AllByRecursion IsLawfulContent (cs ++ ds) → AllByRecursion IsLawfulContent cs
front [] ds h = tt
front (c ∷ cs) ds h = (h.0, front cs ds h.1)

abbrev inside : List (List ℕ)
inside = codes "VTODO" ∷ codes "VCALENDAR" ∷ []

neither : (b e : Bool) → IsTrue (not (b || e)) → (b ≡ false) × (e ≡ false)
neither true e h = absurd (cc)
neither false true h = absurd (cc)
neither false false h = (refl, refl)

one_placed : (line : NumberedLine) (lines : List NumberedLine) (rest : List Placed) → IsTrue (is_property line.line) →
    place inside lines ≡ Ok rest → place inside (line ∷ lines) ≡ Ok (TodoLine line ∷ rest)
one_placed line lines rest h e = let p = neither (is_begin line.line) (is_end line.line) h in
    rw (p.0, p.1) (ap (λ (r : Result (List Placed) MessageRefusal). with_front (TodoLine line ∷ []) r) e)

abbrev line_of : (c : Content) → IsLawfulContent c → Line
line_of c h = record { name = c.name; params = c.params; value = c.value; lawful = h }

-- the first of numbered lines that are these
record Begins (ns : List NumberedLine) (line : Line) (lines : List Line) : Type 0 where
  first : NumberedLine
  others : List NumberedLine
  whole : ns ≡ first ∷ others
  is : first.line ≡ line
  are : plain_lines others ≡ lines

begins : (ns : List NumberedLine) (line : Line) (lines : List Line) → plain_lines ns ≡ line ∷ lines → Begins ns line lines
begins [] line lines e = absurd cc
begins (n ∷ ns) line lines e =
    record {
      first = n;
      others = ns;
      whole = refl;
      is = (let same : n.line ≡ line = cc in same);
      are =
          (let same : plain_lines ns ≡ lines = cc in same);
    }

no_more : (ns : List NumberedLine) → plain_lines ns ≡ [] → ns ≡ []
no_more [] e = refl
no_more (n ∷ ns) e = absurd cc

-- the lines of contents that are no BEGIN and no END, up to the end of the to-do
record InTodo (cs : List Content) (h : AllByRecursion IsLawfulContent (cs ++ ends)) (ns : List NumberedLine) : Type 0 where
  inner : List NumberedLine
  placed : place inside ns ≡ Ok (map TodoLine inner)
  are : plain_lines inner ≡ lines_from cs (front cs ends h)

ended : (h : AllByRecursion IsLawfulContent ends) (a b : NumberedLine) → a.line ≡ line_of (bare (codes "END") (codes "VTODO")) h.0 →
    b.line ≡ line_of (bare (codes "END") (codes "VCALENDAR")) h.1.0
    → place inside (a ∷ b ∷ []) ≡ Ok []
ended h a b x y = λ i. place inside (line_at a.number (x i) ∷ line_at b.number (y i) ∷ [])

todo_placed : (cs : List Content) (h : AllByRecursion IsLawfulContent (cs ++ ends)) → AreProperties cs → (ns : List NumberedLine) →
    plain_lines ns ≡ lines_from (cs ++ ends) h → InTodo cs h ns
todo_placed [] h k ns e =
    let a = begins ns _ _ e in
    let b = begins a.others _ _ a.are in
    let all : ns ≡ a.first ∷ b.first ∷ [] = a.whole ∙
    ap (λ (ls : List NumberedLine). a.first ∷ ls) (b.whole ∙ ap (λ (ls : List NumberedLine). b.first ∷ ls) (no_more b.others b.are)) in
    record { inner = []; placed = ap (place inside) all ∙ ended h a.first b.first a.is b.is; are = refl }
todo_placed (c ∷ cs) h k ns e =
    let a = begins ns _ _ e in
    let rest = todo_placed cs h.1 k.1 a.others a.are in
    let property : IsTrue (is_property a.first.line) = subst (λ (line : Line). IsTrue (is_property line)) (sym a.is) k.0 in
    record {
      inner = a.first ∷ rest.inner;
      placed = ap (place inside) a.whole ∙ one_placed a.first a.others (map TodoLine rest.inner) property rest.placed;
      are = λ i. a.is i ∷ rest.are i;
    }

none_calendar : (lines : List NumberedLine) → calendar_lines (map TodoLine lines) ≡ []
none_calendar [] = refl
none_calendar (line ∷ lines) = none_calendar lines

abbrev with_lines : Component → List NumberedLine → Component
with_lines first lines = record { begins = first.begins; lines = first.lines ++ lines }

one_todo : (first : Component) (lines : List NumberedLine) → todos_from first (map TodoLine lines) ≡ with_lines first lines ∷ []
one_todo first [] = ap (λ (all : List NumberedLine). record { begins = first.begins; lines = all } ∷ []) (sym (append-nil first.lines))
one_todo first (line ∷ lines) = one_todo (with_lines first (line ∷ [])) lines ∙
    ap (λ (all : List NumberedLine). record { begins = first.begins; lines = all } ∷ []) (append_assoc first.lines (line ∷ []) lines)

-- the lines of the canonical form of parts
pub record IsFramed (k : Kind) (p : Parts) (lines : List NumberedLine) : Type 0 where
  pub placed : List Placed
  pub inner : Component
  pub framed : frame lines ≡ Ok placed
  pub headed : head placed ≡ Ok (method_of k)
  pub todos_are : todos placed ≡ inner ∷ []
  pub contents : map content_of (plain_lines inner.lines) ≡ parts_contents p

abbrev pub product : List Param → Content
product params = record { name = codes "PRODID"; params = params; value = codes "-//itipdesk//1//EN" }

abbrev pub version : List Param → Content
version params = record { name = codes "VERSION"; params = params; value = codes "2.0" }

abbrev pub method_line : Kind → Content
method_line k = bare (codes "METHOD") (method_text (method_of k))

-- the canonical form, with these parameters of PRODID and VERSION
abbrev pub marked_contents : List Param → List Param → Kind → Parts → List Content
marked_contents ps vs k p =
    (bare (codes "BEGIN") (codes "VCALENDAR") ∷ product ps ∷ version vs ∷ method_line k ∷ bare (codes "BEGIN") (codes "VTODO") ∷ [])
    ++ (parts_contents p ++ ends)

head_is : {ps vs : List Param} (k : Kind) (l m n : ℕ) (a : IsLawfulContent (product ps)) (b : IsLawfulContent (version vs))
    (c : IsLawfulContent (method_line k)) (todo : Component)
    → head_of (line_at l (line_of (product ps) a) ∷ line_at m (line_of (version vs) b) ∷ line_at n (line_of (method_line k) c) ∷ [])
    (todo ∷ []) ≡ Ok (method_of k)
head_is kind.Request l m n a b c todo = refl
head_is kind.Add l m n a b c todo = refl
head_is kind.Remove l m n a b c todo = refl
head_is kind.Cancel l m n a b c todo = refl
head_is kind.Reply l m n a b c todo = refl
head_is kind.Refresh l m n a b c todo = refl

-- the five lines before those of the to-do, where each has some number
module _ (ps vs : List Param) (k : Kind) (p : Parts) (h : AllByRecursion IsLawfulContent (marked_contents ps vs k p)) where
  abbrev before : ℕ → ℕ → ℕ → ℕ → List Placed
  before l m n o = CalendarLine (line_at l (line_of (product ps) h.1.0)) ∷ CalendarLine (line_at m (line_of (version vs) h.1.1.0)) ∷
      CalendarLine (line_at n (line_of (method_line k) h.1.1.1.0)) ∷ TodoBegins o ∷ []

  framed_so : (a b c d e : NumberedLine) (rest inner : List NumberedLine)
      → a.line ≡ line_of (bare (codes "BEGIN") (codes "VCALENDAR")) h.0 → b.line ≡ line_of (product ps) h.1.0 →
      c.line ≡ line_of (version vs) h.1.1.0 → d.line ≡ line_of (method_line k) h.1.1.1.0 →
      e.line ≡ line_of (bare (codes "BEGIN") (codes "VTODO")) h.1.1.1.1.0
      → place inside rest ≡ Ok (map TodoLine inner) →
      frame (a ∷ b ∷ c ∷ d ∷ e ∷ rest) ≡ Ok (before b.number c.number d.number e.number ++ map TodoLine inner)
  framed_so a b c d e rest inner x y z u v placed =
      (λ i. frame (line_at a.number (x i) ∷ line_at b.number (y i) ∷ line_at c.number (z i) ∷ line_at d.number (u i) ∷
      line_at e.number (v i) ∷ rest))
      ∙ ap (λ (r : Result (List Placed) MessageRefusal). with_front (CalendarLine (line_at b.number (line_of (product ps) h.1.0)) ∷ [])
      (with_front (CalendarLine (line_at c.number (line_of (version vs) h.1.1.0)) ∷ [])
      (with_front (CalendarLine (line_at d.number (line_of (method_line k) h.1.1.1.0)) ∷ [])
      (with_front (TodoBegins e.number ∷ []) r)))) placed

pub marked_framed : (ps vs : List Param) (k : Kind) (p : Parts) (h : AllByRecursion IsLawfulContent (marked_contents ps vs k p)) →
    IsTrue (list_all is_property p.others) → (ns : List NumberedLine) → plain_lines ns ≡ lines_from (marked_contents ps vs k p) h →
    IsFramed k p ns
marked_framed ps vs k p h others ns e =
    let cs : List Content = parts_contents p in
    let a = begins ns _ _ e in
    let b = begins a.others _ _ a.are in
    let c = begins b.others _ _ b.are in
    let d = begins c.others _ _ c.are in
    let f = begins d.others _ _ d.are in
    let rest = todo_placed cs h.1.1.1.1.1 (parts_properties p others) f.others f.are in
    let first : Component = begun f.first.number in
    let all : ns ≡ a.first ∷ b.first ∷ c.first ∷ d.first ∷ f.first ∷ f.others =
    a.whole ∙ ap (λ (ls : List NumberedLine). a.first ∷ ls) (b.whole ∙
    ap (λ (ls : List NumberedLine). b.first ∷ ls) (c.whole ∙
    ap (λ (ls : List NumberedLine). c.first ∷ ls) (d.whole ∙ ap (λ (ls : List NumberedLine). d.first ∷ ls) f.whole))) in
    record {
      placed = before ps vs k p h b.first.number c.first.number d.first.number f.first.number ++ map TodoLine rest.inner;
      inner = with_lines first rest.inner;
      framed = ap frame all ∙ framed_so ps vs k p h a.first b.first c.first d.first f.first f.others rest.inner a.is b.is c.is d.is f.is
          rest.placed;
      headed = (λ i. head_of (line_at b.first.number (line_of (product ps) h.1.0) ∷ line_at c.first.number (line_of (version vs) h.1.1.0) ∷
          line_at d.first.number (line_of (method_line k) h.1.1.1.0) ∷ none_calendar rest.inner i) (one_todo first rest.inner i))
          ∙ head_is k b.first.number c.first.number d.first.number h.1.0 h.1.1.0 h.1.1.1.0 (with_lines first rest.inner);
      todos_are = one_todo first rest.inner;
      contents = ap (map content_of) rest.are ∙ contents_of cs (front cs ends h.1.1.1.1.1);
    }
