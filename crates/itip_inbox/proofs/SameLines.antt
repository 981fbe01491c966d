-- Texts with the same lines are read as the same items: the numbers of lines tell only where a refusal is.
use Rattle.std.proofs.Common.{◌≡◌, ◌∙◌, sym, ap, refl, subst, ℕ, ◌+◌, ◌≤◌, Bool, true, false, cond, List, [], ◌∷◌, ◌++◌, length, map}
use Rattle.std.specs.Prelude.{nat_lt, codes, Option, Some, None, Result, Ok, Err, ◌&&◌}
use Rattle.std.proofs.lemmas.List.{length-map, map-append}
use Rattle.itip_lines.specs.UnfoldedLines.{NumberedText, numbered_lines_of, texts_of, without_empty}
use Rattle.itip_lines.specs.Reading.{text_limit, AreLines, IsGood, line_at, plain_lines, Reads}
use Rattle.itip_lines.specs.Stretches.{lines_onto}
use Rattle.itip_lines.specs.declared.line.Line.{Line}
use Rattle.itip_lines.specs.declared.line.NumberedLine.{NumberedLine}
use Rattle.itip_lines.proofs.Cuttings.{cutting_of, lines_of_cut}
use Rattle.itip_lines.proofs.Numbers.{lines_plain}
use Rattle.itip_todo.specs.Limits.{Limits, present}
use Rattle.itip_todo.specs.Participation.{same_text}
use Rattle.itip_todo.specs.Reading.{ReadsTodoWithin}
use Rattle.itip_todo.specs.declared.todo.Todo.{Todo}
use Rattle.itip_items.specs.MethodNeeds.{is_begin, is_end}
use Rattle.itip_items.specs.declared.item.Item.{Item}
use Rattle.itip_items.specs.declared.kind.Method.{Method}
use Rattle.itip_message.specs.Frame.{frame, place, with_front, nested, opening, property, component_name, depth_limit, calendar_lines}
use Rattle.itip_message.specs.Frame.{todos, todos_from, begun, with_line}
use Rattle.itip_message.specs.Head.{head, head_of, named, only_value, odd_line, is_version, method_in, counted, todo_limit}
use Rattle.itip_message.specs.Message.{HasHead, AreComponentsWithin, ReadsMessage}
use Rattle.itip_message.specs.Refusals.{at_line}
use Rattle.itip_message.specs.declared.frame.Placed.{Placed}
use Rattle.itip_message.specs.declared.frame.Placed.TheVariants.{CalendarLine, TodoBegins, TodoLine}
use Rattle.itip_message.specs.declared.sort.Component.{Component}
use Rattle.itip_message.specs.declared.error.MessageRefusal.{MessageRefusal}
use Rattle.itip_message.specs.declared.error.MessageCause.TheVariants as cause

-- ---- lines without their numbers

abbrev bare : NumberedLine → NumberedLine
bare line = line_at 0 line.line

abbrev all_bare : List NumberedLine → List NumberedLine
all_bare lines = map bare lines

bare_plain : (lines : List NumberedLine) → plain_lines (all_bare lines) ≡ plain_lines lines
bare_plain [] = refl
bare_plain (line ∷ lines) = ap (λ (rest : List Line). line.line ∷ rest) (bare_plain lines)

plain_bare : (lines : List NumberedLine) → all_bare lines ≡ map (λ (line : Line). line_at 0 line) (plain_lines lines)
plain_bare [] = refl
plain_bare (line ∷ lines) = ap (λ (rest : List NumberedLine). bare line ∷ rest) (plain_bare lines)

same_bare : (xs ys : List NumberedLine) → plain_lines xs ≡ plain_lines ys → all_bare xs ≡ all_bare ys
same_bare xs ys e = plain_bare xs ∙ ap (λ (ls : List Line). map (λ (line : Line). line_at 0 line) ls) e ∙ sym (plain_bare ys)

abbrev bare_placed : Placed → Placed
bare_placed (CalendarLine line) = CalendarLine (bare line)
bare_placed (TodoBegins number) = TodoBegins 0
bare_placed (TodoLine line) = TodoLine (bare line)

abbrev all_placed : List Placed → List Placed
all_placed placed = map bare_placed placed

-- what lines are placed as, without numbers, and nothing if they are refused
abbrev placed_so : Result (List Placed) MessageRefusal → Option (List Placed)
placed_so (Ok placed) = Some (all_placed placed)
placed_so (Err refusal) = None

some_is : {A : Type 0} (a b : A) → Some a ≡ Some b → a ≡ b
some_is a b e = cc

-- ---- they are placed alike

abbrev Answer : Type 0
Answer = Result (List Placed) MessageRefusal

either_so : (b : Bool) (r s t u : Answer) → placed_so r ≡ placed_so t → placed_so s ≡ placed_so u →
    placed_so (cond b r s) ≡ placed_so (cond b t u)
either_so true r s t u first second = first
either_so false r s t u first second = second

front_so : (front others : List Placed) (r s : Answer) → all_placed front ≡ all_placed others → placed_so r ≡ placed_so s →
    placed_so (with_front front r) ≡ placed_so (with_front others s)
front_so front others (Ok p) (Ok q) e h =
    ap (λ (ps : List Placed). Some ps) (map-append bare_placed front p ∙ ap (λ (ps : List Placed). ps ++ all_placed p) e ∙
    ap (λ (ps : List Placed). all_placed others ++ ps) (some_is (all_placed p) (all_placed q) h) ∙ sym (map-append bare_placed others q))
front_so front others (Ok p) (Err f) e h = absurd cc
front_so front others (Err f) (Ok q) e h = absurd cc
front_so front others (Err f) (Err g) e h = refl

opening_so : (inside : List (List ℕ)) (name : List ℕ) (n : ℕ) → all_placed (opening inside name n) ≡ all_placed (opening inside name 0)
opening_so [] name n = refl
opening_so (calendar ∷ []) name n =
    elim (same_text name (codes "VTODO")) as (λ v. all_placed (cond v (TodoBegins n ∷ []) []) ≡ all_placed (cond v (TodoBegins 0 ∷ []) []))
    [ true ↦ refl | false ↦ refl ]
opening_so (inner ∷ (outer ∷ others)) name n = refl

property_so : (inside : List (List ℕ)) (line : NumberedLine) →
    all_placed (property inside line) ≡ all_placed (property inside (bare line))
property_so [] line = refl
property_so (calendar ∷ []) line = refl
property_so (inner ∷ (calendar ∷ [])) line =
    elim (same_text inner (codes "VTODO")) as (λ v. all_placed (cond v (TodoLine line ∷ []) []) ≡
    all_placed (cond v (TodoLine (bare line) ∷ []) [])) [ true ↦ refl | false ↦ refl ]
property_so (inner ∷ (outer ∷ (other ∷ others))) line = refl

place_so : (inside : List (List ℕ)) (lines : List NumberedLine) → placed_so (place inside lines) ≡ placed_so (place inside (all_bare lines))
place_so [] [] = refl
place_so (name ∷ outer) [] = refl
place_so [] (line ∷ lines) = refl
place_so (name ∷ outer) (line ∷ lines) =
    let inner : List ℕ = component_name line.line in
    let at : Answer = nested (Some line.number) in
    let nowhere : Answer = nested (Some 0) in
    let begins : ℕ → List NumberedLine → Answer =
    λ n ls. with_front (opening (name ∷ outer) inner n) (place (inner ∷ (name ∷ outer)) ls) in
    let goes_on : NumberedLine → List NumberedLine → Answer =
    λ l ls. with_front (property (name ∷ outer) l) (place (name ∷ outer) ls) in
    let deep : Bool = nat_lt (length (name ∷ outer)) depth_limit in
    let same : Bool = same_text inner name in
    either_so (is_begin line.line) (cond deep (begins line.number lines) at)
    (cond (is_end line.line) (cond same (place outer lines) at) (goes_on line lines)) (cond deep (begins 0 (all_bare lines)) nowhere)
    (cond (is_end line.line) (cond same (place outer (all_bare lines)) nowhere) (goes_on (bare line) (all_bare lines)))
    (either_so deep (begins line.number lines) at (begins 0 (all_bare lines)) nowhere
    (front_so (opening (name ∷ outer) inner line.number) (opening (name ∷ outer) inner 0) (place (inner ∷ (name ∷ outer)) lines)
    (place (inner ∷ (name ∷ outer)) (all_bare lines)) (opening_so (name ∷ outer) inner line.number)
    (place_so (inner ∷ (name ∷ outer)) lines)) refl)
    (either_so (is_end line.line) (cond same (place outer lines) at) (goes_on line lines) (cond same (place outer (all_bare lines)) nowhere)
    (goes_on (bare line) (all_bare lines))
    (either_so same (place outer lines) at (place outer (all_bare lines)) nowhere (place_so outer lines) refl)
    (front_so (property (name ∷ outer) line) (property (name ∷ outer) (bare line)) (place (name ∷ outer) lines)
    (place (name ∷ outer) (all_bare lines)) (property_so (name ∷ outer) line) (place_so (name ∷ outer) lines)))

frame_so : (lines : List NumberedLine) → placed_so (frame lines) ≡ placed_so (frame (all_bare lines))
frame_so [] = refl
frame_so (line ∷ lines) =
    either_so (is_begin line.line && same_text (component_name line.line) (codes "VCALENDAR")) (place (codes "VCALENDAR" ∷ []) lines)
    (Err (at_line cause.NoCalendar (Some line.number))) (place (codes "VCALENDAR" ∷ []) (all_bare lines))
    (Err (at_line cause.NoCalendar (Some 0))) (place_so (codes "VCALENDAR" ∷ []) lines) refl

-- lines that are placed, but for their numbers, as others are
record ArePlacedSo (lines : List NumberedLine) (placed : List Placed) : Type 0 where
  others : List Placed
  framed : frame lines ≡ Ok others
  same : all_placed others ≡ all_placed placed

were_placed : (lines : List NumberedLine) (r : Answer) (placed : List Placed) → frame lines ≡ r → placed_so r ≡ Some (all_placed placed) →
    ArePlacedSo lines placed
were_placed lines (Ok others) placed is e =
    record { others = others; framed = is; same = some_is (all_placed others) (all_placed placed) e }
were_placed lines (Err refusal) placed is e = absurd cc

placed_alike : (xs ys : List NumberedLine) (placed : List Placed) → plain_lines xs ≡ plain_lines ys → frame xs ≡ Ok placed →
    ArePlacedSo ys placed
placed_alike xs ys placed e framed =
    were_placed ys (frame ys) placed refl
    (frame_so ys ∙ ap (λ (ls : List NumberedLine). placed_so (frame ls)) (sym (same_bare xs ys e)) ∙ sym (frame_so xs) ∙
    ap placed_so framed)

-- ---- the head

abbrev bare_component : Component → Component
bare_component component = record { begins = 0; lines = all_bare component.lines }

bare_calendar : (placed : List Placed) → calendar_lines (all_placed placed) ≡ all_bare (calendar_lines placed)
bare_calendar [] = refl
bare_calendar (CalendarLine line ∷ placed) = ap (λ (ls : List NumberedLine). bare line ∷ ls) (bare_calendar placed)
bare_calendar (TodoBegins number ∷ placed) = bare_calendar placed
bare_calendar (TodoLine line ∷ placed) = bare_calendar placed

bare_more : (first : Component) (line : NumberedLine) → with_line (bare_component first) (bare line) ≡ bare_component (with_line first line)
bare_more first line =
    ap (λ (ls : List NumberedLine). record { begins = 0; lines = ls }) (sym (map-append bare first.lines (line ∷ [])))

bare_from : (first : Component) (placed : List Placed) →
    todos_from (bare_component first) (all_placed placed) ≡ map bare_component (todos_from first placed)
bare_from first [] = refl
bare_from first (TodoLine line ∷ placed) =
    ap (λ (c : Component). todos_from c (all_placed placed)) (bare_more first line) ∙ bare_from (with_line first line) placed
bare_from first (TodoBegins number ∷ placed) =
    ap (λ (cs : List Component). bare_component first ∷ cs) (bare_from (begun number) placed)
bare_from first (CalendarLine line ∷ placed) = bare_from first placed

bare_todos : (placed : List Placed) → todos (all_placed placed) ≡ map bare_component (todos placed)
bare_todos [] = refl
bare_todos (TodoBegins number ∷ placed) = bare_from (begun number) placed
bare_todos (CalendarLine line ∷ placed) = bare_todos placed
bare_todos (TodoLine line ∷ placed) = bare_todos placed

abbrev method_so : Result Method MessageRefusal → Option Method
method_so (Ok m) = Some m
method_so (Err refusal) = None

-- the method by what counts of the head: the values of VERSION and METHOD, and how many to-dos there are
abbrev counted_so : ℕ → Option Method → Option Method
counted_so count None = None
counted_so count (Some m) = cond (nat_lt todo_limit count) None (cond (nat_lt 0 count) (Some m) None)

abbrev head_so : Option (List ℕ) → Option (List ℕ) → ℕ → Option Method
head_so version method_text count = cond (is_version version) (counted_so count (method_in method_text)) None

either_method : (b : Bool) (r s : Result Method MessageRefusal) → method_so (cond b r s) ≡ cond b (method_so r) (method_so s)
either_method true r s = refl
either_method false r s = refl

counted_is : (components : List Component) (line : Option ℕ) (o : Option Method) →
    method_so (counted components line o) ≡ counted_so (length components) o
counted_is components line None = refl
counted_is components line (Some m) =
    either_method (nat_lt todo_limit (length components)) _ _ ∙
    ap (λ (o : Option Method). cond (nat_lt todo_limit (length components)) None o) (either_method (nat_lt 0 (length components)) _ _)

head_is : (calendar : List NumberedLine) (components : List Component) → method_so (head_of calendar components) ≡
    head_so (only_value (named (codes "VERSION") calendar)) (only_value (named (codes "METHOD") calendar)) (length components)
head_is calendar components =
    let version : Bool = is_version (only_value (named (codes "VERSION") calendar)) in
    either_method version _ _ ∙
    ap (λ (o : Option Method). cond version o None) (counted_is components (odd_line (named (codes "METHOD") calendar))
    (method_in (only_value (named (codes "METHOD") calendar))))

named_bare : (name : List ℕ) (lines : List NumberedLine) → named name (all_bare lines) ≡ all_bare (named name lines)
named_bare name [] = refl
named_bare name (line ∷ lines) =
    elim (same_text line.line.name name) as (λ v. cond v (bare line ∷ named name (all_bare lines)) (named name (all_bare lines)) ≡
    all_bare (cond v (line ∷ named name lines) (named name lines))) [
      | true ↦ ap (λ (ls : List NumberedLine). bare line ∷ ls) (named_bare name lines)
      | false ↦ named_bare name lines
    ]

value_bare : (lines : List NumberedLine) → only_value (all_bare lines) ≡ only_value lines
value_bare [] = refl
value_bare (line ∷ []) = refl
value_bare (line ∷ (other ∷ others)) = refl

head_bare : (placed : List Placed) → method_so (head (all_placed placed)) ≡ method_so (head placed)
head_bare placed =
    let calendar : List NumberedLine = calendar_lines placed in
    let components : List Component = todos placed in
    let value : (name : List ℕ) → only_value (named name (all_bare calendar)) ≡ only_value (named name calendar) =
    λ name. ap only_value (named_bare name calendar) ∙ value_bare (named name calendar) in
    (λ i. method_so (head_of (bare_calendar placed i) (bare_todos placed i))) ∙ head_is (all_bare calendar) (map bare_component components)
    ∙ (λ i. head_so (value (codes "VERSION") i) (value (codes "METHOD") i) (length-map components bare_component i))
    ∙ sym (head_is calendar components)

method_is : (r : Result Method MessageRefusal) (m : Method) → method_so r ≡ Some m → r ≡ Ok m
method_is (Ok n) m e = ap (λ (x : Method). Ok x) (some_is n m e)
method_is (Err refusal) m e = absurd cc

head_alike : (placed others : List Placed) (m : Method) → all_placed others ≡ all_placed placed → head placed ≡ Ok m → head others ≡ Ok m
head_alike placed others m same headed =
    method_is (head others) m
    (sym (head_bare others) ∙ ap (λ (ps : List Placed). method_so (head ps)) same ∙ head_bare placed ∙ ap method_so headed)

-- ---- the to-dos

first_is : {A : Type 0} (x y : A) (xs ys : List A) → x ∷ xs ≡ y ∷ ys → (x ≡ y) × (xs ≡ ys)
first_is x y xs ys e = (cc, cc)

todos_alike : (limits : Limits) (m : Method) (xs ys : List Component) (all : List Todo) → map bare_component ys ≡ map bare_component xs →
    AreComponentsWithin limits m xs all → AreComponentsWithin limits m ys all
todos_alike limits m [] [] all same read = read
todos_alike limits m [] (y ∷ ys) all same read = absurd cc
todos_alike limits m (x ∷ xs) [] all same read = absurd cc
todos_alike limits m (x ∷ xs) (y ∷ ys) [] same read = absurd read
todos_alike limits m (x ∷ xs) (y ∷ ys) (todo ∷ all) same read =
    let parts = first_is (bare_component y) (bare_component x) (map bare_component ys) (map bare_component xs) same in
    let lines : plain_lines x.lines ≡ plain_lines y.lines =
    sym (bare_plain x.lines) ∙ ap (λ (c : Component). plain_lines c.lines) (sym parts.0) ∙ bare_plain y.lines in (
      record { reads = subst (λ (ls : List Line). ReadsTodoWithin limits ls todo) lines read.0.reads; fits = read.0.fits },
      todos_alike limits m xs ys all parts.1 read.1,
    )

-- ---- texts

-- the lines of one text, with the numbers that they have in another
record AreRenumbered (count : ℕ) (texts : List NumberedText) (lines : List NumberedLine) : Type 0 where
  numbered : List NumberedLine
  same : plain_lines lines ≡ plain_lines numbered
  are : AreLines count texts numbered

renumbered : (count : ℕ) (ts us : List NumberedText) (lines : List NumberedLine) → texts_of us ≡ texts_of ts → AreLines count ts lines →
    AreRenumbered count us lines
renumbered count [] [] [] same are = record { numbered = []; same = refl; are = tt }
renumbered count [] [] (line ∷ lines) same are = absurd are
renumbered count [] (u ∷ us) lines same are = absurd cc
renumbered count (t ∷ ts) [] lines same are = absurd cc
renumbered count (t ∷ ts) (u ∷ us) [] same are = absurd are
renumbered count (t ∷ ts) (u ∷ us) (line ∷ lines) same are =
    let parts = first_is u.text t.text (texts_of us) (texts_of ts) same in
    let more = renumbered (count + 1) ts us lines parts.1 are.2 in
    record {
      numbered = line_at u.number line.line ∷ more.numbered;
      same = ap (λ (ls : List Line). line.line ∷ ls) more.same;
      are = (refl, subst (λ (text : List ℕ). IsGood count text line.line) (sym parts.0) are.1, more.are);
    }

-- the lines of a text, unfolded, without the empty ones
abbrev pub lines_in : List ℕ → List (List ℕ)
lines_in text = without_empty (lines_onto [] text)

-- what is read of one text is read of the other, but for the numbers
record ReadsAlso (text : List ℕ) (lines : List NumberedLine) : Type 0 where
  numbered : List NumberedLine
  same : plain_lines lines ≡ plain_lines numbered
  reads : Reads text numbered

reads_also : (a b : List ℕ) (lines : List NumberedLine) → lines_in b ≡ lines_in a → length b ≤ text_limit → Reads a lines →
    ReadsAlso b lines
reads_also a b lines same short reads =
    let cutting = cutting_of b in
    let texts : texts_of (numbered_lines_of cutting.pieces cutting.last) ≡ texts_of (numbered_lines_of reads.pieces reads.last) =
    lines_plain cutting.pieces cutting.last ∙ lines_of_cut b cutting.pieces cutting.last cutting.cut ∙ same ∙
    sym (lines_of_cut a reads.pieces reads.last reads.cut) ∙ sym (lines_plain reads.pieces reads.last) in
    let more = renumbered 1 (numbered_lines_of reads.pieces reads.last) (numbered_lines_of cutting.pieces cutting.last) lines texts
    reads.lines_are in
    record {
      numbered = more.numbered;
      same = more.same;
      reads = record { pieces = cutting.pieces; last = cutting.last; short = short; cut = cutting.cut; lines_are = more.are };
    }

-- a text with the lines of another, which is read, gives the same items, unless it is too long
pub same_lines_read : (a b : List ℕ) (items : List Item) → lines_in b ≡ lines_in a → length b ≤ text_limit → ReadsMessage a items →
    ReadsMessage b items
same_lines_read a b items same short message =
    let begins : HasHead a message.method_is message.components = message.begins in
    let also = reads_also a b begins.content same short begins.reads in
    let placed = placed_alike begins.content also.numbered begins.placed also.same begins.framed in
    record {
      method_is = message.method_is;
      components = todos placed.others;
      all = message.all;
      begins = record {
        content = also.numbered;
        placed = placed.others;
        reads = also.reads;
        framed = placed.framed;
        headed = head_alike begins.placed placed.others message.method_is placed.same begins.headed;
        components_are = refl;
      };
      read = todos_alike present message.method_is (todos begins.placed) (todos placed.others) message.all
          (sym (bare_todos placed.others) ∙ ap todos placed.same ∙ bare_todos begins.placed)
          (subst (λ (cs : List Component). AreComponentsWithin present message.method_is cs message.all) begins.components_are
          message.read);
      within = message.within;
      items_are = message.items_are;
    }
