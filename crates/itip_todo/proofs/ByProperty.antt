-- Which of the lines that a to-do is written as are of each property.
use Rattle.std.proofs.Common.{◌≡◌, ◌∙◌, ap, refl, sym, subst, ℕ, ◌==◌, ◌<◌, Bool, true, false, cond, ◌&&◌, ◌||◌, List, [], ◌∷◌, ◌++◌}
use Rattle.std.proofs.Common.{append-nil, arith, map, Option, Some, None}
use Rattle.std.specs.Prelude.{IsTrue}
use Rattle.std.specs.List.{AllByRecursion, filter, list_any, list_all}
use Rattle.std.proofs.lemmas.List.Elements.{filter-append}
use Rattle.std.proofs.lemmas.Bool.{and_parts, eqb-true}
use Rattle.itip_lines.specs.declared.line.Line.{Line}
use Rattle.std.specs.Fmt.{decimal}
use Rattle.itip_moment.specs.Written.{stamp_text, moment_text, moment_tzid}
use Rattle.itip_moment.specs.declared.moment.Moment.{Moment}
use Rattle.itip_moment.proofs.ValueLaws.{moment_text-MomentText}
use Rattle.itip_todo.specs.Parts.{Parts}
use Rattle.itip_todo.specs.Reading.{lines_of}
use Rattle.itip_todo.specs.Table.{property_of, read_as, is_same, is_other}
use Rattle.itip_todo.specs.Written.{Content, content_of, plain, moment_line, optional, head_contents, parts_contents}
use Rattle.itip_todo.specs.declared.property_name.PropertyName.{PropertyName}
use Rattle.itip_todo.specs.declared.property_name.PropertyName.TheVariants as name
use Rattle.itip_todo.proofs.Commas.{IsHigh, moment_high}
use Rattle.itip_todo.proofs.Names.{same_is}
use Rattle.itip_todo.proofs.Segments.{base_lines, rid_lines, start_lines, due_lines, status_lines, percent_lines, priority_lines}
use Rattle.itip_todo.proofs.Segments.{summary_lines, organizer_lines, attendee_lines, rule_lines, rdate_lines, exdate_lines, other_lines}
use Rattle.itip_todo.proofs.Segments.{other_on, exdate_on, rdate_on, rule_on, attendee_on, organizer_on, summary_on, priority_on}
use Rattle.itip_todo.proofs.Segments.{percent_on, status_on, due_on, start_on, rid_on, base_on}

-- the property that a line with this content is read as
abbrev pub property_in : Content → PropertyName
property_in c = read_as c.name c.value

abbrev pub contents_named : List Content → PropertyName → List Content
contents_named cs p = filter (λ c. is_same (property_in c) p) cs

pub same_itself : (p : PropertyName) → is_same p p ≡ true
same_itself name.Uid = refl
same_itself name.DtStamp = refl
same_itself name.Sequence = refl
same_itself name.DeskBase = refl
same_itself name.RecurrenceId = refl
same_itself name.DtStart = refl
same_itself name.Due = refl
same_itself name.Status = refl
same_itself name.PercentComplete = refl
same_itself name.Priority = refl
same_itself name.Summary = refl
same_itself name.Organizer = refl
same_itself name.Attendee = refl
same_itself name.RRule = refl
same_itself name.RDate = refl
same_itself name.ExDate = refl
same_itself name.Others = refl

-- lines and their contents are of the same properties
pub named_contents : (lines : List Line) (p : PropertyName) → map content_of (lines_of lines p) ≡ contents_named (map content_of lines) p
unfolding property_of
named_contents [] p = refl
named_contents (l ∷ lines) p =
    elim (is_same (property_of l) p) as (λ b. map content_of (cond b (l ∷ lines_of lines p) (lines_of lines p)) ≡ cond b (content_of l ∷
    contents_named (map content_of lines) p) (contents_named (map content_of lines) p)) [
      | true ↦ ap (λ (cs : List Content). content_of l ∷ cs) (named_contents lines p)
      | false ↦ named_contents lines p
    ]

abbrev AreOf : PropertyName → List Content → Type 0
AreOf q cs = AllByRecursion (λ c. property_in c ≡ q) cs

one_more : (b : Bool) (c : Content) (cs rest : List Content) → rest ≡ cond b cs [] → cond b (c ∷ rest) rest ≡ cond b (c ∷ cs) []
one_more true c cs rest e = ap (λ (xs : List Content). c ∷ xs) e
one_more false c cs rest e = e

abbrev no_content : List Content
no_content = []

none_of : (b : Bool) → no_content ≡ cond b no_content no_content
none_of true = refl
none_of false = refl

-- contents of one property are of no other
of_one : (q p : PropertyName) (cs : List Content) → AreOf q cs → contents_named cs p ≡ cond (is_same q p) cs []
of_one q p [] h = none_of (is_same q p)
of_one q p (c ∷ cs) h =
    subst (λ (r : PropertyName). cond (is_same r p) (c ∷ contents_named cs p) (contents_named cs p) ≡ cond (is_same q p) (c ∷ cs) [])
    (sym h.0)
    (one_more (is_same q p) c cs (contents_named cs p) (of_one q p cs h.1))

step : (q p : PropertyName) (cs rest : List Content) → AreOf q cs → contents_named (cs ++ rest) p ≡ cond (is_same q p) cs [] ++
    contents_named rest p
step q p cs rest h = filter-append (λ c. is_same (property_in c) p) cs rest ∙
    ap (λ (xs : List Content). xs ++ contents_named rest p) (of_one q p cs h)

-- the property of each line

no_slash : (text : List ℕ) → IsHigh text → list_any (λ c. c == 47) text ≡ false
no_slash [] h = refl
no_slash (c ∷ text) h = elim (c == 47) as (λ b. (c == 47) ≡ b → (b || list_any (λ d. d == 47) text) ≡ false) [
  | true ↦ λ e. absurd (let low : c ≡ 47 = eqb-true c 47 e in let high : 47 < c = h.0 in omega arith)
  | false ↦ λ e. no_slash text h.1
] refl

pub rdate_property : (m : Moment) → property_in (moment_line name.RDate m) ≡ name.RDate
rdate_property m = ap (λ (b : Bool). cond (true && b) name.Others name.RDate)
    (no_slash (moment_text m) (moment_high (moment_text m) (moment_tzid m) m (moment_text-MomentText m)))

map_of : {A : Type 0} (q : PropertyName) (f : A → Content) (xs : List A) → ((x : A) → property_in (f x) ≡ q) → AreOf q (map f xs)
map_of q f [] h = tt
map_of q f (x ∷ xs) h = (h x, map_of q f xs h)

optional_of : {A : Type 0} (q : PropertyName) (f : A → Content) (v : Option A) → ((x : A) → property_in (f x) ≡ q) → AreOf q (optional f v)
optional_of q f None h = tt
optional_of q f (Some x) h = (h x, tt)

others_of : (lines : List Line) → IsTrue (list_all is_other lines) → AreOf name.Others (map content_of lines)
unfolding property_of
others_of [] h = tt
others_of (l ∷ lines) h = let two = and_parts _ _ h in (same_is (property_of l) name.Others two.0, others_of lines two.1)

-- the lines that a property is written as
abbrev pub segment : Parts → PropertyName → List Content
segment parts name.Uid = plain name.Uid parts.uid ∷ []
segment parts name.DtStamp = plain name.DtStamp (stamp_text parts.stamp) ∷ []
segment parts name.Sequence = plain name.Sequence (decimal parts.seq) ∷ []
segment parts name.DeskBase = base_lines parts
segment parts name.RecurrenceId = rid_lines parts
segment parts name.DtStart = start_lines parts
segment parts name.Due = due_lines parts
segment parts name.Status = status_lines parts
segment parts name.PercentComplete = percent_lines parts
segment parts name.Priority = priority_lines parts
segment parts name.Summary = summary_lines parts
segment parts name.Organizer = organizer_lines parts
segment parts name.Attendee = attendee_lines parts
segment parts name.RRule = rule_lines parts
segment parts name.RDate = rdate_lines parts
segment parts name.ExDate = exdate_lines parts
segment parts name.Others = other_lines parts

-- what is left of the lines of a property beside those of another
abbrev part_of : PropertyName → PropertyName → List Content → List Content
part_of q p cs = cond (is_same q p) cs []

-- the lines of a property, one written part after another
parts_of_property : (parts : Parts) → IsTrue (list_all is_other parts.others) → (p : PropertyName) →
    contents_named (parts_contents parts) p ≡
    contents_named (head_contents parts) p
    ++ (part_of name.DeskBase p (base_lines parts)
    ++ (part_of name.RecurrenceId p (rid_lines parts)
    ++ (part_of name.DtStart p (start_lines parts)
    ++ (part_of name.Due p (due_lines parts)
    ++ (part_of name.Status p (status_lines parts)
    ++ (part_of name.PercentComplete p (percent_lines parts)
    ++ (part_of name.Priority p (priority_lines parts)
    ++ (part_of name.Summary p (summary_lines parts)
    ++ (part_of name.Organizer p (organizer_lines parts)
    ++ (part_of name.Attendee p (attendee_lines parts)
    ++ (part_of name.RRule p (rule_lines parts)
    ++ (part_of name.RDate p (rdate_lines parts)
    ++ (part_of name.ExDate p (exdate_lines parts)
    ++ part_of name.Others p (other_lines parts))))))))))))))
parts_of_property parts others p =
    filter-append (λ c. is_same (property_in c) p) (head_contents parts) (base_on parts) ∙
    ap (λ (xs : List Content). contents_named (head_contents parts) p ++ xs)
    (then_rest name.DeskBase (base_lines parts) (rid_on parts) (optional_of name.DeskBase _ parts.base (λ n. refl))
    (then_rest name.RecurrenceId (rid_lines parts) (start_on parts) (optional_of name.RecurrenceId _ parts.rid (λ m. refl))
    (then_rest name.DtStart (start_lines parts) (due_on parts) (optional_of name.DtStart _ parts.start (λ m. refl))
    (then_rest name.Due (due_lines parts) (status_on parts) (optional_of name.Due _ parts.due (λ m. refl))
    (then_rest name.Status (status_lines parts) (percent_on parts) (optional_of name.Status _ parts.status (λ v. refl))
    (then_rest name.PercentComplete (percent_lines parts) (priority_on parts) (optional_of name.PercentComplete _ parts.percent (λ n. refl))
    (then_rest name.Priority (priority_lines parts) (summary_on parts) (optional_of name.Priority _ parts.priority (λ n. refl))
    (then_rest name.Summary (summary_lines parts) (organizer_on parts) (optional_of name.Summary _ parts.summary (λ v. refl))
    (then_rest name.Organizer (organizer_lines parts) (attendee_on parts) (optional_of name.Organizer _ parts.organizer (λ v. refl))
    (then_rest name.Attendee (attendee_lines parts) (rule_on parts) (map_of name.Attendee _ parts.attendees (λ v. refl))
    (then_rest name.RRule (rule_lines parts) (rdate_on parts) (map_of name.RRule _ parts.rule (λ v. refl))
    (then_rest name.RDate (rdate_lines parts) (exdate_on parts) (map_of name.RDate _ parts.rdates rdate_property)
    (then_rest name.ExDate (exdate_lines parts) (other_on parts) (map_of name.ExDate _ parts.exdates (λ m. refl))
    (of_one name.Others p (other_lines parts) (others_of parts.others others)))))))))))))))
  where
    then_rest : (q : PropertyName) (cs rest : List Content) {left : List Content} → AreOf q cs → contents_named rest p ≡ left →
        contents_named (cs ++ rest) p ≡ part_of q p cs ++ left
    then_rest q cs rest h e = step q p cs rest h ∙ ap (λ (xs : List Content). part_of q p cs ++ xs) e

pub named : (parts : Parts) → IsTrue (list_all is_other parts.others) → (p : PropertyName) →
    contents_named (parts_contents parts) p ≡ segment parts p
named parts others name.Uid = parts_of_property parts others name.Uid
named parts others name.DtStamp = parts_of_property parts others name.DtStamp
named parts others name.Sequence = parts_of_property parts others name.Sequence
named parts others name.DeskBase = parts_of_property parts others name.DeskBase ∙ append-nil (base_lines parts)
named parts others name.RecurrenceId = parts_of_property parts others name.RecurrenceId ∙ append-nil (rid_lines parts)
named parts others name.DtStart = parts_of_property parts others name.DtStart ∙ append-nil (start_lines parts)
named parts others name.Due = parts_of_property parts others name.Due ∙ append-nil (due_lines parts)
named parts others name.Status = parts_of_property parts others name.Status ∙ append-nil (status_lines parts)
named parts others name.PercentComplete = parts_of_property parts others name.PercentComplete ∙ append-nil (percent_lines parts)
named parts others name.Priority = parts_of_property parts others name.Priority ∙ append-nil (priority_lines parts)
named parts others name.Summary = parts_of_property parts others name.Summary ∙ append-nil (summary_lines parts)
named parts others name.Organizer = parts_of_property parts others name.Organizer ∙ append-nil (organizer_lines parts)
named parts others name.Attendee = parts_of_property parts others name.Attendee ∙ append-nil (attendee_lines parts)
named parts others name.RRule = parts_of_property parts others name.RRule ∙ append-nil (rule_lines parts)
named parts others name.RDate = parts_of_property parts others name.RDate ∙ append-nil (rdate_lines parts)
named parts others name.ExDate = parts_of_property parts others name.ExDate ∙ append-nil (exdate_lines parts)
named parts others name.Others = parts_of_property parts others name.Others

-- the lines of a property among lines with the contents that a to-do is written as
pub lines_named : (lines : List Line) (parts : Parts) → IsTrue (list_all is_other parts.others) →
    map content_of lines ≡ parts_contents parts → (p : PropertyName) → map content_of (lines_of lines p) ≡ segment parts p
lines_named lines parts others e p = named_contents lines p ∙ ap (λ (cs : List Content). contents_named cs p) e ∙ named parts others p
