-- No octet of a lawful line is in a break, and its name is not END.
use Rattle.std.proofs.Common.{◌≡◌, ◌∙◌, ap, refl, ℕ, Bool, true, false, cond, not, List, [], ◌∷◌, ◌++◌, map, arith}
use Rattle.std.specs.Prelude.{IsTrue, ◌&&◌, ◌||◌, ◌==◌, codes, Option, Some, None}
use Rattle.std.specs.Char.{to_ascii_uppercase}
use Rattle.std.specs.List.{list_all, list_any, AllByRecursion}
use Rattle.std.proofs.lemmas.Bool.{and_parts}
use Rattle.std.proofs.lemmas.Bool.Decides.{nat_tests}
use Rattle.std.proofs.lemmas.List.Folds.{list_all-append}
use Rattle.itip_lines.specs.UnfoldedLines.{is_blank}
use Rattle.itip_lines.specs.Octets.{is_upper_name_octet, is_name_octet, is_value_octet, is_quotable_octet, is_separator}
use Rattle.itip_lines.specs.Lawful.{value_text, values_text, param_text, params_text, line_text, IsName, IsParamValue, IsLawfulParam}
use Rattle.itip_lines.specs.declared.line.Param.{Param}
use Rattle.itip_lines.specs.declared.line.Line.{Line}
use Rattle.itip_lines.proofs.OctetLemmas.{upper_is_name, upper_same, name_value, quotable_value}
use Rattle.itip_todo.specs.Lawful.{IsLawfulContent}
use Rattle.itip_todo.specs.Parts.{Parts}
use Rattle.itip_todo.specs.Written.{Content, content_of, parts_contents, property_line, moment_line, plain, optional}
use Rattle.itip_todo.specs.declared.property_name.PropertyName.TheVariants as name
use Rattle.itip_todo.specs.Participation.{same_text}
use Rattle.itip_items.specs.MethodNeeds.{is_property}
use Rattle.itip_items.proofs.Pieces.{base_of, rid_of, start_of, due_of, status_of, percent_of, priority_of, summary_of, organizer_of}
use Rattle.itip_items.proofs.Pieces.{attendees_of, rule_of, rdates_of, exdates_of, others_of, from_rid, from_start, from_due, from_status}
use Rattle.itip_items.proofs.Pieces.{from_percent, from_priority, from_summary, from_organizer, from_attendees, from_rule, from_rdates}
use Rattle.itip_items.proofs.Pieces.{from_exdates}

-- ---- octets

pub all_weaker : (p q : ℕ → Bool) → ((b : ℕ) → p b ≡ true → q b ≡ true) → (bs : List ℕ) → list_all p bs ≡ true → list_all q bs ≡ true
all_weaker p q h [] k = refl
all_weaker p q h (b ∷ bs) k = let r = and_parts _ _ k in rw (h b r.0) (all_weaker p q h bs r.1)

pub both : (a b : List ℕ) → list_all is_value_octet a ≡ true → list_all is_value_octet b ≡ true → list_all is_value_octet (a ++ b) ≡ true
both a b h k = list_all-append is_value_octet a b ∙ rw h k

pub clean_name : (name : List ℕ) → IsName name → list_all is_value_octet name ≡ true
clean_name name h = all_weaker is_name_octet is_value_octet name_value name
    (all_weaker is_upper_name_octet is_name_octet upper_is_name name h.upper)

pub clean_quotable : (value : List ℕ) → list_all is_quotable_octet value ≡ true → list_all is_value_octet (value_text value) ≡ true
clean_quotable value octets =
    let inside : list_all is_value_octet value ≡ true = all_weaker is_quotable_octet is_value_octet quotable_value value octets in
    elim (list_any is_separator value) as (λ v. list_all is_value_octet (cond v (34 ∷ (value ++ 34 ∷ [])) value) ≡ true) [
      | true ↦ both (34 ∷ []) (value ++ 34 ∷ []) refl (both value (34 ∷ []) inside refl)
      | false ↦ inside
    ]

clean_value : (value : List ℕ) → IsParamValue value → list_all is_value_octet (value_text value) ≡ true
clean_value value h = clean_quotable value h.octets

clean_values : (vs : List (List ℕ)) → AllByRecursion IsParamValue vs → list_all is_value_octet (values_text vs) ≡ true
clean_values [] h = refl
clean_values (v ∷ []) h = clean_value v h.0
clean_values (v ∷ (w ∷ vs)) h =
    both (value_text v) (44 ∷ values_text (w ∷ vs)) (clean_value v h.0)
    (both (44 ∷ []) (values_text (w ∷ vs)) refl (clean_values (w ∷ vs) h.1))

clean_param : (p : Param) → IsLawfulParam p → list_all is_value_octet (param_text p) ≡ true
clean_param p h = both (59 ∷ []) (p.name ++ 61 ∷ values_text p.values) refl
    (both p.name (61 ∷ values_text p.values) (clean_name p.name h.named)
    (both (61 ∷ []) (values_text p.values) refl (clean_values p.values h.values)))

clean_params : (ps : List Param) → AllByRecursion IsLawfulParam ps → list_all is_value_octet (params_text ps) ≡ true
clean_params [] h = refl
clean_params (p ∷ ps) h = both (param_text p) (params_text ps) (clean_param p h.0) (clean_params ps h.1)

-- each octet of a lawful line may be in a value
pub clean_content : (c : Content) → IsLawfulContent c → list_all is_value_octet (line_text c.name c.params c.value) ≡ true
clean_content c h =
    both c.name (params_text c.params ++ 58 ∷ c.value) (clean_name c.name h.named)
    (both (params_text c.params) (58 ∷ c.value) (clean_params c.params h.each_param) (both (58 ∷ []) c.value refl h.octets))

pub name_octet_no_blank : (b : ℕ) → is_upper_name_octet b ≡ true → is_blank b ≡ false
name_octet_no_blank b h = grind (arith, nat_tests)

-- ---- names

abbrev pub IsNotEnd : Content → Type 0
IsNotEnd c = same_text c.name (codes "END") ≡ false

none_of : (b e : Bool) → IsTrue (not (b || e)) → e ≡ false
none_of true e h = absurd cc
none_of false true h = absurd cc
none_of false false h = refl

pub none_ends_both : (cs ds : List Content) → AllByRecursion IsNotEnd cs → AllByRecursion IsNotEnd ds → AllByRecursion IsNotEnd (cs ++ ds)
none_ends_both [] ds h k = k
none_ends_both (c ∷ cs) ds h k = (h.0, none_ends_both cs ds h.1 k)

of_option : {A : Type 0} (line : A → Content) (o : Option A) → ((a : A) → IsNotEnd (line a)) → AllByRecursion IsNotEnd (optional line o)
of_option line None h = tt
of_option line (Some a) h = (h a, tt)

of_list : {A : Type 0} (line : A → Content) (list : List A) → ((a : A) → IsNotEnd (line a)) → AllByRecursion IsNotEnd (map line list)
of_list line [] h = tt
of_list line (a ∷ list) h = (h a, of_list line list h)

of_others : (lines : List Line) → IsTrue (list_all is_property lines) → AllByRecursion IsNotEnd (map content_of lines)
of_others [] h = tt
of_others (line ∷ lines) h = let p = and_parts _ _ h in
    (none_of (same_text line.name (codes "BEGIN")) (same_text line.name (codes "END")) p.0, of_others lines p.1)

-- no line of a to-do has the name END, where none of the others has
pub parts_not_end : (p : Parts) → IsTrue (list_all is_property p.others) → AllByRecursion IsNotEnd (parts_contents p)
parts_not_end p h = (
  refl,
  (
    refl,
    (
      refl,
      none_ends_both (base_of p) (from_rid p) (of_option _ p.base (λ a. refl))
          (none_ends_both (rid_of p) (from_start p) (of_option _ p.rid (λ a. refl))
          (none_ends_both (start_of p) (from_due p) (of_option _ p.start (λ a. refl))
          (none_ends_both (due_of p) (from_status p) (of_option _ p.due (λ a. refl))
          (none_ends_both (status_of p) (from_percent p) (of_option _ p.status (λ a. refl))
          (none_ends_both (percent_of p) (from_priority p) (of_option _ p.percent (λ a. refl))
          (none_ends_both (priority_of p) (from_summary p) (of_option _ p.priority (λ a. refl))
          (none_ends_both (summary_of p) (from_organizer p) (of_option _ p.summary (λ a. refl))
          (none_ends_both (organizer_of p) (from_attendees p) (of_option _ p.organizer (λ a. refl))
          (none_ends_both (attendees_of p) (from_rule p) (of_list (property_line name.Attendee) p.attendees (λ a. refl))
          (none_ends_both (rule_of p) (from_rdates p) (of_list (plain name.RRule) p.rule (λ a. refl))
          (none_ends_both (rdates_of p) (from_exdates p) (of_list (moment_line name.RDate) p.rdates (λ a. refl))
          (none_ends_both (exdates_of p) (others_of p) (of_list (moment_line name.ExDate) p.exdates (λ a. refl))
          (of_others p.others h))))))))))))),
    ),
  ),
)

-- ---- a line whose name is not END doesn't say END:VCALENDAR

and_false : (b : Bool) → (b && false) ≡ false
and_false true = refl
and_false false = refl

upper_no_colon : (b : ℕ) → is_upper_name_octet b ≡ true → (to_ascii_uppercase b == 58) ≡ false
upper_no_colon b h = rw (upper_same b h) (no_colon b h)
  where
    no_colon : (b : ℕ) → is_upper_name_octet b ≡ true → (b == 58) ≡ false
    no_colon b h = grind (arith, nat_tests)

-- what follows a name: ";" or ":"
tail_of : (params : List Param) (value : List ℕ) → List ℕ
tail_of params value = params_text params ++ 58 ∷ value

second_mark : (params : List Param) (value word : List ℕ) → same_text (map to_ascii_uppercase (tail_of params value)) (78 ∷ word) ≡ false
unfolding tail_of
second_mark [] value word = refl
second_mark (p ∷ ps) value word = refl

third_mark : (params : List Param) (value word : List ℕ) → same_text (map to_ascii_uppercase (tail_of params value)) (68 ∷ word) ≡ false
unfolding tail_of
third_mark [] value word = refl
third_mark (p ∷ ps) value word = refl

named_apart : (n : List ℕ) (params : List Param) (value : List ℕ) → IsName n → same_text n (codes "END") ≡ false →
    same_text (map to_ascii_uppercase (n ++ tail_of params value)) (codes "END:VCALENDAR") ≡ false
named_apart [] params value named other = absurd (omega (arith, named.some))
named_apart (a ∷ []) params value named other =
    ap (λ (t : Bool). (to_ascii_uppercase a == 69) && t) (second_mark params value (codes "D:VCALENDAR")) ∙
    and_false (to_ascii_uppercase a == 69)
named_apart (a ∷ (b ∷ [])) params value named other =
    ap (λ (t : Bool). (to_ascii_uppercase a == 69) && ((to_ascii_uppercase b == 78) && t)) (third_mark params value (codes ":VCALENDAR"))
    ∙ ap (λ (t : Bool). (to_ascii_uppercase a == 69) && t) (and_false (to_ascii_uppercase b == 78)) ∙ and_false (to_ascii_uppercase a == 69)
named_apart (a ∷ (b ∷ (c ∷ []))) params value named other =
    let first = and_parts (is_upper_name_octet a) (list_all is_upper_name_octet (b ∷ (c ∷ []))) named.upper in
    let second = and_parts (is_upper_name_octet b) (list_all is_upper_name_octet (c ∷ [])) first.1 in
    let third = and_parts (is_upper_name_octet c) (list_all is_upper_name_octet []) second.1 in
    let rest : Bool = same_text (map to_ascii_uppercase (tail_of params value)) (codes ":VCALENDAR") in
    ap (λ (x : ℕ). (x == 69) && ((to_ascii_uppercase b == 78) && ((to_ascii_uppercase c == 68) && rest))) (upper_same a first.0)
    ∙ ap (λ (x : ℕ). (a == 69) && ((x == 78) && ((to_ascii_uppercase c == 68) && rest))) (upper_same b second.0)
    ∙ ap (λ (x : ℕ). (a == 69) && ((b == 78) && ((x == 68) && rest))) (upper_same c third.0)
    ∙ not_all (a == 69) (b == 78) (c == 68) rest other
  where
    not_all : (x y z w : Bool) → (x && (y && (z && true))) ≡ false → (x && (y && (z && w))) ≡ false
    not_all false y z w h = refl
    not_all true false z w h = refl
    not_all true true false w h = refl
    not_all true true true w h = absurd cc
named_apart (a ∷ (b ∷ (c ∷ (d ∷ n)))) params value named other =
    let first = and_parts (is_upper_name_octet a) (list_all is_upper_name_octet (b ∷ (c ∷ (d ∷ n)))) named.upper in
    let second = and_parts (is_upper_name_octet b) (list_all is_upper_name_octet (c ∷ (d ∷ n))) first.1 in
    let third = and_parts (is_upper_name_octet c) (list_all is_upper_name_octet (d ∷ n)) second.1 in
    let fourth = and_parts (is_upper_name_octet d) (list_all is_upper_name_octet n) third.1 in
    let rest : Bool = same_text (map to_ascii_uppercase (n ++ tail_of params value)) (codes "VCALENDAR") in
    ap (λ (t : Bool). (to_ascii_uppercase a == 69) && ((to_ascii_uppercase b == 78) && ((to_ascii_uppercase c == 68) && (t && rest))))
    (upper_no_colon d fourth.0)
    ∙ ap (λ (t : Bool). (to_ascii_uppercase a == 69) && ((to_ascii_uppercase b == 78) && t)) (and_false (to_ascii_uppercase c == 68))
    ∙ ap (λ (t : Bool). (to_ascii_uppercase a == 69) && t) (and_false (to_ascii_uppercase b == 78)) ∙ and_false (to_ascii_uppercase a == 69)

pub text_apart : (c : Content) → IsLawfulContent c → IsNotEnd c →
    same_text (map to_ascii_uppercase (line_text c.name c.params c.value)) (codes "END:VCALENDAR") ≡ false
unfolding tail_of
text_apart c lawful other = named_apart c.name c.params c.value lawful.named other
