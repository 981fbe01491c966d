-- Parts in canonical form are lawful if the to-do is.
use Rattle.std.proofs.Common.{◌≡◌, refl, ℕ, ◌≤◌, Bool, true, false, List, [], ◌∷◌, ◌++◌, map, length, length-append, append-nil, sym, subst}
use Rattle.std.proofs.Common.{arith, Option, Some, None}
use Rattle.std.specs.Prelude.{max, cond, nat_lt, nat_eq, unwrap_or, codes, ◌&&◌}
use Rattle.std.specs.Cmp.Lexicographic.{pointwise}
use Rattle.std.specs.Fmt.{decimal}
use Rattle.std.specs.List.{AllByRecursion, IsDistinct}
use Rattle.std.specs.List.Sorted.{IsStrictlySortedBy}
use Rattle.std.specs.declared.cmp.Ordering.{Ordering}
use Rattle.itip_lines.specs.Lawful as line
use Rattle.itip_lines.specs.Lawful.{IsLawfulParam, param_text, params_text}
use Rattle.itip_lines.specs.declared.line.Param.{Param}
use Rattle.itip_moment.specs.Written.{moment_text}
use Rattle.itip_moment.specs.declared.moment.Moment.{Moment}
use Rattle.itip_todo.specs.Participation.{same_text}
use Rattle.itip_todo.specs.Table.{name_text, attendee_limit}
use Rattle.itip_todo.specs.Lawful.{IsLawful, IsLawfulContent, HasValue, keys_of}
use Rattle.itip_todo.specs.Parts.{Parts}
use Rattle.itip_todo.specs.PartsOf.{parts_of}
use Rattle.itip_todo.specs.Written.{Content, property_line, rid_line, moment_params, range_params, plain, optional}
use Rattle.itip_todo.specs.Properties.{Property}
use Rattle.itip_todo.specs.declared.property_name.PropertyName.TheVariants as name
use Rattle.itip_todo.specs.declared.todo.Todo.{Todo}
use Rattle.itip_todo.proofs.LawfulLines.{number_lawful}
use Rattle.itip_items.specs.Items.{with_base, only_of, kept_with, canonical_base, raised, series_sequence, is_series}
use Rattle.itip_items.specs.declared.kind.Method.{Method}
use Rattle.itip_items.proofs.Pieces.{base_of, rid_of, start_of, due_of, status_of, percent_of, priority_of, summary_of, organizer_of}
use Rattle.itip_items.proofs.Pieces.{attendees_of, from_rid, from_start, from_due, from_status, from_percent, from_priority, from_summary}
use Rattle.itip_items.proofs.Pieces.{from_organizer, from_attendees, from_rule}

abbrev AreLawful : List Content → Type 0
AreLawful cs = AllByRecursion IsLawfulContent cs

front : (cs ds : List Content) → AreLawful (cs ++ ds) → AreLawful cs
front [] ds h = tt
front (c ∷ cs) ds h = (h.0, front cs ds h.1)

back : (cs ds : List Content) → AreLawful (cs ++ ds) → AreLawful ds
back [] ds h = h
back (c ∷ cs) ds h = back cs ds h.1

both : (cs ds : List Content) → AreLawful cs → AreLawful ds → AreLawful (cs ++ ds)
both [] ds h k = k
both (c ∷ cs) ds h k = (h.0, both cs ds h.1 k)

-- X-DESK-BASE

base_line : (n : ℕ) → n ≤ 2147483647 → IsLawfulContent (plain name.DeskBase (decimal n))
base_line n small = number_lawful (codes "X-DESK-BASE") (record { some = omega arith; upper = refl }) (omega arith) n small

base_lines : (b : Option ℕ) → ((n : ℕ) → b ≡ Some n → n ≤ 2147483647) → AreLawful (optional (λ n. plain name.DeskBase (decimal n)) b)
base_lines None small = tt
base_lines (Some n) small = (base_line n (small n refl), tt)

pub base_lawful : (p : Parts) (b : Option ℕ) → IsLawful p → ((n : ℕ) → b ≡ Some n → n ≤ 2147483647) → IsLawful (with_base p b)
base_lawful p b h small = record {
  uid = h.uid;
  seq = h.seq;
  base = small;
  range = h.range;
  percent = h.percent;
  priority = h.priority;
  organizer = h.organizer;
  attendee_count = h.attendee_count;
  attendee_values = h.attendee_values;
  attendee_keys = h.attendee_keys;
  rdates = h.rdates;
  exdates = h.exdates;
  others = h.others;
  lines = (
    h.lines.0,
    (
      h.lines.1.0,
      (
        h.lines.1.1.0,
        both (optional (λ n. plain name.DeskBase (decimal n)) b) (from_rid p) (base_lines b small)
            (back (base_of p) (from_rid p) h.lines.1.1.1),
      ),
    ),
  );
}

-- one attendee

one_distinct : {K : Type 0} (same : K → K → Bool) (k : K) → IsDistinct same (k ∷ [])
unfolding IsDistinct
one_distinct same k = (tt, tt)

none_distinct : {K : Type 0} (same : K → K → Bool) → IsDistinct same []
unfolding IsDistinct
none_distinct same = tt

none_sorted : {K : Type 0} (cmp : K → K → Ordering) → IsStrictlySortedBy cmp []
unfolding IsStrictlySortedBy
none_sorted cmp = tt

-- the lines from RECURRENCE-ID, STATUS, PERCENT-COMPLETE and ORGANIZER on
record Behind (p : Parts) : Type 0 where
  rid : AreLawful (from_rid p)
  status : AreLawful (from_status p)
  percent : AreLawful (from_percent p)
  organizer : AreLawful (from_organizer p)

behind : (p : Parts) → IsLawful p → Behind p
behind p h =
    let rid : AreLawful (from_rid p) = back (base_of p) (from_rid p) h.lines.1.1.1 in
    let start : AreLawful (from_start p) = back (rid_of p) (from_start p) rid in
    let due : AreLawful (from_due p) = back (start_of p) (from_due p) start in
    let status : AreLawful (from_status p) = back (due_of p) (from_status p) due in
    let percent : AreLawful (from_percent p) = back (status_of p) (from_percent p) status in
    let priority : AreLawful (from_priority p) = back (percent_of p) (from_priority p) percent in
    let summary : AreLawful (from_summary p) = back (priority_of p) (from_summary p) priority in
    let organizer : AreLawful (from_organizer p) = back (summary_of p) (from_organizer p) summary in
    record { rid = rid; status = status; percent = percent; organizer = organizer }

-- RECURRENCE-ID without its range
fewer : (ps qs : List Param) → length (params_text ps) ≤ length (params_text (ps ++ qs))
fewer [] qs = omega arith
fewer (p ∷ ps) qs = omega (
  arith,
  fewer ps qs,
  length-append (param_text p) (params_text ps),
  length-append (param_text p) (params_text (ps ++ qs)),
)

each_front : (ps qs : List Param) → AllByRecursion IsLawfulParam (ps ++ qs) → AllByRecursion IsLawfulParam ps
each_front [] qs h = tt
each_front (p ∷ ps) qs h = (h.0, each_front ps qs h.1)

fewer_lawful : (name : List ℕ) (ps qs : List Param) (value : List ℕ) → line.IsLawful name (ps ++ qs) value →
    line.IsLawful name (ps ++ []) value
fewer_lawful name ps qs value h = subst (λ (rs : List Param). line.IsLawful name rs value) (sym (append-nil ps)) (record {
  named = h.named;
  each_param = each_front ps qs h.each_param;
  octets = h.octets;
  utf8 = h.utf8;
  short = omega (
    arith,
    h.short,
    fewer ps qs,
    length-append name (params_text ps ++ 58 ∷ value),
    length-append (params_text ps) (58 ∷ value),
    length-append name (params_text (ps ++ qs) ++ 58 ∷ value),
    length-append (params_text (ps ++ qs)) (58 ∷ value),
  );
})

without_range : (v : Option Moment) (b : Bool) → AreLawful (optional (rid_line b) v) → AreLawful (optional (rid_line false) v)
without_range None b h = tt
without_range (Some m) b h = (fewer_lawful (name_text name.RecurrenceId) (moment_params m) (range_params b) (moment_text m) h.0, tt)

kept_lines : (p : Parts) (attendees : List Property) → IsLawful p → AreLawful (map (property_line name.Attendee) attendees) →
    AreLawful (optional (rid_line false) p.rid ++
    (status_of p ++ (percent_of p ++ (organizer_of p ++ (map (property_line name.Attendee) attendees ++ [])))))
kept_lines p attendees h lines =
    let b : Behind p = behind p h in
    both (optional (rid_line false) p.rid) _ (without_range p.rid p.range (front (rid_of p) (from_start p) b.rid))
    (both (status_of p) _ (front (status_of p) (from_percent p) b.status)
    (both (percent_of p) _ (front (percent_of p) (from_priority p) b.percent)
    (both (organizer_of p) _ (front (organizer_of p) (from_attendees p) b.organizer)
    (both (map (property_line name.Attendee) attendees) [] lines tt))))

none_small : (limit n : ℕ) → None ≡ Some n → n ≤ limit
none_small limit n e = absurd (cc)

kept_lawful : (p : Parts) (attendees : List Property) → IsLawful p → length attendees ≤ attendee_limit → AllByRecursion HasValue attendees →
    IsDistinct same_text (keys_of attendees) → AreLawful (map (property_line name.Attendee) attendees) → IsLawful (kept_with attendees p)
kept_lawful p attendees h few values distinct lines = record {
  uid = h.uid;
  seq = h.seq;
  base = none_small 2147483647;
  range = λ on. absurd (cc);
  percent = h.percent;
  priority = none_small 9;
  organizer = h.organizer;
  attendee_count = few;
  attendee_values = values;
  attendee_keys = distinct;
  rdates = none_sorted _;
  exdates = none_sorted _;
  others = refl;
  lines = (h.lines.0, (h.lines.1.0, (h.lines.1.1.0, kept_lines p attendees h lines)));
}

only_lawful : (p : Parts) (a : Property) → IsLawful p → HasValue a → IsLawfulContent (property_line name.Attendee a) →
    IsLawful (only_of a p)
only_lawful p a h value line = kept_lawful p (a ∷ []) h (omega arith) (value, tt) (one_distinct _ _) (line, tt)

-- what an answer keeps beside its attendee
pub kept_alone : (p : Parts) → IsLawful p → IsLawful (kept_with [] p)
kept_alone p h = kept_lawful p [] h (omega arith) tt (none_distinct _) tt

each_only : (p : Parts) (attendees : List Property) → IsLawful p → AllByRecursion HasValue attendees →
    AreLawful (map (property_line name.Attendee) attendees) → AllByRecursion (λ a. IsLawful (only_of a p)) attendees
each_only p [] h values lines = tt
each_only p (a ∷ attendees) h values lines = (only_lawful p a h values.0 lines.0, each_only p attendees h values.1 lines.1)

pub only_each : (p : Parts) → IsLawful p → AllByRecursion (λ a. IsLawful (only_of a p)) p.attendees
only_each p h = each_only p p.attendees h h.attendee_values
    (front (attendees_of p) (from_rule p) (back (organizer_of p) (from_attendees p) (behind p h).organizer))

-- sequences are small

unwrapped : (b : Option ℕ) → ((n : ℕ) → b ≡ Some n → n ≤ 2147483647) → unwrap_or b 0 ≤ 2147483647
unwrapped None small = omega arith
unwrapped (Some n) small = small n refl

pub raised_small : (p : Parts) (above : ℕ) → IsLawful p → above ≤ 2147483647 → raised p above ≤ 2147483647
raised_small p above h small = let b = unwrapped p.base h.base in let s = h.seq in omega arith

pub canonical_small : (own eff : ℕ) → eff ≤ 2147483647 → (n : ℕ) → canonical_base own eff ≡ Some n → n ≤ 2147483647
canonical_small own eff small n e =
    elim (nat_lt own eff) as (λ b. cond b (Some eff) None ≡ Some n → n ≤ 2147483647) [
      | true ↦ λ same. let is : eff ≡ n = cc in omega (arith, is)
      | false ↦ λ same. absurd (cc)
    ] e

chosen : (b : Bool) (n m : ℕ) → n ≤ 2147483647 → m ≤ 2147483647 → max (cond b n 0) m ≤ 2147483647
chosen true n m h k = omega arith
chosen false n m h k = omega arith

pub series_small : (m : Method) (uid : List ℕ) (all : List Todo) → series_sequence m uid (map parts_of all) ≤ 2147483647
series_small m uid [] = omega arith
series_small m uid (todo ∷ all) =
    chosen (is_series m (parts_of todo) && pointwise nat_eq todo.uid uid) todo.seq (series_sequence m uid (map parts_of all))
    todo.lawful.seq (series_small m uid all)
