-- What the lines of a to-do say of its texts and moments: none has a line break, since no value of a content line has one.
use Rattle.std.proofs.Common.{◌≡◌, ◌≢◌, ◌/◌, ◌%◌, ℕ, ℤ, Bool, true, false, cond, List, [], ◌∷◌, ◌++◌, map, Option, Some, None, option_map}
use Rattle.std.proofs.Common.{inl, inr, true≢false, refl, sym, ◌∙◌, ap, subst, arith, append-nil}
use Rattle.std.specs.Prelude.{codes, IfSome}
use Rattle.std.specs.List.{AllByRecursion, Contains, list_all}
use Rattle.std.proofs.lemmas.Bool.{and_parts, eq-eqb}
use Rattle.std.proofs.lemmas.List.Elements.{All-contains, All-from_recursion}
use Rattle.itip_lines.specs.Lawful.{IsLawfulParam}
use Rattle.itip_lines.specs.Octets.{is_value_octet, is_quotable_octet}
use Rattle.itip_lines.specs.declared.line.Param.{Param}
use Rattle.itip_lines.proofs.OctetLemmas.{quotable_value, value_no_break}
use Rattle.itip_moment.specs.Moment.{moment_zone}
use Rattle.itip_moment.specs.Shown.{shown_moment}
use Rattle.itip_moment.specs.Written.{date_of, date_text, clock_text, local_text}
use Rattle.itip_moment.specs.declared.moment.Moment.{Moment}
use Rattle.itip_moment.specs.declared.moment.Moment.TheVariants.{Date, Floating, Utc, Zoned}
use Rattle.itip_todo.specs.Lawful.{IsLawfulContent}
use Rattle.itip_todo.specs.Parts.{Parts}
use Rattle.itip_todo.specs.PartsOf.{parts_of}
use Rattle.itip_todo.specs.Properties.{Property}
use Rattle.itip_todo.specs.Table.{attendee_key}
use Rattle.itip_todo.specs.Written.{Content, optional, property_line, moment_line, moment_params, rid_line, range_params}
use Rattle.itip_todo.specs.declared.property_name.PropertyName.{PropertyName}
use Rattle.itip_todo.specs.declared.property_name.PropertyName.TheVariants as name
use Rattle.itip_todo.specs.declared.todo.Todo.{Todo}
use Rattle.itip_todo.proofs.Segments.{all_append, base_lines, rid_lines, start_lines, due_lines, status_lines, percent_lines}
use Rattle.itip_todo.proofs.Segments.{priority_lines, summary_lines, organizer_lines, attendee_lines, rule_lines, rdate_lines, rid_on}
use Rattle.itip_todo.proofs.Segments.{start_on, due_on, status_on, percent_on, priority_on, summary_on, organizer_on, attendee_on, rule_on}
use Rattle.itip_todo.proofs.Segments.{rdate_on, exdate_on}
use Rattle.itip_recur.specs.Members.{IsRuleMember, Occurs}
use Rattle.itip_recur.specs.ToDoShape.{IsSeriesOf}
use Rattle.itip_recur.specs.declared.rule.Rule.{Rule}
use Rattle.itip_recur.specs.declared.series.Series.{Series}
use Rattle.itip_items.specs.Items.{ItemDraft, task_draft, add_drafts, instance_key, refreshes}
use Rattle.itip_items.specs.KeyParts.{instance_of}
use Rattle.itip_items.specs.declared.item.Item.{Item}
use Rattle.itip_items.specs.declared.key.Key.TheVariants as key
use Rattle.itip_items.specs.declared.kind.Kind.{Kind}
use Rattle.itip_view.specs.Rows.{IsDueOf, IsDateFrom, IsStartFrom, IsDueFrom}
use Rattle.itip_view.specs.TodoLines.{IsUnbroken}
use Rattle.itip_view.proofs.Drafts.{of_item}
use Rattle.itip_view.proofs.TodoLines.{digits_unbroken, written_out}

-- ---- texts and moments

-- a text of octets that a value may have
clean : (p : ℕ → Bool) → ((b : ℕ) → p b ≡ true → is_value_octet b ≡ true) → (text : List ℕ) → list_all p text ≡ true → IsUnbroken text
clean p of [] e = tt
clean p of (b ∷ text) e =
    let parts = and_parts _ _ e in
    (λ same. true≢false (sym (eq-eqb b 10 same) ∙ (value_no_break b (of b parts.0)).0), clean p of text parts.1)

value_unbroken : (text : List ℕ) → list_all is_value_octet text ≡ true → IsUnbroken text
value_unbroken = clean is_value_octet (λ b is. is)

join : (x y : List ℕ) → IsUnbroken x → IsUnbroken y → IsUnbroken (x ++ y)
join = all_append (λ (b : ℕ). b ≢ 10)

-- dates and times are digits, T and Z
date_unbroken : (day : ℤ) → IsUnbroken (date_text day)
date_unbroken day =
    let d = date_of day in
    digits_unbroken (d.year / 100 / 10 ∷ d.year / 100 % 10 ∷ d.year % 100 / 10 ∷ d.year % 100 % 10
    ∷ d.month / 10 ∷ d.month % 10 ∷ d.day / 10 ∷ d.day % 10 ∷ [])

clock_unbroken : (second : ℕ) → IsUnbroken (clock_text second)
clock_unbroken second =
    digits_unbroken (second / 3600 / 10 ∷ second / 3600 % 10 ∷ second / 60 % 60 / 10 ∷ second / 60 % 60 % 10
    ∷ second % 60 / 10 ∷ second % 60 % 10 ∷ [])

local_unbroken : (day : ℤ) (second : ℕ) → IsUnbroken (local_text day second)
local_unbroken day second =
    join (date_text day) (84 ∷ clock_text second) (date_unbroken day) (λ e. absurd (omega arith), clock_unbroken second)

-- the name of its zone has no line break
abbrev pub IsPlain : Moment → Type 0
IsPlain m = IsUnbroken (moment_zone m)

abbrev pub IfPlain : Option Moment → Type 0
IfPlain v = IfSome v IsPlain

pub moment_unbroken : (m : Moment) → IsPlain m → IsUnbroken (shown_moment m)
moment_unbroken (Date day) h = date_unbroken day.number
moment_unbroken (Floating at) h = local_unbroken at.day at.second
moment_unbroken (Utc at) h =
    join (local_text at.day at.second) (90 ∷ []) (local_unbroken at.day at.second) (λ e. absurd (omega arith), tt)
moment_unbroken (Zoned zone at) h =
    join (codes "TZID=") (zone.bytes ++ (codes ":" ++ local_text at.day at.second)) (written_out (codes "TZID=") refl)
    (join zone.bytes (codes ":" ++ local_text at.day at.second) h
    (join (codes ":") (local_text at.day at.second) (written_out (codes ":") refl) (local_unbroken at.day at.second)))

-- ---- the lines of a to-do

abbrev AreLawful : List Content → Type 0
AreLawful cs = AllByRecursion IsLawfulContent cs

front : (cs ds : List Content) → AreLawful (cs ++ ds) → AreLawful cs
front [] ds h = tt
front (c ∷ cs) ds h = (h.0, front cs ds h.1)

back : (cs ds : List Content) → AreLawful (cs ++ ds) → AreLawful ds
back [] ds h = h
back (c ∷ cs) ds h = back cs ds h.1

-- the name of the zone is a parameter of the line
zone_plain : (m : Moment) (rest : List Param) → AllByRecursion IsLawfulParam (moment_params m ++ rest) → IsPlain m
zone_plain (Date day) rest h = tt
zone_plain (Floating at) rest h = tt
zone_plain (Utc at) rest h = tt
zone_plain (Zoned zone at) rest h = clean is_quotable_octet quotable_value zone.bytes h.0.values.0.octets

line_plain : (p : PropertyName) (m : Moment) → IsLawfulContent (moment_line p m) → IsPlain m
line_plain p m h = zone_plain m [] (subst (AllByRecursion IsLawfulParam) (sym (append-nil (moment_params m))) h.each_param)

rid_plain : (range : Bool) (v : Option Moment) → AreLawful (optional (rid_line range) v) → IfPlain v
rid_plain range None h = tt
rid_plain range (Some m) h = zone_plain m (range_params range) h.0.each_param

date_plain : (p : PropertyName) (v : Option Moment) → AreLawful (optional (moment_line p) v) → IfPlain v
date_plain p None h = tt
date_plain p (Some m) h = line_plain p m h.0

rdates_plain : (ms : List Moment) → AreLawful (map (moment_line name.RDate) ms) → AllByRecursion IsPlain ms
rdates_plain [] h = tt
rdates_plain (m ∷ ms) h = (line_plain name.RDate m h.0, rdates_plain ms h.1)

summary_plain : (v : Option Property) → AreLawful (optional (property_line name.Summary) v) →
    IfSome (option_map (λ (p : Property). p.value) v) IsUnbroken
summary_plain None h = tt
summary_plain (Some p) h = value_unbroken p.value h.0.octets

abbrev pub HasPlainValue : Property → Type 0
HasPlainValue p = IsUnbroken p.value

attendees_plain : (ps : List Property) → AreLawful (map (property_line name.Attendee) ps) → AllByRecursion HasPlainValue ps
attendees_plain [] h = tt
attendees_plain (p ∷ ps) h = (value_unbroken p.value h.0.octets, attendees_plain ps h.1)

-- what rows show of a to-do has no line break
pub record IsPlainTodo (todo : Todo) : Type 0 where
  pub uid : IsUnbroken todo.uid
  pub rid : IfPlain todo.rid
  pub start : IfPlain todo.start
  pub due : IfPlain todo.due
  pub summary : IfSome (option_map (λ (p : Property). p.value) todo.summary) IsUnbroken
  pub attendees : AllByRecursion HasPlainValue todo.attendees
  pub rdates : AllByRecursion IsPlain todo.rdates

pub plain : (todo : Todo) → IsPlainTodo todo
plain todo =
    let p : Parts = parts_of todo in
    let rid : AreLawful (rid_on p) = back (base_lines p) (rid_on p) todo.lawful.lines.1.1.1 in
    let start : AreLawful (start_on p) = back (rid_lines p) (start_on p) rid in
    let due : AreLawful (due_on p) = back (start_lines p) (due_on p) start in
    let status : AreLawful (status_on p) = back (due_lines p) (status_on p) due in
    let percent : AreLawful (percent_on p) = back (status_lines p) (percent_on p) status in
    let priority : AreLawful (priority_on p) = back (percent_lines p) (priority_on p) percent in
    let summary : AreLawful (summary_on p) = back (priority_lines p) (summary_on p) priority in
    let organizer : AreLawful (organizer_on p) = back (summary_lines p) (organizer_on p) summary in
    let attendee : AreLawful (attendee_on p) = back (organizer_lines p) (attendee_on p) organizer in
    let rule : AreLawful (rule_on p) = back (attendee_lines p) (rule_on p) attendee in
    let rdate : AreLawful (rdate_on p) = back (rule_lines p) (rdate_on p) rule in
    record {
      uid = value_unbroken todo.uid todo.lawful.lines.0.octets;
      rid = rid_plain todo.range todo.rid (front (rid_lines p) (start_on p) rid);
      start = date_plain name.DtStart todo.start (front (start_lines p) (due_on p) start);
      due = date_plain name.Due todo.due (front (due_lines p) (status_on p) due);
      summary = summary_plain todo.summary (front (summary_lines p) (organizer_on p) summary);
      attendees = attendees_plain todo.attendees (front (attendee_lines p) (rule_on p) attendee);
      rdates = rdates_plain todo.rdates (front (rdate_lines p) (exdate_on p) rdate);
    }

-- ---- the moment in the key of an item: RECURRENCE-ID or DTSTART

abbrev NamesPlain : ItemDraft → Type 0
NamesPlain draft = IfPlain (instance_of draft.key)

instance_names : (range : Bool) (uid : List ℕ) (id : Moment) → IsPlain id → IfPlain (instance_of (instance_key range uid id))
instance_names true uid id h = h
instance_names false uid id h = h

task_names : (k : Kind) (eff : ℕ) (rid : Option Moment) (p : Parts) → IfPlain rid → NamesPlain (task_draft k eff rid p)
task_names k eff None p h = tt
task_names k eff (Some id) p h = instance_names p.range p.uid id h

add_names : (eff : ℕ) (start : Option Moment) (p : Parts) → IfPlain start → AllByRecursion NamesPlain (add_drafts eff start p)
add_names eff None p h = tt
add_names eff (Some id) p h = (h, tt)

attendee_names : (b : Bool) (p : Parts) (attendee : List ℕ) → IfPlain p.rid →
    IfPlain (instance_of (cond b (key.Refresh p.uid p.rid attendee) (key.Answer p.uid p.rid attendee)))
attendee_names true p attendee h = h
attendee_names false p attendee h = h

pub key_plain : (item : Item) → IfPlain (instance_of item.key)
key_plain item =
    let p : Parts = parts_of item.todo in
    let is : IsPlainTodo item.todo = plain item.todo in
    of_item NamesPlain item (λ k eff. task_names k eff p.rid p is.rid) (λ eff. add_names eff p.start p is.start)
    (λ k line. attendee_names (refreshes k) p (attendee_key line.value) is.rid)

-- ---- occurrences, and dates that are moved to them

member_zone : (rule : Option Rule) (start m : Moment) → IsRuleMember rule start m → moment_zone m ≡ moment_zone start
member_zone None start m is = ap moment_zone is
member_zone (Some rule) start m is = elim is.candidate [ inl same ↦ ap moment_zone same | inr later ↦ later.same_time.zone ]

pub occurs_plain : (todo : Todo) (series : Series) → IsSeriesOf todo series → (at : Moment) → Occurs series at → IsPlain at
occurs_plain todo series is at occurs =
    let known : IsPlainTodo todo = plain todo in
    let start : IsPlain series.start = subst IfPlain is.start known.start in
    elim occurs.there [
      | inl member ↦ subst IsUnbroken (sym (member_zone series.rule series.start at member)) start
      | inr there ↦ All-contains IsPlain todo.rdates at (All-from_recursion IsPlain todo.rdates known.rdates)
          (subst (λ (ms : List Moment). Contains ms at) is.rdates there)
    ]

from_plain : (date from at : Moment) (shown : Option Moment) → IsDateFrom date from at shown → IsPlain date → IfPlain shown
from_plain date from at None is h = tt
from_plain date from at (Some m) is h = subst IsUnbroken (sym is.1.shifted.zone) h

pub due_of_plain : (due : Option Moment) (start at : Moment) (shown : Option Moment) → IsDueOf due start at shown → IfPlain due →
    IfPlain shown
due_of_plain None start at shown is h = subst IfPlain (sym is) tt
due_of_plain (Some due) start at None is h = tt
due_of_plain (Some due) start at (Some m) is h = subst IsUnbroken (sym is.1.shifted.zone) h

pub start_from_plain : (start : Option Moment) (from at : Moment) (shown : Option Moment) → IsStartFrom start from at shown →
    IfPlain start → IsPlain at → IfPlain shown
start_from_plain None from at shown is h here = subst IfPlain (sym is) here
start_from_plain (Some start) from at shown is h here = from_plain start from at shown is h

pub due_from_plain : (due : Option Moment) (from at : Moment) (shown : Option Moment) → IsDueFrom due from at shown → IfPlain due →
    IfPlain shown
due_from_plain None from at shown is h = subst IfPlain (sym is) tt
due_from_plain (Some due) from at shown is h = from_plain due from at shown is h
