-- RECURRENCE-ID of what is in question, and of what an item speaks of, is spelt as a content line is.
use Rattle.std.proofs.Common.{◌≡◌, ◌∙◌, ℕ, ◌≤◌, List, [], ◌∷◌, ◌++◌, length, length-append, map, append-nil, refl, sym, ap, subst, arith}
use Rattle.std.proofs.Common.{◌⊎◌, inl, inr, Bool, true, false, Option, Some, None}
use Rattle.std.specs.Prelude.{IsTrue, codes}
use Rattle.std.specs.List.{AllByRecursion, Contains, list_all}
use Rattle.std.specs.Str.{IsUtf8}
use Rattle.itip_lines.specs.Lawful as line
use Rattle.itip_lines.specs.Lawful.{IsLawfulParam}
use Rattle.itip_lines.specs.Octets.{is_value_octet}
use Rattle.itip_lines.specs.declared.line.Param.{Param}
use Rattle.itip_moment.specs.Moment.{moment_form, moment_zone}
use Rattle.itip_moment.specs.Spelling.{IsDateText}
use Rattle.itip_moment.specs.Written.{date_text, local_text, moment_text, stamp_text}
use Rattle.itip_moment.specs.declared.moment.Form.{Form}
use Rattle.itip_moment.specs.declared.moment.Form.TheVariants as form
use Rattle.itip_moment.specs.declared.moment.Moment.{Moment}
use Rattle.itip_moment.specs.declared.moment.Moment.TheVariants.{Date, Floating, Utc, Zoned}
use Rattle.itip_moment.specs.declared.stamp.Stamp.{Stamp}
use Rattle.itip_moment.proofs.ValueLaws.{date_text-IsDateText, local_text-IsLocalText}
use Rattle.itip_moment.proofs.WrittenOctets.{stamp_text_octets}
use Rattle.itip_todo.specs.Lawful.{IsLawful, IsLawfulContent}
use Rattle.itip_todo.specs.Parts.{Parts}
use Rattle.itip_todo.specs.PartsOf.{parts_of}
use Rattle.itip_todo.specs.Values.{IsMomentText}
use Rattle.itip_todo.specs.Written.{Content, moment_line, moment_params, optional, range_params, rid_line}
use Rattle.itip_todo.specs.Properties.{Property}
use Rattle.itip_todo.specs.declared.property_name.PropertyName.TheVariants as name
use Rattle.itip_todo.proofs.LawfulLines.{moment_lawful, stamp_lawful}
use Rattle.itip_todo.proofs.Segments.{all_append}
use Rattle.itip_recur.specs.Members.{IsCandidate, IsRuleMember, Occurs}
use Rattle.itip_recur.specs.ToDoShape.{IsSeriesOf}
use Rattle.itip_recur.specs.declared.rule.Rule.{Rule}
use Rattle.itip_recur.specs.declared.series.Series.{Series}
use Rattle.itip_items.specs.Items.{ItemDraft, add_drafts, attendee_draft, drafts_of, effective_sequence, instance_key, kind_of, method_of}
use Rattle.itip_items.specs.Items.{task_draft}
use Rattle.itip_items.specs.KeyParts.{instance_of, uid_of}
use Rattle.itip_items.specs.declared.item.Item.{Item}
use Rattle.itip_items.specs.declared.kind.Kind.{Kind}
use Rattle.itip_items.specs.declared.kind.Kind.TheVariants as kind
use Rattle.itip_items.proofs.Pieces.{attendees_of, base_of, due_of, organizer_of, percent_of, priority_of, rdates_of, rid_of, rule_of}
use Rattle.itip_items.proofs.Pieces.{start_of, status_of, summary_of, from_attendees, from_due, from_exdates, from_organizer, from_percent}
use Rattle.itip_items.proofs.Pieces.{from_priority, from_rdates, from_rid, from_rule, from_start, from_status, from_summary}
use Rattle.itip_items.proofs.SameItem.{draft, alone}
use Rattle.itip_items.proofs.Uids.{uid_of_item}
use Rattle.itip_state.proofs.Members.{none_in, cons_cases}
use Rattle.itip_view.specs.InQuestion.{GovernsOccurrence, IsInQuestion}
use Rattle.itip_writing.proofs.Spelt.{IsSpelt}

-- ---- the text of a moment

-- a line with a stamp has room for each moment
carried : (at : Stamp) (text : List ℕ) (m : Moment) → IsMomentText [] text m → length text ≤ 16 →
    line.IsLawful (codes "DTSTAMP") (moment_params m) (moment_text m)
carried at text m is within =
    let long : length (stamp_text at) ≡ 16 = (stamp_text_octets at).1 in
    moment_lawful (codes "DTSTAMP") [] (stamp_text at) text m (stamp_lawful at) (omega arith) is (omega (arith, within, long))

local_long : (at : Stamp) → length (local_text at.day at.second) ≤ 16
local_long at =
    let whole : length (stamp_text at) ≡ 16 = (stamp_text_octets at).1 in
    omega (arith, whole, length-append (local_text at.day at.second) (90 ∷ []))

abbrev HasText : List ℕ → Type 0
HasText text = IsTrue (list_all is_value_octet text) × IsUtf8 text

local_spelt : (at : Stamp) → HasText (local_text at.day at.second)
local_spelt at =
    let h = carried at (local_text at.day at.second) (Floating at) (local_text-IsLocalText at, refl) (local_long at) in
    (h.octets, h.utf8)

text_spelt : (m : Moment) → HasText (moment_text m)
text_spelt (Date day) =
    let at : Stamp = record { day = day.number; second = 0; in_years = day.in_years; in_day = omega arith } in
    let is : IsDateText (date_text day.number) day.number = date_text-IsDateText day.number day.in_years in
    let long : length (date_text day.number) ≡ 8 = ap length is.spelt in
    let h = carried at (date_text day.number) (Date day) is (omega (arith, long)) in
    (h.octets, h.utf8)
text_spelt (Floating at) = local_spelt at
text_spelt (Utc at) = let h = stamp_lawful at in (h.octets, h.utf8)
text_spelt (Zoned zone at) = local_spelt at

-- ---- its parameters

-- the parameters of a moment are lawful: its zone can be a parameter value
abbrev pub HasParams : Moment → Type 0
HasParams m = AllByRecursion IsLawfulParam (moment_params m)

range_param : IsLawfulParam (record { name = codes "RANGE"; values = codes "THISANDFUTURE" ∷ [] })
unfolding lib.Utf8.encode
range_param = record {
  named = record { some = omega arith; upper = refl };
  some = omega arith;
  values =
      (record { octets = refl; utf8 = (codes "THISANDFUTURE", (refl, refl)) }, tt);
}

each_range : (range : Bool) → AllByRecursion IsLawfulParam (range_params range)
each_range true = (range_param, tt)
each_range false = tt

pub rid_spelt : (range : Bool) (id : Moment) → HasParams id → IsSpelt (rid_line range id)
rid_spelt range id h =
    let text = text_spelt id in record {
      named = record { some = omega arith; upper = refl };
      each_param = all_append IsLawfulParam (moment_params id) (range_params range) h (each_range range);
      octets = text.0;
      utf8 = text.1;
    }

-- moments of one form and zone have the same parameters
abbrev params_by : Form → List ℕ → List Param
params_by form.Date zone = (record { name = codes "VALUE"; values = codes "DATE" ∷ [] }) ∷ []
params_by form.Floating zone = []
params_by form.Utc zone = []
params_by form.Zoned zone = (record { name = codes "TZID"; values = zone ∷ [] }) ∷ []

params_are : (m : Moment) → moment_params m ≡ params_by (moment_form m) (moment_zone m)
params_are (Date day) = refl
params_are (Floating at) = refl
params_are (Utc at) = refl
params_are (Zoned zone at) = refl

alike_params : (start m : Moment) → moment_form m ≡ moment_form start → moment_zone m ≡ moment_zone start → HasParams start → HasParams m
alike_params start m same_form same_zone h =
    let same : moment_params m ≡ moment_params start =
    params_are m ∙ (λ i. params_by (same_form i) (same_zone i)) ∙ sym (params_are start) in
    subst (λ (ps : List Param). AllByRecursion IsLawfulParam ps) (sym same) h

-- ---- the lines of a to-do

abbrev AreLawful : List Content → Type 0
AreLawful cs = AllByRecursion IsLawfulContent cs

front : (cs ds : List Content) → AreLawful (cs ++ ds) → AreLawful cs
front [] ds h = tt
front (c ∷ cs) ds h = (h.0, front cs ds h.1)

back : (cs ds : List Content) → AreLawful (cs ++ ds) → AreLawful ds
back [] ds h = h
back (c ∷ cs) ds h = back cs ds h.1

front_params : (ps qs : List Param) → AllByRecursion IsLawfulParam (ps ++ qs) → AllByRecursion IsLawfulParam ps
front_params [] qs h = tt
front_params (p ∷ ps) qs h = (h.0, front_params ps qs h.1)

module _ (p : Parts) (h : IsLawful p) where
  rid_on : AreLawful (from_rid p)
  rid_on = back (base_of p) (from_rid p) h.lines.1.1.1

  start_on : AreLawful (from_start p)
  start_on = back (rid_of p) (from_start p) rid_on

  organizer_on : AreLawful (from_organizer p)
  organizer_on =
      let due : AreLawful (from_due p) = back (start_of p) (from_due p) start_on in
      let status : AreLawful (from_status p) = back (due_of p) (from_status p) due in
      let percent : AreLawful (from_percent p) = back (status_of p) (from_percent p) status in
      let priority : AreLawful (from_priority p) = back (percent_of p) (from_priority p) percent in
      let summary : AreLawful (from_summary p) = back (priority_of p) (from_summary p) priority in
      back (summary_of p) (from_organizer p) summary

  attendees_on : AreLawful (from_attendees p)
  attendees_on = back (organizer_of p) (from_attendees p) organizer_on

  pub organizer_lawful : AreLawful (organizer_of p)
  organizer_lawful = front (organizer_of p) (from_attendees p) organizer_on

  pub attendees_lawful : AreLawful (attendees_of p)
  attendees_lawful = front (attendees_of p) (from_rule p) attendees_on

  rdates_lawful : AreLawful (rdates_of p)
  rdates_lawful =
      let rule : AreLawful (from_rule p) = back (attendees_of p) (from_rule p) attendees_on in
      front (rdates_of p) (from_exdates p) (back (rule_of p) (from_rdates p) rule)

  rid_params : (m : Moment) → p.rid ≡ Some m → HasParams m
  rid_params m is =
      let only : AreLawful (optional (rid_line p.range) (Some m)) =
      subst (λ (v : Option Moment). AreLawful (optional (rid_line p.range) v)) is (front (rid_of p) (from_start p) rid_on) in
      front_params (moment_params m) (range_params p.range) only.0.each_param

  start_params : (m : Moment) → p.start ≡ Some m → HasParams m
  start_params m is =
      let only : AreLawful (optional (moment_line name.DtStart) (Some m)) =
      subst (λ (v : Option Moment). AreLawful (optional (moment_line name.DtStart) v)) is (front (start_of p) (from_due p) start_on) in
      only.0.each_param

one_rdate : (ms : List Moment) → AreLawful (map (moment_line name.RDate) ms) → (m : Moment) → Contains ms m → HasParams m
one_rdate [] h m there = absurd (none_in m there)
one_rdate (n ∷ ms) h m there = elim (cons_cases n ms m there) [
  | inl same ↦ subst HasParams same h.0.each_param
  | inr later ↦ one_rdate ms h.1 m later
]

-- ---- what an item speaks of

-- a draft names an instance by RECURRENCE-ID or, if it adds the instance, by DTSTART
abbrev Names : Parts → ItemDraft → Type 0
Names p draft = (id : Moment) → instance_of draft.key ≡ Some id → (p.rid ≡ Some id) ⊎ (p.start ≡ Some id)

instance_named : (range : Bool) (uid : List ℕ) (m id : Moment) → instance_of (instance_key range uid m) ≡ Some id → Some m ≡ Some id
instance_named true uid m id e = e
instance_named false uid m id e = e

task_names : (k : Kind) (eff : ℕ) (p : Parts) (rid : Option Moment) → p.rid ≡ rid → Names p (task_draft k eff rid p)
task_names k eff p None is id e = absurd cc
task_names k eff p (Some m) is id e = inl (is ∙ instance_named p.range p.uid m id e)

add_names : (eff : ℕ) (p : Parts) (start : Option Moment) → p.start ≡ start → AllByRecursion (Names p) (add_drafts eff start p)
add_names eff p None is = tt
add_names eff p (Some m) is = (λ id e. inr (is ∙ e), tt)

attendee_names : (k : Kind) (p : Parts) (a : Property) → Names p (attendee_draft k p a)
attendee_names kind.Request p a id e = inl e
attendee_names kind.Add p a id e = inl e
attendee_names kind.Remove p a id e = inl e
attendee_names kind.Cancel p a id e = inl e
attendee_names kind.Reply p a id e = inl e
attendee_names kind.Refresh p a id e = inl e

attendees_name : (k : Kind) (p : Parts) (list : List Property) → AllByRecursion (Names p) (map (attendee_draft k p) list)
attendees_name k p [] = tt
attendees_name k p (a ∷ rest) = (attendee_names k p a, attendees_name k p rest)

drafts_name : (k : Kind) (eff : ℕ) (p : Parts) → AllByRecursion (Names p) (drafts_of k eff p)
drafts_name kind.Request eff p = (task_names kind.Request eff p p.rid refl, tt)
drafts_name kind.Cancel eff p = (task_names kind.Cancel eff p p.rid refl, tt)
drafts_name kind.Add eff p = add_names eff p p.start refl
drafts_name kind.Remove eff p = attendees_name kind.Remove p p.attendees
drafts_name kind.Reply eff p = attendees_name kind.Reply p p.attendees
drafts_name kind.Refresh eff p = attendees_name kind.Refresh p p.attendees

item_names : (item : Item) → Names (parts_of item.todo) (draft item)
item_names item =
    let p : Parts = parts_of item.todo in
    let eff : ℕ = effective_sequence (method_of item.kind) (p ∷ []) p in
    let k : Kind = kind_of (method_of item.kind) p in
    let one : drafts_of k eff p ≡ draft item ∷ [] = sym (append-nil (drafts_of k eff p)) ∙ alone item in
    (subst (λ (ds : List ItemDraft). AllByRecursion (Names p) ds) one (drafts_name k eff p)).0

pub item_params : (item : Item) (id : Moment) → instance_of item.key ≡ Some id → HasParams id
item_params item id is = elim (item_names item id is) [
  | inl rid ↦ rid_params (parts_of item.todo) item.todo.lawful id rid
  | inr start ↦ start_params (parts_of item.todo) item.todo.lawful id start
]

-- ---- what is in question

member_params : (rule : Option Rule) (start m : Moment) → HasParams start → IsRuleMember rule start m → HasParams m
member_params None start m h is = subst HasParams (sym is) h
member_params (Some rule) start m h is = by is.candidate
  where
    by : IsCandidate rule start m → HasParams m
    by (inl same) = subst HasParams (sym same) h
    by (inr repeat) = alike_params start m repeat.same_time.form repeat.same_time.zone h

occurs_params : (item : Item) (series : Series) → IsSeriesOf item.todo series → (m : Moment) → Occurs series m → HasParams m
occurs_params item series repeats m occurs = by occurs.there
  where
    by : IsRuleMember series.rule series.start m ⊎ Contains series.rdates m → HasParams m
    by (inl member) = member_params series.rule series.start m
        (start_params (parts_of item.todo) item.todo.lawful series.start repeats.start) member
    by (inr there) = one_rdate item.todo.rdates (rdates_lawful (parts_of item.todo) item.todo.lawful) m
        (subst (λ (ms : List Moment). Contains ms m) repeats.rdates there)

pub question_params : (heard : List Item) (uid : List ℕ) (id : Moment) (item : Item) → IsInQuestion heard uid (Some id) item → HasParams id
question_params heard uid id item (inl live) = item_params item id (ap instance_of live.stands.best.about)
question_params heard uid id item (inr between) =
    occurs_params between.occurs.item between.occurs.series between.occurs.repeats id between.occurs.occurs

-- the UID of what governs
pub question_uid : (heard : List Item) (uid : List ℕ) (id : Option Moment) (item : Item) → IsInQuestion heard uid id item →
    item.todo.uid ≡ uid
question_uid heard uid None item is = sym (uid_of_item item) ∙ ap uid_of is.best.about
question_uid heard uid (Some at) item (inl live) = sym (uid_of_item item) ∙ ap uid_of live.stands.best.about
question_uid heard uid (Some at) item (inr between) = by between
  where
    by : GovernsOccurrence heard uid at item → item.todo.uid ≡ uid
    by o = elim o.governs [
      | inl range ↦ sym (uid_of_item item) ∙ ap uid_of range.rules.stands.best.about
      | inr series ↦ sym (uid_of_item item) ∙ ap uid_of series.1.best.about
    ]
