-- From the draft of all lines to the to-do.
use Rattle.std.proofs.Common.{◌≡◌, ◌≢◌, Bool, true, false, ◌&&◌, ℕ, zero, suc, ◌+◌, ◌<◌, ◌≤◌, List, [], ◌∷◌, length, map, refl, sym, ap}
use Rattle.std.proofs.Common.{subst, ◌∙◌, inl, inr, arith, length-append, Option, Some, None}
use Rattle.std.specs.BTreeSet.{BTreeSet, IsOrdered}
use Rattle.std.specs.Fmt.{decimal}
use Rattle.std.specs.List.{AllByRecursion, Contains, IsDistinct, list_all}
use Rattle.std.specs.List.Sorted.{IsStrictlySortedBy}
use Rattle.std.specs.Option.{is_some}
use Rattle.std.specs.Prelude.{◌↔◌, codes, unwrap_or, IsTrue}
use Rattle.std.proofs.lemmas.List.{length-map}
use Rattle.itip_lines.specs.Lawful as line
use Rattle.itip_lines.specs.declared.line.Line.{Line}
use Rattle.itip_lines.specs.declared.line.Param.{Param}
use Rattle.itip_lines.proofs.LawfulLemmas.{lawful_without_params}
use Rattle.itip_moment.specs.Order.{moment_cmp}
use Rattle.itip_moment.specs.declared.moment.Moment.{Moment}
use Rattle.itip_moment.specs.declared.stamp.Stamp.{Stamp}
use Rattle.itip_todo.specs.Parts.{Parts}
use Rattle.itip_todo.specs.Drafts.{IsDraftOf, IsLawfulDraft, IsSetOf, draft_parts}
use Rattle.itip_todo.specs.Lawful.{IsLawful, IsLawfulContent, HasValue, keys_of}
use Rattle.itip_todo.specs.Participation.{same_text}
use Rattle.itip_todo.specs.Reading.{IsOptional, IsOrNought, IfRefused, AreGood, LacksProperty, missing, IsUidOf, IsStampOf, IsSequenceOf}
use Rattle.itip_todo.specs.Reading.{IsPercentOf, IsPriorityOf, IsMomentOf, IsStatusOf, IsPropertyOf, IsOrganizerOf, AreMomentsOf}
use Rattle.itip_todo.specs.Reading.{ListMoments, lines_of, first_of, first_named, range_of, whole_property, value_of, key_of}
use Rattle.itip_todo.specs.StatusText.{status_text}
use Rattle.itip_todo.specs.Table.{name_text, place_of, is_same, property_of, is_other, sequence_limit, percent_limit, priority_limit}
use Rattle.itip_todo.specs.Table.{attendee_limit}
use Rattle.itip_todo.specs.Values.{IsNumberUpTo, AreMoments}
use Rattle.itip_todo.specs.Written.{Content, content_of, plain, moment_line, rid_line, property_line, parts_contents}
use Rattle.itip_todo.specs.declared.draft.Draft.{Draft}
use Rattle.itip_todo.specs.declared.error.TodoError.{TodoError}
use Rattle.itip_todo.specs.declared.error.TodoError.TheVariants as error
use Rattle.itip_todo.specs.Properties.{Property}
use Rattle.itip_todo.specs.declared.property_name.PropertyName.{PropertyName}
use Rattle.itip_todo.specs.declared.property_name.PropertyName.TheVariants as name
use Rattle.itip_todo.proofs.LawfulLines.{stamp_lawful, number_lawful, status_lawful, moment_lawful, rid_lawful}
use Rattle.itip_todo.proofs.Names.{all_named, first_named_is, has_name}
use Rattle.itip_todo.proofs.Segments.{all_append, all_optional, all_map, all_parts}
use Rattle.itip_todo.proofs.Sets.{same_members}

-- a value that is there has a line
found : {A : Type 0} (P : Line → A → Type 0) (o : Option Line) (v : Option A) (a : A) → IsOptional P o v → v ≡ Some a → (l : Line) ×
    (o ≡ Some l) × P l a
found P None None a h e = absurd cc
found P None (Some b) a h e = absurd h
found P (Some l) None a h e = absurd h
found {A} P (Some l) (Some b) a h e = let same : b ≡ a = cc in (l, refl, subst (λ (x : A). P l x) same h)

pub or_nought : (P : Line → ℕ → Type 0) (o : Option Line) (v : Option ℕ) → IsOptional P o v → IsOrNought P o (unwrap_or v 0)
or_nought P None None h = refl
or_nought P None (Some n) h = absurd h
or_nought P (Some l) None h = absurd h
or_nought P (Some l) (Some n) h = h

small : (limit : ℕ) (text : List ℕ) (n : ℕ) → IsNumberUpTo limit text n → n ≤ limit
small limit text n (inl (noughts, e)) = omega (arith, e)
small limit text n (inr digits) = digits.small

at_most : (P : Line → ℕ → Type 0) (limit : ℕ) → ((l : Line) (n : ℕ) → P l n → n ≤ limit) → (o : Option Line) (v : Option ℕ) (n : ℕ) →
    IsOptional P o v → v ≡ Some n → n ≤ limit
at_most P limit below o v n h e = let at = found P o v n h e in below at.0 n at.2

-- the line of a property, under its name
lawful_line : (l : Line) (p : PropertyName) → property_of l ≡ p → place_of p < 16 → line.IsLawful (name_text p) l.params l.value
lawful_line l p e few = subst (λ (n : List ℕ). line.IsLawful n l.params l.value) (has_name l p e few) l.lawful

lawful_plain : (l : Line) (p : PropertyName) → property_of l ≡ p → place_of p < 16 → line.IsLawful (name_text p) [] l.value
lawful_plain l p e few = lawful_without_params (name_text p) l.params l.value (lawful_line l p e few)

-- the moment of a property that may appear once
one_moment : (lines : List Line) (p : PropertyName) (v : Option Moment) → place_of p < 16 → length (name_text p) ≤ 100 →
    IsOptional IsMomentOf (first_of (lines_of lines p)) v → (m : Moment) → v ≡ Some m → IsLawfulContent (moment_line p m)
one_moment lines p v few short h m e =
    let at = found IsMomentOf (first_of (lines_of lines p)) v m h e in
    moment_lawful (name_text p) at.0.params at.0.value at.0.value m (lawful_line at.0 p (first_named_is lines p at.0 at.1) few) short at.2
    (omega arith)

-- RECURRENCE-ID, perhaps with a range
one_rid : (lines : List Line) (v : Option Moment) (b : Bool) → IsOptional IsMomentOf (first_named name.RecurrenceId lines) v →
    b ≡ range_of (first_named name.RecurrenceId lines) → (m : Moment) → v ≡ Some m → IsLawfulContent (rid_line b m)
one_rid lines v b h range m e =
    let at = found IsMomentOf (first_named name.RecurrenceId lines) v m h e in
    rid_lawful (name_text name.RecurrenceId) at.0.params at.0.value m b
    (lawful_line at.0 name.RecurrenceId (first_named_is lines name.RecurrenceId at.0 at.1) (omega arith)) (omega arith) at.2 (range ∙
    ap range_of at.1)

-- a range is that of a moment
ranged : (o : Option Line) (v : Option Moment) (b : Bool) → IsOptional IsMomentOf o v → b ≡ range_of o → IsTrue b → IsTrue (is_some v)
ranged None None b h e on = absurd (let none : false ≡ true = sym e ∙ on in cc)
ranged None (Some m) b h e on = absurd h
ranged (Some l) None b h e on = absurd h
ranged (Some l) (Some m) b h e on = refl

-- the property of which the whole line is kept
one_property : (P : Line → Property → Type 0) → ((l : Line) (x : Property) → P l x → x ≡ whole_property l) →
    (lines : List Line) (p : PropertyName) (v : Option Property) → place_of p < 16 → IsOptional P (first_of (lines_of lines p)) v
    → (x : Property) → v ≡ Some x → IsLawfulContent (property_line p x)
one_property P whole lines p v few h x e =
    let at = found P (first_of (lines_of lines p)) v x h e in
    subst (λ (y : Property). IsLawfulContent (property_line p y)) (sym (whole at.0 x at.2))
    (lawful_line at.0 p (first_named_is lines p at.0 at.1) few)

-- moments that are listed
text_moments : (p : PropertyName) (params : List Param) (value : List ℕ) → line.IsLawful (name_text p) params value →
    length (name_text p) ≤ 100 → (text : List ℕ) (ms : List Moment) → AreMoments params text ms → length text ≤ length value
    → AllByRecursion (λ m. IsLawfulContent (moment_line p m)) ms
text_moments p params value h short text [] is within = absurd is
text_moments p params value h short text (m ∷ []) is within = (moment_lawful (name_text p) params value text m h short is within, tt)
text_moments p params value h short text (m ∷ (n ∷ ns)) is within =
    let long : length text ≡ length is.0 + length (44 ∷ is.1) = ap length is.2 ∙ length-append is.0 (44 ∷ is.1) in (
      moment_lawful (name_text p) params value is.0 m h short is.3 (omega (arith, long)),
      text_moments p params value h short is.1 (n ∷ ns) is.4 (omega (arith, long)),
    )

listed_moments : (p : PropertyName) → place_of p < 16 → length (name_text p) ≤ 100 → (lines : List Line) (ms : List Moment) →
    AllByRecursion (λ (l : Line). property_of l ≡ p) lines → ListMoments lines ms →
    AllByRecursion (λ m. IsLawfulContent (moment_line p m)) ms
listed_moments p few short [] ms named is =
    subst (λ (xs : List Moment). AllByRecursion (λ m. IsLawfulContent (moment_line p m)) xs) (sym is) tt
listed_moments p few short (l ∷ lines) ms named is =
    subst (λ (xs : List Moment). AllByRecursion (λ m. IsLawfulContent (moment_line p m)) xs) (sym is.2)
    (all_append (λ m. IsLawfulContent (moment_line p m)) is.0 is.1
    (text_moments p l.params l.value (lawful_line l p named.0 few) short l.value is.0 is.3 (omega arith))
    (listed_moments p few short lines is.1 named.1 is.4))

-- attendees, rules and the others, as their lines
whole_lines : (lines : List Line) → AllByRecursion (λ (l : Line). property_of l ≡ name.Attendee) lines →
    AllByRecursion IsLawfulContent (map (property_line name.Attendee) (map whole_property lines))
whole_lines [] h = tt
whole_lines (l ∷ lines) h = (lawful_line l name.Attendee h.0 (omega arith), whole_lines lines h.1)

rule_lines : (lines : List Line) → AllByRecursion (λ (l : Line). property_of l ≡ name.RRule) lines →
    AllByRecursion IsLawfulContent (map (plain name.RRule) (map value_of lines))
rule_lines [] h = tt
rule_lines (l ∷ lines) h = (lawful_plain l name.RRule h.0 (omega arith), rule_lines lines h.1)

other_lines : (lines : List Line) → AllByRecursion IsLawfulContent (map content_of lines)
other_lines [] = tt
other_lines (l ∷ lines) = (l.lawful, other_lines lines)

all_others : (lines : List Line) → AllByRecursion (λ (l : Line). property_of l ≡ name.Others) lines → list_all is_other lines ≡ true
all_others [] h = refl
all_others (l ∷ lines) h = λ i. is_same (h.0 i) name.Others && all_others lines h.1 i

keys_whole : (lines : List Line) → keys_of (map whole_property lines) ≡ map key_of lines
keys_whole [] = refl
keys_whole (l ∷ lines) = ap (λ (ks : List (List ℕ)). key_of l ∷ ks) (keys_whole lines)

-- what the lines of each property say
pub record AreParts (lines : List Line) (parts : Parts) : Type 0 where
  pub uid : IsOptional IsUidOf (first_named name.Uid lines) (Some parts.uid)
  pub stamp : IsOptional IsStampOf (first_named name.DtStamp lines) (Some parts.stamp)
  pub seq : IsOrNought IsSequenceOf (first_named name.Sequence lines) parts.seq
  pub base : IsOptional IsSequenceOf (first_named name.DeskBase lines) parts.base
  pub rid : IsOptional IsMomentOf (first_named name.RecurrenceId lines) parts.rid
  pub range : parts.range ≡ range_of (first_named name.RecurrenceId lines)
  pub start : IsOptional IsMomentOf (first_named name.DtStart lines) parts.start
  pub due : IsOptional IsMomentOf (first_named name.Due lines) parts.due
  pub status : IsOptional IsStatusOf (first_named name.Status lines) parts.status
  pub percent : IsOptional IsPercentOf (first_named name.PercentComplete lines) parts.percent
  pub priority : IsOptional IsPriorityOf (first_named name.Priority lines) parts.priority
  pub summary : IsOptional IsPropertyOf (first_named name.Summary lines) parts.summary
  pub organizer : IsOptional IsOrganizerOf (first_named name.Organizer lines) parts.organizer
  pub attendees : parts.attendees ≡ map whole_property (lines_of lines name.Attendee)
  pub rule : parts.rule ≡ map value_of (lines_of lines name.RRule)
  pub rdates : AreMomentsOf (lines_of lines name.RDate) parts.rdates
  pub exdates : AreMomentsOf (lines_of lines name.ExDate) parts.exdates
  pub others : parts.others ≡ lines_of lines name.Others

-- what ATTENDEE lines keep to
pub record AreAttendees (lines : List Line) : Type 0 where
  pub few : length lines ≤ attendee_limit
  pub values : AllByRecursion HasValue (map whole_property lines)
  pub distinct : IsDistinct same_text (map key_of lines)

sequence_small : (o : Option Line) (n : ℕ) → IsOrNought IsSequenceOf o n → n ≤ sequence_limit
sequence_small None n h = omega (arith, h)
sequence_small (Some l) n h = small sequence_limit l.value n h

-- what holds of the moments that are listed holds of the same moments in order
contained : (P : Moment → Type 0) (ms : List Moment) (m : Moment) → AllByRecursion P ms → Contains ms m → P m
contained P [] m h (k, within, e) = absurd (omega arith)
contained P (x ∷ ms) m h (zero, within, e) = subst P e h.0
contained P (x ∷ ms) m h (suc k, within, e) = contained P ms m h.1 (k, omega arith, e)

members : (P : Moment → Type 0) (ms listed : List Moment) → ((m : Moment) → Contains ms m → Contains listed m) → AllByRecursion P listed →
    AllByRecursion P ms
members P [] listed among all = tt
members P (x ∷ ms) listed among all =
    (contained P listed x all (among x (0, omega arith, refl)), members P ms listed (λ m h. among m (suc h.0, omega (arith, h.1), h.2)) all)

moments_lawful : (lines : List Line) (p : PropertyName) (moments : List Moment) → place_of p < 16 → length (name_text p) ≤ 100 →
    AreMomentsOf (lines_of lines p) moments → AllByRecursion IsLawfulContent (map (moment_line p) moments)
moments_lawful lines p moments few short is =
    all_map IsLawfulContent (moment_line p) moments
    (members (λ m. IsLawfulContent (moment_line p m)) moments is.listed (λ m. (is.each m).0)
    (listed_moments p few short (lines_of lines p) is.listed (all_named lines p) is.list))

contents_lawful : (lines : List Line) (parts : Parts) → AreParts lines parts → AllByRecursion IsLawfulContent (parts_contents parts)
contents_lawful lines parts is =
    let uid_at = found IsUidOf (first_named name.Uid lines) (Some parts.uid) parts.uid is.uid refl in
    let uid_lawful : line.IsLawful (codes "UID") [] parts.uid =
    subst (λ (u : List ℕ). line.IsLawful (codes "UID") [] u) (sym uid_at.2.0) (lawful_plain
    uid_at.0 name.Uid (first_named_is lines name.Uid uid_at.0 uid_at.1) (omega arith)) in
    let P : Content → Type 0 = IsLawfulContent in
    all_parts P parts (record {
      head = (
        uid_lawful,
        (
          stamp_lawful parts.stamp,
          (
            number_lawful (codes "SEQUENCE") (record { some = omega arith; upper = refl }) (omega arith) parts.seq
                (sequence_small (first_named name.Sequence lines) parts.seq is.seq),
            tt,
          ),
        ),
      );
      base = all_optional P (λ n. plain name.DeskBase (decimal n)) parts.base
          (λ n e. number_lawful (codes "X-DESK-BASE") (record { some = omega arith; upper = refl }) (omega arith) n
          (at_most IsSequenceOf sequence_limit (λ l. small sequence_limit l.value) (first_named name.DeskBase lines) parts.base n is.base
          e));
      rid = all_optional P (rid_line parts.range) parts.rid (one_rid lines parts.rid parts.range is.rid is.range);
      start = all_optional P (moment_line name.DtStart) parts.start
          (one_moment lines name.DtStart parts.start (omega arith) (omega arith) is.start);
      due = all_optional P (moment_line name.Due) parts.due (one_moment lines name.Due parts.due (omega arith) (omega arith) is.due);
      status = all_optional P (λ s. plain name.Status (status_text s)) parts.status (λ s e. status_lawful s);
      percent = all_optional P (λ n. plain name.PercentComplete (decimal n)) parts.percent
          (λ n e. number_lawful (codes "PERCENT-COMPLETE") (record { some = omega arith; upper = refl }) (omega arith) n
          (let below : n ≤ 100 =
          at_most IsPercentOf percent_limit (λ l. small percent_limit l.value) (first_named name.PercentComplete lines) parts.percent n
          is.percent e in omega arith));
      priority = all_optional P (λ n. plain name.Priority (decimal n)) parts.priority
          (λ n e. number_lawful (codes "PRIORITY") (record { some = omega arith; upper = refl }) (omega arith) n (let below : n ≤ 9 =
          at_most IsPriorityOf priority_limit (λ l. small priority_limit l.value) (first_named name.Priority lines) parts.priority n
          is.priority e in omega arith));
      summary = all_optional P (property_line name.Summary) parts.summary
          (one_property IsPropertyOf (λ l x h. h) lines name.Summary parts.summary (omega arith) is.summary);
      organizer = all_optional P (property_line name.Organizer) parts.organizer
          (one_property IsOrganizerOf (λ l x h. h.0) lines name.Organizer parts.organizer (omega arith) is.organizer);
      attendee = subst (λ (ps : List Property). AllByRecursion P (map (property_line name.Attendee) ps)) (sym is.attendees)
          (whole_lines (lines_of lines name.Attendee) (all_named lines name.Attendee));
      rule = subst (λ (vs : List (List ℕ)). AllByRecursion P (map (plain name.RRule) vs)) (sym is.rule)
          (rule_lines (lines_of lines name.RRule) (all_named lines name.RRule));
      rdate = moments_lawful lines name.RDate parts.rdates (omega arith) (omega arith) is.rdates;
      exdate = moments_lawful lines name.ExDate parts.exdates (omega arith) (omega arith) is.exdates;
      other = subst (λ (ls : List Line). AllByRecursion P (map content_of ls)) (sym is.others) (other_lines (lines_of lines name.Others));
    })

-- the parts that lines say are lawful
pub lawful_parts : (lines : List Line) (parts : Parts) → AreParts lines parts → AreAttendees (lines_of lines name.Attendee) → IsLawful parts
lawful_parts lines parts is attendees =
    let uid_at = found IsUidOf (first_named name.Uid lines) (Some parts.uid) parts.uid is.uid refl in
    record {
      uid = subst (λ (u : List ℕ). 0 < length u) (sym uid_at.2.0) uid_at.2.1;
      seq = sequence_small (first_named name.Sequence lines) parts.seq is.seq;
      base = λ n. at_most IsSequenceOf sequence_limit (λ l. small sequence_limit l.value) (first_named name.DeskBase lines) parts.base n
          is.base;
      range = ranged (first_named name.RecurrenceId lines) parts.rid parts.range is.rid is.range;
      percent = λ n. at_most IsPercentOf percent_limit (λ l. small percent_limit l.value) (first_named name.PercentComplete lines)
          parts.percent n is.percent;
      priority = λ n. at_most IsPriorityOf priority_limit (λ l. small priority_limit l.value) (first_named name.Priority lines)
          parts.priority n is.priority;
      organizer = λ p e.
          let at = found IsOrganizerOf (first_named name.Organizer lines) parts.organizer p is.organizer e in
          subst (λ (x : Property). HasValue x) (sym at.2.0) at.2.1;
      attendee_count = subst (λ (ps : List Property). length ps ≤ attendee_limit) (sym is.attendees)
          (omega (arith, attendees.few, length-map (lines_of lines name.Attendee) whole_property));
      attendee_values = subst (λ (ps : List Property). AllByRecursion HasValue ps) (sym is.attendees) attendees.values;
      attendee_keys = subst (λ (ps : List Property). IsDistinct same_text (keys_of ps)) (sym is.attendees)
          (subst (λ (ks : List (List ℕ)). IsDistinct same_text ks) (sym (keys_whole (lines_of lines name.Attendee))) attendees.distinct);
      rdates = is.rdates.ascending;
      exdates = is.exdates.ascending;
      others = subst (λ (ls : List Line). IsTrue (list_all is_other ls)) (sym is.others)
          (all_others (lines_of lines name.Others) (all_named lines name.Others));
      lines = contents_lawful lines parts is;
    }

-- the moments of the set, in their order
pub moments_of : (lines : List Line) (set : BTreeSet Moment) (moments : List Moment) → IsSetOf lines set → moments ≡ set.keys →
    IsOrdered moment_cmp set → AreMomentsOf lines moments
moments_of lines set moments is same ordered = record {
  listed = is.listed;
  list = is.list;
  ascending = subst (λ (ms : List Moment). IsStrictlySortedBy moment_cmp ms) (sym same) ordered;
  each = λ m. subst (λ (ms : List Moment). Contains ms m ↔ Contains is.listed m) (sym same) (same_members set is.listed is.each m);
}

-- the draft of lines, which are lawful, is
pub lawful_draft : (lines : List Line) (d : Draft) → IsDraftOf (lines_of lines) d → IsLawfulDraft d
lawful_draft lines d is = λ uid stamp known stamped rdates exdates.
    lawful_parts lines (draft_parts uid stamp d)
    (record {
      uid = subst (λ (v : Option (List ℕ)). IsOptional IsUidOf (first_named name.Uid lines) v) known (is name.Uid);
      stamp = subst (λ (v : Option Stamp). IsOptional IsStampOf (first_named name.DtStamp lines) v) stamped (is name.DtStamp);
      seq = or_nought IsSequenceOf (first_named name.Sequence lines) d.seq (is name.Sequence);
      base = is name.DeskBase;
      rid = (is name.RecurrenceId).0;
      range = (is name.RecurrenceId).1;
      start = is name.DtStart;
      due = is name.Due;
      status = is name.Status;
      percent = is name.PercentComplete;
      priority = is name.Priority;
      summary = is name.Summary;
      organizer = is name.Organizer;
      attendees = (is name.Attendee).whole;
      rule = is name.RRule;
      rdates = moments_of (lines_of lines name.RDate) d.rdates d.rdates.keys (is name.RDate) refl rdates;
      exdates = moments_of (lines_of lines name.ExDate) d.exdates d.exdates.keys (is name.ExDate) refl exdates;
      others = is name.Others;
    })
    (record {
      few = (is name.Attendee).few;
      values = subst (λ (ps : List Property). AllByRecursion HasValue ps) (is name.Attendee).whole (is name.Attendee).values;
      distinct = (is name.Attendee).distinct;
    })

-- a line is there where a value is read, and none where none is
pub is_there : {A : Type 0} (P : Line → A → Type 0) (line : Option Line) (value : A) → IsOptional P line (Some value) → line ≢ None
is_there P None value read = λ e. read
is_there P (Some line) value read = λ e. absurd (cc)

pub is_absent : {A : Type 0} (P : Line → A → Type 0) (line : Option Line) → IsOptional P line None → line ≡ None
is_absent P None read = refl
is_absent P (Some line) read = absurd read

-- a draft with a UID and no DTSTAMP is refused for want of DTSTAMP
pub stampless : (e : TodoError) (draft : Draft) (uid : List ℕ) → draft.uid ≡ Some uid →
    IfRefused e (λ r. (r ≡ missing name.DtStamp) × (draft.stamp ≡ None))
    → IfRefused e (λ r. (lines : List Line) → AreGood [] lines → IsDraftOf (lines_of lines) draft → LacksProperty lines r)
stampless error.NoMemory draft uid there missing = tt
stampless (error.Refused r) draft uid there (same, none) = λ lines good is. inr (
  good,
  is_there IsUidOf (first_named name.Uid lines) uid
      (subst (λ (v : Option (List ℕ)). IsOptional IsUidOf (first_named name.Uid lines) v) there (is name.Uid)),
  is_absent IsStampOf (first_named name.DtStamp lines)
      (subst (λ (v : Option Stamp). IsOptional IsStampOf (first_named name.DtStamp lines) v) none (is name.DtStamp)),
  same,
)
