-- Lines are a to-do, or they are refused.
use Rattle.std.proofs.Common.{◌≡◌, ◌∙◌, sym, ap, refl, ℕ, ◌<◌, ◌≤◌, Bool, true, false, cond, List, [], ◌∷◌, ◌++◌, length, map, arith, subst}
use Rattle.std.proofs.Common.{inl, inr, ◌⊎◌, Option, Some, None, append-nil, append_assoc, length-append}
use Rattle.std.specs.Prelude.{◌&&◌, nat_le}
use Rattle.std.specs.List.{AllByRecursion, IsDistinct, list_any}
use Rattle.std.proofs.lemmas.Bool.Decides.{leb_tells}
use Rattle.std.proofs.lemmas.Cmp.{nat_list_eq_equiv}
use Rattle.std.proofs.lemmas.List.{map-append}
use Rattle.std.proofs.lemmas.Map.Keys.{IsDistinct-push}
use Rattle.itip_lines.specs.Reading.{plain_lines}
use Rattle.itip_lines.specs.declared.line.Line.{Line}
use Rattle.itip_lines.specs.declared.line.NumberedLine.{NumberedLine}
use Rattle.itip_moment.specs.Order.{moment_cmp}
use Rattle.itip_moment.specs.OrderLaws.{moment_total}
use Rattle.itip_moment.specs.declared.moment.Moment.{Moment}
use Rattle.itip_moment.specs.declared.stamp.Stamp.{Stamp}
use Rattle.itip_moment.proofs.Same.{moment_equal}
use Rattle.itip_todo.specs.Lawful.{HasValue}
use Rattle.itip_todo.specs.Participation.{same_text}
use Rattle.itip_todo.specs.Parts.{Parts}
use Rattle.itip_todo.specs.Reading.{IsGoodAs, IsGood, HasCauseAs, AreGood, FirstRefusal, IsOptional, IsOrNought, IsUidOf, IsStampOf}
use Rattle.itip_todo.specs.Reading.{IsSequenceOf, IsPercentOf, IsPriorityOf, IsMomentOf, IsStatusOf, IsPropertyOf, IsOrganizerOf}
use Rattle.itip_todo.specs.Reading.{ListMoments, AreMomentsOf, ReadsTodo, LacksProperty, RefusesTodo, missing, is_twice, has_bad_range}
use Rattle.itip_todo.specs.Reading.{range_of, is_too_many, is_same_attendee, first_of, first_named, lines_of, whole_property, value_of}
use Rattle.itip_todo.specs.Reading.{key_of}
use Rattle.itip_todo.specs.Table.{property_of, is_same, attendee_limit}
use Rattle.itip_todo.specs.Values.{IsGoodValue, AreMoments}
use Rattle.itip_todo.specs.declared.error.TodoCause.{TodoCause}
use Rattle.itip_todo.specs.declared.error.TodoCause.TheVariants as cause
use Rattle.itip_todo.specs.declared.error.TodoRefusal.{TodoRefusal}
use Rattle.itip_todo.specs.Properties.{Property}
use Rattle.itip_todo.specs.declared.property_name.PropertyName.{PropertyName}
use Rattle.itip_todo.specs.declared.property_name.PropertyName.TheVariants as name
use Rattle.itip_todo.specs.declared.todo.Todo.{Todo}
use Rattle.itip_todo.proofs.Decided.{decide_value}
use Rattle.itip_todo.proofs.Finishing.{AreParts, AreAttendees, lawful_parts, is_there, is_absent}
use Rattle.itip_todo.proofs.GoodLines.{lines_more}
use Rattle.itip_todo.proofs.InOrder.{in_order, in_contained, contained_in}
use Rattle.itip_todo.proofs.Names.{same_is}
use Rattle.itip_todo.proofs.SameTodo.{todo_of}
use Rattle.itip_todo.proofs.Segments.{all_append}

-- ---- a line is good, or something is wrong with it

decide_line : (above : PropertyName → List Line) (p : PropertyName) (line : Line) → IsGoodAs above p line ⊎
    ((f : TodoCause) × HasCauseAs above p line f)
decide_line above p line =
    elim (is_twice above p) as (λ b. is_twice above p ≡ b → IsGoodAs above p line ⊎ ((f : TodoCause) × HasCauseAs above p line f)) [
      | true ↦ λ e. inr (cause.Twice p, (refl, e))
      | false ↦ λ once. elim (has_bad_range p line) as (λ b. has_bad_range p line ≡ b → IsGoodAs above p line ⊎
          ((f : TodoCause) × HasCauseAs above p line f)) [
            | true ↦ λ e. inr (cause.Range, (once, e))
            | false ↦ λ range. elim (decide_value p line) [
              | inr bad ↦ inr (cause.BadValue p, (refl, once, range, bad))
              | inl value ↦ elim (is_too_many above p) as (λ b. is_too_many above p ≡ b → IsGoodAs above p line ⊎
                  ((f : TodoCause) × HasCauseAs above p line f)) [
                    | true ↦ λ e. inr (cause.TooMany, (once, range, value, e))
                    | false ↦ λ few. elim (is_same_attendee above p line) as (λ b. is_same_attendee above p line ≡ b →
                        IsGoodAs above p line ⊎
                        ((f : TodoCause) × HasCauseAs above p line f)) [
                          | true ↦ λ e. inr (cause.SameAttendee, (once, range, value, few, e))
                          | false ↦ λ new. inl (record { once = once; range = range; value = value; few = few; new = new })
                        ] refl
                  ] refl
            ]
          ] refl
    ] refl

decide_lines : (above : List Line) (lines : List NumberedLine) → AreGood above (plain_lines lines) ⊎
    ((r : TodoRefusal) × FirstRefusal above lines r)
decide_lines above [] = inl tt
decide_lines above (l ∷ lines) =
    elim (decide_line (lines_of above) (property_of l.line) l.line) [
      | inr bad ↦ inr (record { cause = bad.0; line = Some l.number }, inl (refl, bad.1))
      | inl good ↦ elim (decide_lines (above ++ l.line ∷ []) lines) [
        | inr bad ↦ inr (bad.0, inr (good, bad.1))
        | inl more ↦ inl (good, more)
      ]
    ]

-- ---- what good lines say

values_good : (above lines : List Line) → AreGood above lines → AllByRecursion (λ (l : Line). IsGoodValue (property_of l) l) lines
values_good above [] h = tt
values_good above (line ∷ lines) h = (h.0.value, values_good (above ++ line ∷ []) lines h.1)

of_property : (p : PropertyName) (lines : List Line) → AllByRecursion (λ (l : Line). IsGoodValue (property_of l) l) lines →
    AllByRecursion (IsGoodValue p) (lines_of lines p)
of_property p [] h = tt
of_property p (line ∷ lines) h =
    elim (is_same (property_of line) p) as (λ b. is_same (property_of line) p ≡ b →
    AllByRecursion (IsGoodValue p) (cond b (line ∷ lines_of lines p) (lines_of lines p))) [
      | true ↦ λ e. (subst (λ (q : PropertyName). IsGoodValue q line) (same_is (property_of line) p e) h.0, of_property p lines h.1)
      | false ↦ λ e. of_property p lines h.1
    ] refl

optional_value : {A : Type 0} (G : Line → Type 0) (P : Line → A → Type 0) → ((l : Line) → G l → (a : A) × P l a) → (lines : List Line) →
    AllByRecursion G lines → (v : Option A) × IsOptional P (first_of lines) v
optional_value G P give [] h = (None, tt)
optional_value G P give (line ∷ lines) h = let a = give line h.0 in (Some a.0, a.1)

number_or_nought : (lines : List Line) → AllByRecursion (IsGoodValue name.Sequence) lines → (n : ℕ) ×
    IsOrNought IsSequenceOf (first_of lines) n
number_or_nought [] h = (0, refl)
number_or_nought (line ∷ lines) h = h.0

listed_moments : (lines : List Line) → AllByRecursion (λ (l : Line). (ms : List Moment) × AreMoments l.params l.value ms) lines →
    (ms : List Moment) × ListMoments lines ms
listed_moments [] h = ([], refl)
listed_moments (line ∷ lines) h = let more = listed_moments lines h.1 in (h.0.0 ++ more.0, (h.0.0, more.0, refl, h.0.1, more.1))

moments_in_order : (lines : List Line) → AllByRecursion (λ (l : Line). (ms : List Moment) × AreMoments l.params l.value ms) lines →
    (ms : List Moment) × AreMomentsOf lines ms
moments_in_order lines h =
    let listed = listed_moments lines h in
    let ordered = in_order moment_cmp moment_total moment_equal listed.0 in (
      ordered.list,
      record {
        listed = listed.0;
        list = listed.1;
        ascending = ordered.ascends;
        each = λ m. (
          λ has. contained_in listed.0 m ((ordered.same m).0 (in_contained ordered.list m has)),
          λ has. contained_in ordered.list m ((ordered.same m).1 (in_contained listed.0 m has)),
        );
      },
    )

-- ATTENDEE lines
one_more : (lines : List Line) (line : Line) → AreAttendees lines → nat_le attendee_limit (length lines) ≡ false →
    list_any (same_text (key_of line)) (map key_of lines) ≡ false → 0 < length line.value → AreAttendees (lines ++ line ∷ [])
one_more lines line h few new value = record {
  few = room (leb_tells attendee_limit (length lines));
  values = subst (λ (ps : List Property). AllByRecursion HasValue ps) (sym (map-append whole_property lines (line ∷ [])))
      (all_append HasValue (map whole_property lines) (whole_property line ∷ []) h.values (value, tt));
  distinct = subst (λ (ks : List (List ℕ)). IsDistinct same_text ks) (sym (map-append key_of lines (line ∷ [])))
      (IsDistinct-push nat_list_eq_equiv (map key_of lines) (key_of line) h.distinct new);
}
  where
    room : ((nat_le attendee_limit (length lines) ≡ true) × (attendee_limit ≤ length lines)) ⊎
        ((nat_le attendee_limit (length lines) ≡ false) × (length lines < attendee_limit)) → length (lines ++ line ∷ []) ≤ attendee_limit
    room (inl k) = absurd (let two : true ≡ false = sym k.0 ∙ few in cc)
    room (inr k) = omega (arith, k.1, length-append lines (line ∷ []))

attendees_more : (above : List Line) (line : Line) → AreAttendees (lines_of above name.Attendee) → IsGood above line →
    AreAttendees (lines_of (above ++ line ∷ []) name.Attendee)
attendees_more above line h good =
    subst AreAttendees (lines_more above line name.Attendee)
    (elim (is_same (property_of line) name.Attendee) as (λ b. is_same (property_of line) name.Attendee ≡ b →
    AreAttendees (cond b (lines_of above name.Attendee ++ line ∷ []) (lines_of above name.Attendee))) [
      | true ↦ λ e.
          one_more (lines_of above name.Attendee) line h
          (ap (λ (b : Bool). b && nat_le attendee_limit (length (lines_of above name.Attendee))) (sym e) ∙ good.few)
          (ap (λ (b : Bool). b && list_any (same_text (key_of line)) (map key_of (lines_of above name.Attendee))) (sym e) ∙ good.new)
          (subst (λ (p : PropertyName). IsGoodValue p line) (same_is (property_of line) name.Attendee e) good.value)
      | false ↦ λ e. h
    ] refl)

attendees_of : (above lines : List Line) → AreAttendees (lines_of above name.Attendee) → AreGood above lines →
    AreAttendees (lines_of (above ++ lines) name.Attendee)
attendees_of above [] h good = subst (λ (ls : List Line). AreAttendees (lines_of ls name.Attendee)) (sym (append-nil above)) h
attendees_of above (line ∷ lines) h good =
    subst (λ (ls : List Line). AreAttendees (lines_of ls name.Attendee)) (append_assoc above (line ∷ []) lines)
    (attendees_of (above ++ line ∷ []) lines (attendees_more above line h good.0) good.1)

no_attendees : AreAttendees []
unfolding IsDistinct
no_attendees = record { few = omega arith; values = tt; distinct = tt }

-- ---- the to-do

reads : (lines : List Line) (parts : Parts) → AreGood [] lines → AreParts lines parts → (todo : Todo) × ReadsTodo lines todo
reads lines parts good is = (
  todo_of parts (lawful_parts lines parts is (attendees_of [] lines no_attendees good)),
  record {
    good = good;
    uid = is.uid;
    stamp = is.stamp;
    seq = is.seq;
    base = is.base;
    rid = is.rid;
    range = is.range;
    start = is.start;
    due = is.due;
    status = is.status;
    percent = is.percent;
    priority = is.priority;
    summary = is.summary;
    organizer = is.organizer;
    attendees = is.attendees;
    rule = is.rule;
    rdates = is.rdates;
    exdates = is.exdates;
    others = is.others;
  },
)

module _ (lines : List Line) (good : AreGood [] lines) where
  each : (p : PropertyName) → AllByRecursion (IsGoodValue p) (lines_of lines p)
  each p = of_property p lines (values_good [] lines good)

  moment : (p : PropertyName) → ((l : Line) → IsGoodValue p l → (m : Moment) × IsMomentOf l m) → (v : Option Moment) ×
      IsOptional IsMomentOf (first_named p lines) v
  moment p give = optional_value (IsGoodValue p) IsMomentOf give (lines_of lines p) (each p)

  whole_parts : (uid : List ℕ) (stamp : Stamp) → IsOptional IsUidOf (first_named name.Uid lines) (Some uid) →
      IsOptional IsStampOf (first_named name.DtStamp lines) (Some stamp) → (parts : Parts) × AreParts lines parts
  whole_parts uid stamp has_uid has_stamp =
      let seq = number_or_nought (lines_of lines name.Sequence) (each name.Sequence) in
      let base = optional_value (IsGoodValue name.DeskBase) IsSequenceOf (λ l h. h) (lines_of lines name.DeskBase) (each name.DeskBase) in
      let rid = moment name.RecurrenceId (λ l h. h) in
      let start = moment name.DtStart (λ l h. h) in
      let due = moment name.Due (λ l h. h) in
      let status = optional_value (IsGoodValue name.Status) IsStatusOf (λ l h. h) (lines_of lines name.Status) (each name.Status) in
      let percent = optional_value (IsGoodValue name.PercentComplete) IsPercentOf (λ l h. h) (lines_of lines name.PercentComplete)
      (each name.PercentComplete) in
      let priority = optional_value (IsGoodValue name.Priority) IsPriorityOf (λ l h. h) (lines_of lines name.Priority) (each name.Priority)
      in
      let summary = optional_value (IsGoodValue name.Summary) IsPropertyOf (λ l h. (whole_property l, refl)) (lines_of lines name.Summary)
      (each name.Summary) in
      let organizer = optional_value (IsGoodValue name.Organizer) IsOrganizerOf (λ l h. (whole_property l, (refl, h)))
      (lines_of lines name.Organizer) (each name.Organizer) in
      let rdates = moments_in_order (lines_of lines name.RDate) (each name.RDate) in
      let exdates = moments_in_order (lines_of lines name.ExDate) (each name.ExDate) in (
        record {
          uid = uid;
          stamp = stamp;
          seq = seq.0;
          base = base.0;
          rid = rid.0;
          range = range_of (first_named name.RecurrenceId lines);
          start = start.0;
          due = due.0;
          status = status.0;
          percent = percent.0;
          priority = priority.0;
          summary = summary.0;
          organizer = organizer.0;
          attendees = map whole_property (lines_of lines name.Attendee);
          rule = map value_of (lines_of lines name.RRule);
          rdates = rdates.0;
          exdates = exdates.0;
          others = lines_of lines name.Others;
        },
        record {
          uid = has_uid;
          stamp = has_stamp;
          seq = seq.1;
          base = base.1;
          rid = rid.1;
          range = refl;
          start = start.1;
          due = due.1;
          status = status.1;
          percent = percent.1;
          priority = priority.1;
          summary = summary.1;
          organizer = organizer.1;
          attendees = refl;
          rule = refl;
          rdates = rdates.1;
          exdates = exdates.1;
          others = refl;
        },
      )

  with_stamp : (uid : List ℕ) → IsOptional IsUidOf (first_named name.Uid lines) (Some uid) → (v : Option Stamp) →
      IsOptional IsStampOf (first_named name.DtStamp lines) v → ((todo : Todo) × ReadsTodo lines todo) ⊎
      ((r : TodoRefusal) × LacksProperty lines r)
  with_stamp uid has_uid None none =
      inr (
        missing name.DtStamp,
        inr (
          good,
          is_there IsUidOf (first_named name.Uid lines) uid has_uid,
          is_absent IsStampOf (first_named name.DtStamp lines) none,
          refl,
        ),
      )
  with_stamp uid has_uid (Some stamp) has_stamp = let parts = whole_parts uid stamp has_uid has_stamp in
      inl (reads lines parts.0 good parts.1)

  with_uid : (v : Option (List ℕ)) → IsOptional IsUidOf (first_named name.Uid lines) v → ((todo : Todo) × ReadsTodo lines todo) ⊎
      ((r : TodoRefusal) × LacksProperty lines r)
  with_uid None none = inr (missing name.Uid, inl (good, is_absent IsUidOf (first_named name.Uid lines) none, refl))
  with_uid (Some uid) has_uid =
      let stamp = optional_value (IsGoodValue name.DtStamp) IsStampOf (λ l h. h) (lines_of lines name.DtStamp) (each name.DtStamp) in
      with_stamp uid has_uid stamp.0 stamp.1

  of_good : ((todo : Todo) × ReadsTodo lines todo) ⊎ ((r : TodoRefusal) × LacksProperty lines r)
  of_good =
      let uid = optional_value (IsGoodValue name.Uid) IsUidOf (λ l h. (l.value, (refl, h))) (lines_of lines name.Uid) (each name.Uid) in
      with_uid uid.0 uid.1

-- lines are read as a to-do, or they are refused
pub some_todo : (lines : List NumberedLine) → ((todo : Todo) × ReadsTodo (plain_lines lines) todo) ⊎
    ((r : TodoRefusal) × RefusesTodo lines r)
some_todo lines =
    elim (decide_lines [] lines) [
      | inr bad ↦ inr (bad.0, inl bad.1)
      | inl good ↦ elim (of_good (plain_lines lines) good) [
        | inl read ↦ inl read
        | inr lacks ↦ inr (lacks.0, inr lacks.1)
      ]
    ]
