-- An answer and a refresh request are read as the to-dos that they were made of.
use Rattle.std.proofs.Common.{◌≡◌, ◌∙◌, ℕ, ◌<◌, ◌≤◌, ◌⊎◌, inl, inr, List, [], ◌∷◌, length, map, refl, sym, ap, subst, arith, Option, Some}
use Rattle.std.proofs.Common.{None, false}
use Rattle.std.specs.Prelude.{IsTrue, codes}
use Rattle.std.specs.Fmt.{decimal}
use Rattle.std.specs.Str.{IsUtf8}
use Rattle.std.specs.List.{AllByRecursion, Contains, IsDistinct, list_all}
use Rattle.std.specs.List.Sorted.{IsStrictlySortedBy}
use Rattle.itip_lines.specs.Octets.{is_value_octet}
use Rattle.itip_moment.specs.Order.{moment_cmp}
use Rattle.itip_moment.specs.Written.{stamp_text}
use Rattle.itip_moment.specs.declared.moment.Moment.{Moment}
use Rattle.itip_moment.specs.declared.stamp.Stamp.{Stamp}
use Rattle.itip_todo.specs.Lawful.{HasValue, IsLawful, IsLawfulContent}
use Rattle.itip_todo.specs.Participation.{same_text}
use Rattle.itip_todo.specs.Parts.{Parts}
use Rattle.itip_todo.specs.PartsOf.{parts_of}
use Rattle.itip_todo.specs.Table.{attendee_key, sequence_limit}
use Rattle.itip_todo.specs.Written.{optional, plain, property_line, rid_line}
use Rattle.itip_todo.specs.declared.attendee.PartStat.{PartStat}
use Rattle.itip_todo.specs.Properties.{Property}
use Rattle.itip_todo.specs.declared.property_name.PropertyName.TheVariants as name
use Rattle.itip_todo.proofs.LawfulLines.{number_lawful, stamp_lawful}
use Rattle.itip_todo.proofs.Segments.{all_parts}
use Rattle.itip_items.specs.Given.{AreItemsOf}
use Rattle.itip_items.specs.Items.{drafts}
use Rattle.itip_items.specs.KeyParts.{uid_of}
use Rattle.itip_items.specs.MethodNeeds.{Suits}
use Rattle.itip_items.specs.declared.item.Item.{Item}
use Rattle.itip_items.specs.declared.kind.Kind.{Kind}
use Rattle.itip_items.specs.declared.kind.Kind.TheVariants as kind
use Rattle.itip_items.specs.declared.kind.Method.TheVariants as method
use Rattle.itip_items.proofs.SameItem.{own_is}
use Rattle.itip_items.proofs.Uids.{uid_of_item}
use Rattle.itip_message.specs.Message.{ReadsMessage}
use Rattle.itip_state.proofs.Members.{cons_cases, cons_first, cons_later, none_in}
use Rattle.itip_view.specs.Answers.{Asked, AreShown, in_front, shown_line, unless_removed}
use Rattle.itip_view.specs.InQuestion.{IsInQuestion, ShowsInQuestion, ShowsOccurrence, ShowsRange}
use Rattle.itip_view.specs.Rows.{instance_answers, occurrence_answers, range_answers, series_answers}
use Rattle.itip_view.specs.Standing.{GovernsBetween}
use Rattle.itip_view.specs.declared.row.ShownAttendee.{ShownAttendee}
use Rattle.itip_view.proofs.Asking.{shows_is}
use Rattle.itip_writing.specs.Refreshing.{IsRefreshOf, refresh_line}
use Rattle.itip_writing.specs.Replying.{IsAsked, IsReplyOf, answer_line, no_less, reply_parts}
use Rattle.itip_writing.specs.Sent.{sent_octets}
use Rattle.itip_writing.specs.declared.answer.Answer.{Answer}
use Rattle.itip_writing.proofs.IdLines.{attendees_lawful, organizer_lawful, question_params, rid_spelt}
use Rattle.itip_writing.proofs.Partstats.{partstat_param}
use Rattle.itip_writing.proofs.SentRead.{IsAlmost, parts_read}
use Rattle.itip_writing.proofs.Spelt.{AreSpelt, IsSpelt, all_spelt, spelt_of}

-- ---- an attendee who is shown has a line

pub in_front_cases : (first : Option ShownAttendee) (others : List ShownAttendee) (a : ShownAttendee) →
    Contains (in_front first others) a → (first ≡ Some a) ⊎ Contains others a
in_front_cases None others a h = inr h
in_front_cases (Some b) others a h = elim (cons_cases b others a h) [ inl same ↦ inl (ap Some same) | inr rest ↦ inr rest ]

abbrev address_of : Option ShownAttendee → List ℕ
address_of None = []
address_of (Some attendee) = attendee.address

kept_address : (k : Kind) (b a : ShownAttendee) → unless_removed k b ≡ Some a → b.address ≡ a.address
kept_address kind.Remove b a e = absurd cc
kept_address kind.Reply b a e = ap address_of e
kept_address kind.Request b a e = ap address_of e
kept_address kind.Add b a e = ap address_of e
kept_address kind.Cancel b a e = ap address_of e
kept_address kind.Refresh b a e = ap address_of e

pub shown_address : (line : Property) (answer : Option Item) (a : ShownAttendee) → shown_line line answer ≡ Some a → line.value ≡ a.address
shown_address line None a e = ap address_of e
shown_address line (Some answer) a e = kept_address answer.kind _ a e

pub record HasLine (lines : List Property) (address : List ℕ) : Type 0 where
  pub line : Property
  pub there : Contains lines line
  pub value_is : line.value ≡ address

line_shown : (heard : List Item) (asked_of : Property → List Asked) (lines : List Property) (shown : List ShownAttendee) →
    AreShown heard asked_of lines shown → (a : ShownAttendee) → Contains shown a → HasLine lines a.address
line_shown heard asked_of [] shown is a h = absurd (none_in a (subst (λ (s : List ShownAttendee). Contains s a) is h))
line_shown heard asked_of (line ∷ lines) shown (answer, others, decides, rest, is) a h =
    elim (in_front_cases (shown_line line answer) others a (subst (λ (s : List ShownAttendee). Contains s a) is h)) [
      | inl first ↦ record { line = line; there = cons_first line lines; value_is = shown_address line answer a first }
      | inr later ↦
          let found = line_shown heard asked_of lines others rest a later in
          record { line = found.line; there = cons_later line lines found.line found.there; value_is = found.value_is }
    ]

pub line_in_question : (heard : List Item) (uid : List ℕ) (id : Option Moment) (item : Item) (shown : List ShownAttendee) →
    ShowsInQuestion heard uid id item shown → (a : ShownAttendee) → Contains shown a → HasLine item.todo.attendees a.address
line_in_question heard uid None item shown p =
    line_shown heard (series_answers uid item) item.todo.attendees shown p.attendees
line_in_question heard uid (Some at) item shown (inl p) =
    line_shown heard (instance_answers uid at item) item.todo.attendees shown p.attendees
line_in_question heard uid (Some at) item shown (inr p) = by p.shows
  where
    by : ShowsRange heard uid at item shown ⊎ ShowsOccurrence heard uid at item shown → (a : ShownAttendee) → Contains shown a →
        HasLine item.todo.attendees a.address
    by (inl range) = line_shown heard (range_answers uid at item range.whole) item.todo.attendees shown range.attendees
    by (inr series) = line_shown heard (occurrence_answers uid at item) item.todo.attendees shown series.attendees

-- ---- what holds of each element

all_at : {A : Type 0} (P : A → Type 0) (xs : List A) (x : A) → AllByRecursion P xs → Contains xs x → P x
all_at P [] x h there = absurd (none_in x there)
all_at P (y ∷ xs) x h there =
    elim (cons_cases y xs x there) [ inl same ↦ subst P same h.0 | inr later ↦ all_at P xs x h.1 later ]

mapped_at : {A B : Type 0} (P : B → Type 0) (f : A → B) (xs : List A) (x : A) → AllByRecursion P (map f xs) → Contains xs x → P (f x)
mapped_at P f [] x h there = absurd (none_in x there)
mapped_at P f (y ∷ xs) x h there =
    elim (cons_cases y xs x there) [ inl same ↦ subst (λ z. P (f z)) same h.0 | inr later ↦ mapped_at P f xs x h.1 later ]

-- ---- the address, and the ATTENDEE line

-- a text that can be the value of ATTENDEE
record IsAddress (address : List ℕ) : Type 0 where
  some : 0 < length address
  octets : IsTrue (list_all is_value_octet address)
  utf8 : IsUtf8 address

address_read : (item : Item) (address : List ℕ) → HasLine item.todo.attendees address → IsAddress address
address_read item address has =
    let lawful : IsLawful (parts_of item.todo) = item.todo.lawful in
    let line : IsLawfulContent (property_line name.Attendee has.line) =
    mapped_at IsLawfulContent (property_line name.Attendee) item.todo.attendees has.line (attendees_lawful (parts_of item.todo) lawful)
    has.there in
    let some : HasValue has.line = all_at HasValue item.todo.attendees has.line lawful.attendee_values has.there in
    subst IsAddress has.value_is (record { some = some; octets = line.octets; utf8 = line.utf8 })

asked_address : (heard : List Item) (uid : List ℕ) (id : Option Moment) (address : List ℕ) (item : Item) (named : List ℕ) →
    IsAsked heard uid id address item named → IsAddress named
asked_address heard uid id address item named is =
    subst IsAddress (sym is.named_is)
    (address_read item is.attendee.address (line_in_question heard uid id item is.shown is.shows is.attendee is.there))

-- an ATTENDEE line that can be written
record IsLine (line : Property) : Type 0 where
  value : HasValue line
  spelt : IsSpelt (property_line name.Attendee line)

answer_written : (address : List ℕ) (status : PartStat) → IsAddress address → IsLine (answer_line address status)
answer_written address status h = record {
  value = h.some;
  spelt = record {
    named = record { some = omega arith; upper = refl };
    each_param = (partstat_param status, tt);
    octets = h.octets;
    utf8 = h.utf8;
  };
}

refresh_written : (address : List ℕ) → IsAddress address → IsLine (refresh_line address)
refresh_written address h = record {
  value = h.some;
  spelt = record { named = record { some = omega arith; upper = refl }; each_param = tt; octets = h.octets; utf8 = h.utf8 };
}

-- ---- the item that governs

question_uid : (heard : List Item) (uid : List ℕ) (id : Option Moment) (item : Item) → IsInQuestion heard uid id item → item.todo.uid ≡ uid
question_uid heard uid None item is = sym (uid_of_item item) ∙ ap uid_of is.best.about
question_uid heard uid (Some at) item (inl live) = sym (uid_of_item item) ∙ ap uid_of live.stands.best.about
question_uid heard uid (Some at) item (inr between) = by between.governs
  where
    by : GovernsBetween heard uid at item → item.todo.uid ≡ uid
    by (inl range) = sym (uid_of_item item) ∙ ap uid_of range.rules.stands.best.about
    by (inr (none, series)) = sym (uid_of_item item) ∙ ap uid_of series.best.about

id_spelt : (heard : List Item) (uid : List ℕ) (id : Option Moment) (item : Item) → IsInQuestion heard uid id item →
    AreSpelt (optional (rid_line false) id)
id_spelt heard uid None item is = tt
id_spelt heard uid (Some at) item is = (rid_spelt false at (question_params heard uid at item is), tt)

-- ---- the to-do

percent_spelt : (percent : Option ℕ) → ((n : ℕ) → percent ≡ Some n → n ≤ 100) →
    AreSpelt (optional (λ n. plain name.PercentComplete (decimal n)) percent)
percent_spelt None small = tt
percent_spelt (Some n) small =
    let few : n ≤ 100 = small n refl in (
      spelt_of (plain name.PercentComplete (decimal n))
          (number_lawful (codes "PERCENT-COMPLETE") (record { some = omega arith; upper = refl }) (omega arith) n (omega (arith, few))),
      tt,
    )

one_distinct : (k : List ℕ) → IsDistinct same_text (k ∷ [])
unfolding IsDistinct
one_distinct k = (tt, tt)

none_sorted : IsStrictlySortedBy moment_cmp []
unfolding IsStrictlySortedBy
none_sorted = tt

own_small : (item : Item) → item.own ≤ sequence_limit
own_small item =
    let lawful : IsLawful (parts_of item.todo) = item.todo.lawful in
    subst (λ (n : ℕ). n ≤ sequence_limit) (sym (own_is item)) lawful.seq

sequence_small : (own : ℕ) (answer : Option Item) → own ≤ sequence_limit → no_less own answer ≤ sequence_limit
sequence_small own None h = h
sequence_small own (Some answer) h = let other = own_small answer in omega (arith, h, other)

module _ (heard : List Item) (uid : List ℕ) (id : Option Moment) (item : Item) (governs : IsInQuestion heard uid id item) (stamp : Stamp)
    (n : ℕ) (few : n ≤ sequence_limit) (percent : Option ℕ) (small : (m : ℕ) → percent ≡ Some m → m ≤ 100) (line : Property)
    (is : IsLine line) where
  brief_almost : IsAlmost (reply_parts uid id stamp n percent item.todo.organizer line)
  brief_almost =
      let h : IsLawful (parts_of item.todo) = item.todo.lawful in
      let of : item.todo.uid ≡ uid = question_uid heard uid id item governs in
      let p : Parts = reply_parts uid id stamp n percent item.todo.organizer line in record {
        uid = subst (λ (u : List ℕ). 0 < length u) of h.uid;
        seq = few;
        base = λ m e. absurd cc;
        range = λ on. absurd cc;
        percent = small;
        priority = λ m e. absurd cc;
        organizer = h.organizer;
        attendee_count = omega arith;
        attendee_values = (is.value, tt);
        attendee_keys = one_distinct (attendee_key line.value);
        rdates = none_sorted;
        exdates = none_sorted;
        others = refl;
        spelt = all_parts IsSpelt p (record {
          head = (
            subst (λ (u : List ℕ). IsSpelt (plain name.Uid u)) of (spelt_of (plain name.Uid item.todo.uid) h.lines.0),
            (
              spelt_of (plain name.DtStamp (stamp_text stamp)) (stamp_lawful stamp),
              (
                spelt_of (plain name.Sequence (decimal n))
                    (number_lawful (codes "SEQUENCE") (record { some = omega arith; upper = refl }) (omega arith) n few),
                tt,
              ),
            ),
          );
          base = tt;
          rid = id_spelt heard uid id item governs;
          start = tt;
          due = tt;
          status = tt;
          percent = percent_spelt percent small;
          priority = tt;
          summary = tt;
          organizer = all_spelt (optional (property_line name.Organizer) item.todo.organizer) (organizer_lawful (parts_of item.todo) h);
          attendee = (is.spelt, tt);
          rule = tt;
          rdate = tt;
          exdate = tt;
          other = tt;
        });
      }

-- ---- the messages

pub reply_read : (heard : List Item) (uid : List ℕ) (id : Option Moment) (answer : Answer) (at : Stamp) (parts : Parts) →
    IsReplyOf heard uid id answer at parts → ((n : ℕ) → answer.percent ≡ Some n → n ≤ 100) → (items : List Item) →
    ReadsMessage (sent_octets method.Reply (parts ∷ [])) items → AreItemsOf (drafts method.Reply (parts ∷ [])) items
reply_read heard uid id answer at parts is small items reads =
    let address : IsAddress is.named = asked_address heard uid id answer.attendee.now is.item is.named is.asked in
    let line : Property = answer_line is.named answer.status in
    let few : is.sequence ≤ sequence_limit = subst (λ (n : ℕ). n ≤ sequence_limit) (sym is.revision.sequence_is.sequence_is)
    (sequence_small is.item.own is.revision.sequence_is.answer (own_small is.item)) in
    let almost : IsAlmost (reply_parts uid id is.stamp is.sequence answer.percent is.item.todo.organizer line) =
    brief_almost heard uid id is.item (shows_is heard uid id is.item is.asked.shown is.asked.shows) is.stamp is.sequence few answer.percent
    small line (answer_written is.named answer.status address) in
    let suits : Suits method.Reply (reply_parts uid id is.stamp is.sequence answer.percent is.item.todo.organizer line) =
    record { fits = refl; others = refl } in
    parts_read method.Reply (parts ∷ []) items (subst IsAlmost (sym is.parts_are) almost, tt)
    (subst (Suits method.Reply) (sym is.parts_are) suits, tt) (λ same. absurd cc) reads

none_small : (n : ℕ) → None ≡ Some n → n ≤ 100
none_small n e = absurd cc

pub refresh_read : (heard : List Item) (uid : List ℕ) (id : Option Moment) (address : List ℕ) (at : Stamp) (parts : Parts) →
    IsRefreshOf heard uid id address at parts → (items : List Item) → ReadsMessage (sent_octets method.Refresh (parts ∷ [])) items →
    AreItemsOf (drafts method.Refresh (parts ∷ [])) items
refresh_read heard uid id address at parts is items reads =
    let named : IsAddress is.named = asked_address heard uid id address is.item is.named is.asked in
    let line : Property = refresh_line is.named in
    let almost : IsAlmost (reply_parts uid id is.stamp 0 None is.item.todo.organizer line) =
    brief_almost heard uid id is.item (shows_is heard uid id is.item is.asked.shown is.asked.shows) is.stamp 0 (omega arith) None none_small
    line (refresh_written is.named named) in
    let suits : Suits method.Refresh (reply_parts uid id is.stamp 0 None is.item.todo.organizer line) =
    record { fits = refl; others = refl } in
    parts_read method.Refresh (parts ∷ []) items (subst IsAlmost (sym is.parts_are) almost, tt)
    (subst (Suits method.Refresh) (sym is.parts_are) suits, tt)
    (λ same. (ap (λ (p : Parts). p.seq) is.parts_are, tt)) reads
