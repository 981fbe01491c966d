-- The messages that cancel or remove attendees are read as the to-dos that they were made of.
use Rattle.std.proofs.Common.{◌≡◌, ◌∙◌, ℕ, ◌<◌, ◌≤◌, List, [], ◌∷◌, length, map, refl, sym, ap, subst, arith, inl, inr, Bool, true, false}
use Rattle.std.proofs.Common.{Option, Some, None}
use Rattle.std.specs.Fmt.{decimal}
use Rattle.std.specs.Prelude.{IsTrue, codes, cond, ◌&&◌}
use Rattle.std.specs.List.{AllByRecursion, Contains, IsDistinct, filter}
use Rattle.std.specs.List.Sorted.{IsStrictlySortedBy}
use Rattle.std.specs.Option.{is_some}
use Rattle.std.proofs.lemmas.Option.{same_Some}
use Rattle.itip_moment.specs.Order.{moment_cmp}
use Rattle.itip_moment.specs.Written.{stamp_text}
use Rattle.itip_moment.specs.declared.moment.Moment.{Moment}
use Rattle.itip_moment.specs.declared.stamp.Stamp.{Stamp}
use Rattle.itip_todo.specs.Lawful.{HasValue, IsLawful, keys_of}
use Rattle.itip_todo.specs.Participation.{same_text}
use Rattle.itip_todo.specs.Parts.{Parts}
use Rattle.itip_todo.specs.PartsOf.{parts_of}
use Rattle.itip_todo.specs.StatusText.{status_text}
use Rattle.itip_todo.specs.Table.{attendee_key, attendee_limit}
use Rattle.itip_todo.specs.Written.{optional, plain, property_line, rid_line}
use Rattle.itip_todo.specs.Properties.{Property}
use Rattle.itip_todo.specs.declared.property_name.PropertyName.TheVariants as name
use Rattle.itip_todo.specs.declared.status.Status.{Status}
use Rattle.itip_todo.specs.declared.status.Status.TheVariants as status
use Rattle.itip_todo.specs.declared.todo.Todo.{Todo}
use Rattle.itip_todo.proofs.LawfulLines.{number_lawful, stamp_lawful, status_lawful}
use Rattle.itip_todo.proofs.Segments.{all_parts}
use Rattle.itip_items.specs.Given.{AreItemsOf}
use Rattle.itip_items.specs.Items.{drafts}
use Rattle.itip_items.specs.KeyParts.{instance_of, uid_of}
use Rattle.itip_items.specs.MethodNeeds.{Suits, removes, when}
use Rattle.itip_items.specs.declared.error.MethodCause.TheVariants as cause
use Rattle.itip_items.specs.declared.item.Item.{Item}
use Rattle.itip_items.specs.declared.kind.Method.TheVariants as method
use Rattle.itip_items.proofs.Uids.{uid_of_item}
use Rattle.itip_message.specs.Message.{ReadsMessage}
use Rattle.itip_state.proofs.Members.{cons_first, cons_later}
use Rattle.itip_view.specs.InQuestion.{IsInQuestion}
use Rattle.itip_view.proofs.Asking.{shows_is}
use Rattle.itip_writing.specs.Cancelling.{Ends, IsCancelOf, IsEnding, IsOnwardOf, IsSent, cancelled, notice}
use Rattle.itip_writing.specs.Removing.{IsRemovalOf, is_one_of, lines_of}
use Rattle.itip_writing.proofs.IdLines.{HasParams, attendees_lawful, item_params, organizer_lawful, question_params, question_uid}
use Rattle.itip_writing.proofs.IdLines.{rid_spelt}
use Rattle.itip_writing.proofs.Requested.{next_small}
use Rattle.itip_writing.proofs.SentRead.{IsAlmost, parts_read}
use Rattle.itip_writing.proofs.Spelt.{AreSpelt, IsSpelt, all_spelt, spelt_of}

-- ---- ATTENDEE lines, some of those of an item

record AreTold (told : List Property) : Type 0 where
  count : length told ≤ attendee_limit
  values : AllByRecursion HasValue told
  apart : IsDistinct same_text (keys_of told)
  spelt : AreSpelt (map (property_line name.Attendee) told)

all_told : (item : Item) → AreTold item.todo.attendees
all_told item =
    let todo : Todo = item.todo in
    let h : IsLawful (parts_of todo) = todo.lawful in record {
      count = h.attendee_count;
      values = h.attendee_values;
      apart = h.attendee_keys;
      spelt = all_spelt (map (property_line name.Attendee) todo.attendees) (attendees_lawful (parts_of todo) h);
    }

module _ (chosen : Property → Bool) where
  filter_short : (lines : List Property) → length (filter chosen lines) ≤ length lines
  filter_short [] = omega arith
  filter_short (line ∷ lines) =
      let rest = filter_short lines in
      elim (chosen line) as (λ b. length (cond b (line ∷ filter chosen lines) (filter chosen lines)) ≤ length (line ∷ lines)) [
        | true ↦ omega (arith, rest)
        | false ↦ omega (arith, rest)
      ]

  filter_values : (lines : List Property) → AllByRecursion HasValue lines → AllByRecursion HasValue (filter chosen lines)
  filter_values [] h = tt
  filter_values (line ∷ lines) h =
      elim (chosen line) as (λ b. AllByRecursion HasValue (cond b (line ∷ filter chosen lines) (filter chosen lines))) [
        | true ↦ (h.0, filter_values lines h.1)
        | false ↦ filter_values lines h.1
      ]

  filter_spelt : (lines : List Property) → AreSpelt (map (property_line name.Attendee) lines) →
      AreSpelt (map (property_line name.Attendee) (filter chosen lines))
  filter_spelt [] h = tt
  filter_spelt (line ∷ lines) h =
      elim (chosen line) as
      (λ b. AreSpelt (map (property_line name.Attendee) (cond b (line ∷ filter chosen lines) (filter chosen lines)))) [
        | true ↦ (h.0, filter_spelt lines h.1)
        | false ↦ filter_spelt lines h.1
      ]

  filter_other : (k : List ℕ) (lines : List Property) → AllByRecursion (λ j. same_text k j ≡ false) (keys_of lines) →
      AllByRecursion (λ j. same_text k j ≡ false) (keys_of (filter chosen lines))
  filter_other k [] h = tt
  filter_other k (line ∷ lines) h =
      elim (chosen line) as
      (λ b. AllByRecursion (λ j. same_text k j ≡ false) (keys_of (cond b (line ∷ filter chosen lines) (filter chosen lines)))) [
        | true ↦ (h.0, filter_other k lines h.1)
        | false ↦ filter_other k lines h.1
      ]

  filter_apart : (lines : List Property) → IsDistinct same_text (keys_of lines) → IsDistinct same_text (keys_of (filter chosen lines))
  unfolding IsDistinct
  filter_apart [] h = tt
  filter_apart (line ∷ lines) h =
      elim (chosen line) as (λ b. IsDistinct same_text (keys_of (cond b (line ∷ filter chosen lines) (filter chosen lines)))) [
        | true ↦ (filter_other (attendee_key line.value) lines h.0, filter_apart lines h.1)
        | false ↦ filter_apart lines h.1
      ]

  some_told : (lines : List Property) → AreTold lines → AreTold (filter chosen lines)
  some_told lines h = record {
    count = let few = filter_short lines in let all = h.count in omega (arith, few, all);
    values = filter_values lines h.values;
    apart = filter_apart lines h.apart;
    spelt = filter_spelt lines h.spelt;
  }

-- ---- one to-do

status_spelt : (state : Option Status) → AreSpelt (optional (λ s. plain name.Status (status_text s)) state)
status_spelt None = tt
status_spelt (Some s) = (spelt_of (plain name.Status (status_text s)) (status_lawful s), tt)

ids_spelt : (range : Bool) (id : Option Moment) → ((m : Moment) → id ≡ Some m → HasParams m) → AreSpelt (optional (rid_line range) id)
ids_spelt range None h = tt
ids_spelt range (Some m) h = (rid_spelt range m (h m refl), tt)

none_sorted : IsStrictlySortedBy moment_cmp []
unfolding IsStrictlySortedBy
none_sorted = tt

module _ (uid : List ℕ) (item : Item) (of : item.todo.uid ≡ uid) (id : Option Moment) (range : Bool)
    (params : (m : Moment) → id ≡ Some m → HasParams m) (only : IsTrue range → IsTrue (is_some id)) (state : Option Status)
    (told : List Property) (are : AreTold told) (n : ℕ) (few : n ≤ 2147483647) (stamp : Stamp) where
  notice_almost : IsAlmost (notice uid item id range state told n stamp)
  notice_almost =
      let h : IsLawful (parts_of item.todo) = item.todo.lawful in record {
        uid = subst (λ (u : List ℕ). 0 < length u) of h.uid;
        seq = few;
        base = λ m e. absurd cc;
        range = only;
        percent = λ m e. absurd cc;
        priority = λ m e. absurd cc;
        organizer = h.organizer;
        attendee_count = are.count;
        attendee_values = are.values;
        attendee_keys = are.apart;
        rdates = none_sorted;
        exdates = none_sorted;
        others = refl;
        spelt = all_parts IsSpelt (notice uid item id range state told n stamp) (record {
          head = (
            subst (λ (u : List ℕ). IsSpelt (plain name.Uid u)) of (spelt_of (plain name.Uid item.todo.uid) h.lines.0),
            (
              spelt_of (plain name.DtStamp (stamp_text stamp)) (stamp_lawful stamp),
              (
                spelt_of (plain name.Sequence (decimal n))
                    (number_lawful (codes "SEQUENCE") (record { some = omega arith; upper = refl }) (omega arith) n few),
                tt,
              ),
            ),
          );
          base = tt;
          rid = ids_spelt range id params;
          start = tt;
          due = tt;
          status = status_spelt state;
          percent = tt;
          priority = tt;
          summary = tt;
          organizer = all_spelt (optional (property_line name.Organizer) item.todo.organizer)
              (organizer_lawful (parts_of item.todo) h);
          attendee = are.spelt;
          rule = tt;
          rdate = tt;
          exdate = tt;
          other = tt;
        });
      }

-- if one is named, it can be written in RECURRENCE-ID
named_params : (heard : List Item) (uid : List ℕ) (id : Option Moment) (item : Item) → IsInQuestion heard uid id item → (m : Moment) →
    id ≡ Some m → HasParams m
named_params heard uid None item is m e = absurd cc
named_params heard uid (Some at) item is m e = subst HasParams (same_Some at m e) (question_params heard uid at item is)

no_range : (b : Bool) → when (b && false) cause.Range ≡ None
no_range true = refl
no_range false = refl

-- ---- the to-do as a whole, or an instance

pub cancel_read : (heard : List Item) (uid : List ℕ) (id : Option Moment) (at : Stamp) (parts : Parts) → IsCancelOf heard uid id at parts →
    (octets : List ℕ) → IsSent (parts ∷ []) octets → (items : List Item) → ReadsMessage octets items →
    AreItemsOf (drafts method.Cancel (parts ∷ [])) items
cancel_read heard uid id at parts is octets sent items reads =
    let almost : IsAlmost (cancelled uid is.item id false is.sequence is.stamp) =
    notice_almost uid is.item (question_uid heard uid id is.item is.governs) id false (named_params heard uid id is.item is.governs)
    (λ no. absurd cc) (Some status.Cancelled) is.item.todo.attendees (all_told is.item) is.sequence
    (next_small heard uid is.sequence is.next) is.stamp in
    let suits : Suits method.Cancel (cancelled uid is.item id false is.sequence is.stamp) = record { fits = refl; others = refl } in
    let back : cancelled uid is.item id false is.sequence is.stamp ≡ parts = sym is.parts_are in
    parts_read method.Cancel (parts ∷ []) items (subst IsAlmost back almost, tt) (subst (Suits method.Cancel) back suits, tt)
    (λ same. absurd cc) (subst (λ (text : List ℕ). ReadsMessage text items) sent.octets_are reads)

-- ---- an instance and all after it

module _ (heard : List Item) (uid : List ℕ) (from : Moment) where
  ends_uid : (id : Moment) (range : Bool) (item : Item) → Ends heard uid from id range item → item.todo.uid ≡ uid
  ends_uid id false item ends = sym (uid_of_item item) ∙ ap uid_of ends.live.stands.best.about
  ends_uid id true item (inl (same, governs)) = question_uid heard uid (Some from) item governs
  ends_uid id true item (inr ends) = sym (uid_of_item item) ∙ ap uid_of ends.stands.best.about

  ends_params : (id : Moment) (range : Bool) (item : Item) → Ends heard uid from id range item → HasParams id
  ends_params id false item ends = item_params item id (ap instance_of ends.live.stands.best.about)
  ends_params id true item (inl (same, governs)) = subst HasParams (sym same) (question_params heard uid from item governs)
  ends_params id true item (inr ends) = item_params item id (ap instance_of ends.stands.best.about)

  module _ (n : ℕ) (few : n ≤ 2147483647) (stamp : Stamp) where
    ending_almost : (p : Parts) → IsEnding heard uid from n stamp p → IsAlmost p
    ending_almost p is =
        subst IsAlmost (sym is.parts_are)
        (notice_almost uid is.item (ends_uid is.id is.range is.item is.ends) (Some is.id) is.range
        (λ m e. subst HasParams (same_Some is.id m e) (ends_params is.id is.range is.item is.ends)) (λ yes. refl) (Some status.Cancelled)
        is.item.todo.attendees (all_told is.item) n few stamp)

    ending_suits : (p : Parts) → IsEnding heard uid from n stamp p → Suits method.Cancel p
    ending_suits p is = subst (Suits method.Cancel) (sym is.parts_are) (record { fits = refl; others = refl })

    each_almost : (all : List Parts) → ((p : Parts) → Contains all p → IsEnding heard uid from n stamp p) → AllByRecursion IsAlmost all
    each_almost [] each = tt
    each_almost (p ∷ all) each =
        (ending_almost p (each p (cons_first p all)), each_almost all (λ q there. each q (cons_later p all q there)))

    each_suits : (all : List Parts) → ((p : Parts) → Contains all p → IsEnding heard uid from n stamp p) →
        AllByRecursion (Suits method.Cancel) all
    each_suits [] each = tt
    each_suits (p ∷ all) each =
        (ending_suits p (each p (cons_first p all)), each_suits all (λ q there. each q (cons_later p all q there)))

pub onward_read : (heard : List Item) (uid : List ℕ) (from : Moment) (at : Stamp) (all : List Parts) → IsOnwardOf heard uid from at all →
    (octets : List ℕ) → IsSent all octets → (items : List Item) → ReadsMessage octets items → AreItemsOf (drafts method.Cancel all) items
onward_read heard uid from at all is octets sent items reads =
    let few : is.sequence ≤ 2147483647 = next_small heard uid is.sequence is.next in
    parts_read method.Cancel all items (each_almost heard uid from is.sequence few is.stamp all is.are.each)
    (each_suits heard uid from is.sequence few is.stamp all is.are.each) (λ same. absurd cc)
    (subst (λ (text : List ℕ). ReadsMessage text items) sent.octets_are reads)

-- ---- attendees are removed

pub removal_read : (heard : List Item) (uid : List ℕ) (id : Option Moment) (addresses : List (List ℕ)) (at : Stamp) (parts : Parts) →
    IsRemovalOf heard uid id addresses at parts → (octets : List ℕ) → IsSent (parts ∷ []) octets → (items : List Item) →
    ReadsMessage octets items → AreItemsOf (drafts method.Cancel (parts ∷ [])) items
removal_read heard uid id addresses at parts is octets sent items reads =
    let item : Item = is.item in
    let n : ℕ = is.sequence in
    let told : List Property = lines_of addresses item.todo.attendees in
    let governs : IsInQuestion heard uid id item = shows_is heard uid id item is.removes.removable.shown is.removes.removable.shows in
    let almost : IsAlmost (notice uid item id false None told n is.stamp) =
    notice_almost uid item (question_uid heard uid id item governs) id false (named_params heard uid id item governs) (λ no. absurd cc) None
    told (some_told (is_one_of addresses) item.todo.attendees (all_told item)) n (next_small heard uid n is.removes.next) is.stamp in
    let suits : Suits method.Cancel (notice uid item id false None told n is.stamp) =
    record { fits = no_range (removes (notice uid item id false None told n is.stamp)); others = refl } in
    let back : notice uid item id false None told n is.stamp ≡ parts = sym is.parts_are in
    parts_read method.Cancel (parts ∷ []) items (subst IsAlmost back almost, tt) (subst (Suits method.Cancel) back suits, tt)
    (λ same. absurd cc) (subst (λ (text : List ℕ). ReadsMessage text items) sent.octets_are reads)
