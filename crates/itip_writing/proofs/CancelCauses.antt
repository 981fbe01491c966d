-- Why nothing is cancelled and no attendee is removed, and that what has the next sequence has its own moment as DTSTAMP.
use Rattle.std.proofs.Common.{◌≡◌, ℕ, ◌<◌, List, [], ◌∷◌, refl, subst, inl, inr, arith, Bool, true, false, Option, Some, None}
use Rattle.std.specs.List.{Contains}
use Rattle.itip_moment.specs.declared.moment.Moment.{Moment}
use Rattle.itip_moment.specs.declared.stamp.Stamp.{Stamp}
use Rattle.itip_todo.specs.Parts.{Parts}
use Rattle.itip_items.specs.declared.item.Item.{Item}
use Rattle.itip_items.specs.declared.key.Key.{Key}
use Rattle.itip_state.proofs.Members.{none_in, cons_cases}
use Rattle.itip_view.specs.InQuestion.{IsInQuestion, NoneInQuestion}
use Rattle.itip_report.specs.NextSequence.{IsNext}
use Rattle.itip_writing.specs.Cancelling.{AreEndings, CannotCancel, CannotCancelOnward, IsCancelOf, IsOnwardOf, IsUnread, cancelled}
use Rattle.itip_writing.specs.Cancelling.{cancelled_key, ended_keys, notice}
use Rattle.itip_writing.specs.Causes.{IfCause, IfLate, IfNothing, IfOvertaken, IfUnread}
use Rattle.itip_writing.specs.Removing.{CannotRemove, IsGreater, IsNobody, IsOvertaken, IsRemovable, IsRemoval, IsRemovalOf, lines_of}
use Rattle.itip_writing.specs.Removing.{removed_keys}
use Rattle.itip_writing.specs.Stamping.{IsEqualRevision, IsLatestOf, IsSpentBehind, IsStampAfter, IsStampBehind}
use Rattle.itip_writing.specs.declared.error.WritingError.{WritingError}
use Rattle.itip_writing.specs.declared.error.WritingError.TheVariants as error
use Rattle.itip_writing.proofs.CancelAlike.{cancelled_of_uid, ended_of_uid}
use Rattle.itip_writing.proofs.Latest.{spent_of_latest, stamp_of_latest}
use Rattle.itip_writing.proofs.RequestStands.{IsTask, task_below}
use Rattle.itip_writing.proofs.UidAlike.{AreOfUid}

-- ---- no kept item of a to-do, an instance or a range has the next sequence

abbrev AreTasks : List Key → Type 0
AreTasks keys = (k : Key) → Contains keys k → IsTask k

in_time : (heard : List Item) (uid : List ℕ) (n : ℕ) → IsNext heard uid (Some n) → (keys : List Key) → AreTasks keys → AreOfUid uid keys →
    (at : Stamp) → IsStampAfter (IsEqualRevision heard keys n) at at
in_time heard uid n next keys tasks of at = inl (record {
  stamp_is = refl;
  later = λ other is.
      let low : is.item.eff < n =
      task_below heard uid n next is.item is.kept.best.is_heard (tasks is.item.key is.about) (of is.item.key is.about) in
      let same : is.item.eff ≡ n = is.same in
      absurd (omega (arith, low, same));
})

cancelled_task : (uid : List ℕ) (id : Option Moment) (range : Bool) → IsTask (cancelled_key uid id range)
cancelled_task uid None range = tt
cancelled_task uid (Some id) true = tt
cancelled_task uid (Some id) false = tt

one_task : (uid : List ℕ) (id : Option Moment) → AreTasks (cancelled_key uid id false ∷ [])
one_task uid id k h = elim (cons_cases (cancelled_key uid id false) [] k h) [
  | inl same ↦ subst IsTask same (cancelled_task uid id false)
  | inr none ↦ absurd (none_in k none)
]

ended_tasks : (uid : List ℕ) (all : List Parts) → AreTasks (ended_keys uid all)
ended_tasks uid [] k h = absurd (none_in k h)
ended_tasks uid (p ∷ all) k h = elim (cons_cases (cancelled_key uid p.rid p.range) (ended_keys uid all) k h) [
  | inl same ↦ subst IsTask same (cancelled_task uid p.rid p.range)
  | inr rest ↦ ended_tasks uid all k rest
]

-- ---- the to-do as a whole, or an instance

module _ (heard : List Item) (uid : List ℕ) (id : Option Moment) (at : Stamp) where
  pub cancel_of : (item : Item) → IsInQuestion heard uid id item → (n : ℕ) → IsNext heard uid (Some n) → (parts : Parts) →
      parts ≡ cancelled uid item id false n at → IsCancelOf heard uid id at parts
  cancel_of item governs n next parts is = record {
    item = item;
    governs = governs;
    sequence = n;
    next = next;
    stamp = at;
    stamped = in_time heard uid n next (cancelled_key uid id false ∷ []) (one_task uid id) (cancelled_of_uid uid id) at;
    parts_are = is;
  }

  pub none_cancelled : (e : WritingError) → IfNothing (NoneInQuestion heard uid id) e → CannotCancel heard uid id at e
  none_cancelled error.NothingStands h = h
  none_cancelled error.NoSuchAttendee h = h
  none_cancelled error.NoSequenceLeft h = absurd h
  none_cancelled error.AnswerOvertakes h = h
  none_cancelled error.TwoOfOneKey h = h
  none_cancelled error.NoTimeLeft h = h
  none_cancelled (error.Unreadable refusal) h = absurd h
  none_cancelled error.NoMemory h = h

  pub unread_cancelled : (parts : Parts) → IsCancelOf heard uid id at parts → (e : WritingError) → IfUnread (IsUnread (parts ∷ [])) e →
      CannotCancel heard uid id at e
  unread_cancelled parts is error.NothingStands h = absurd h
  unread_cancelled parts is error.NoSuchAttendee h = h
  unread_cancelled parts is error.NoSequenceLeft h = absurd h
  unread_cancelled parts is error.AnswerOvertakes h = h
  unread_cancelled parts is error.TwoOfOneKey h = h
  unread_cancelled parts is error.NoTimeLeft h = h
  unread_cancelled parts is (error.Unreadable refusal) h = record { parts = parts; cancels = is; unread = h }
  unread_cancelled parts is error.NoMemory h = h

-- ---- an instance and all after it

module _ (heard : List Item) (uid : List ℕ) (from : Moment) (at : Stamp) where
  pub onward_of : (item : Item) → IsInQuestion heard uid (Some from) item → (n : ℕ) → IsNext heard uid (Some n) → (all : List Parts) →
      AreEndings heard uid from n at all → IsOnwardOf heard uid from at all
  onward_of item governs n next all are = record {
    there = record { item = item; governs = governs };
    sequence = n;
    next = next;
    stamp = at;
    stamped = in_time heard uid n next (ended_keys uid all) (ended_tasks uid all) (ended_of_uid uid all) at;
    are = are;
  }

  pub none_onward : (e : WritingError) → IfNothing (NoneInQuestion heard uid (Some from)) e → CannotCancelOnward heard uid from at e
  none_onward error.NothingStands h = h
  none_onward error.NoSuchAttendee h = h
  none_onward error.NoSequenceLeft h = absurd h
  none_onward error.AnswerOvertakes h = h
  none_onward error.TwoOfOneKey h = h
  none_onward error.NoTimeLeft h = h
  none_onward (error.Unreadable refusal) h = absurd h
  none_onward error.NoMemory h = h

  pub unread_onward : (all : List Parts) → IsOnwardOf heard uid from at all → (e : WritingError) → IfUnread (IsUnread all) e →
      CannotCancelOnward heard uid from at e
  unread_onward all is error.NothingStands h = absurd h
  unread_onward all is error.NoSuchAttendee h = h
  unread_onward all is error.NoSequenceLeft h = absurd h
  unread_onward all is error.AnswerOvertakes h = h
  unread_onward all is error.TwoOfOneKey h = h
  unread_onward all is error.NoTimeLeft h = h
  unread_onward all is (error.Unreadable refusal) h = record { all = all; cancels = is; unread = h }
  unread_onward all is error.NoMemory h = h

-- ---- attendees are removed

pub if_overtaken : (heard : List Item) (keys : List Key) (n : ℕ) (answer : Option Item) →
    (IsGreater n answer → IsOvertaken heard keys n) → (e : WritingError) → IfOvertaken (IsGreater n answer) e →
    IfOvertaken (IsOvertaken heard keys n) e
if_overtaken heard keys n answer over error.NothingStands h = h
if_overtaken heard keys n answer over error.NoSuchAttendee h = h
if_overtaken heard keys n answer over error.NoSequenceLeft h = h
if_overtaken heard keys n answer over error.AnswerOvertakes h = over h
if_overtaken heard keys n answer over error.TwoOfOneKey h = h
if_overtaken heard keys n answer over error.NoTimeLeft h = h
if_overtaken heard keys n answer over (error.Unreadable refusal) h = h
if_overtaken heard keys n answer over error.NoMemory h = h

module _ (heard : List Item) (uid : List ℕ) (id : Option Moment) (addresses : List (List ℕ)) where
  pub none_removable : (e : WritingError) → IfNothing (NoneInQuestion heard uid id) e →
      IfCause (NoneInQuestion heard uid id) (IsNobody heard uid id addresses) ⊥ ⊥ ⊥ ⊥ (λ _. ⊥) e
  none_removable error.NothingStands h = h
  none_removable error.NoSuchAttendee h = absurd h
  none_removable error.NoSequenceLeft h = h
  none_removable error.AnswerOvertakes h = h
  none_removable error.TwoOfOneKey h = h
  none_removable error.NoTimeLeft h = h
  none_removable (error.Unreadable refusal) h = h
  none_removable error.NoMemory h = h

module _ (heard : List Item) (uid : List ℕ) (id : Option Moment) (addresses : List (List ℕ)) (at : Stamp) where
  pub not_removable : (e : WritingError) →
      IfCause (NoneInQuestion heard uid id) (IsNobody heard uid id addresses) ⊥ ⊥ ⊥ ⊥ (λ _. ⊥) e → CannotRemove heard uid id addresses at e
  not_removable error.NothingStands h = h
  not_removable error.NoSuchAttendee h = h
  not_removable error.NoSequenceLeft h = absurd h
  not_removable error.AnswerOvertakes h = absurd h
  not_removable error.TwoOfOneKey h = h
  not_removable error.NoTimeLeft h = absurd h
  not_removable (error.Unreadable refusal) h = absurd h
  not_removable error.NoMemory h = h

  module _ (item : Item) (n : ℕ) (removable : IsRemovable heard uid id addresses item) (next : IsNext heard uid (Some n)) where
    abbrev keys : List Key
    keys = removed_keys uid id (lines_of addresses item.todo.attendees)

    pub removal_is : IsRemoval heard uid id addresses item n keys
    removal_is = record { removable = removable; next = next; keys_are = refl }

    pub removal_of : ¬ IsOvertaken heard keys n → (latest : Option Stamp) → IsLatestOf (IsEqualRevision heard keys n) latest →
        (stamp : Stamp) → IsStampBehind latest at stamp → (parts : Parts) →
        parts ≡ notice uid item id false None (lines_of addresses item.todo.attendees) n stamp →
        IsRemovalOf heard uid id addresses at parts
    removal_of first latest is stamp behind parts parts_are = record {
      item = item;
      sequence = n;
      keys = keys;
      removes = removal_is;
      first = first;
      stamp = stamp;
      stamped = stamp_of_latest (IsEqualRevision heard keys n) at latest stamp is behind;
      parts_are = parts_are;
    }

    pub overtaken_cause : (e : WritingError) → IfOvertaken (IsOvertaken heard keys n) e → CannotRemove heard uid id addresses at e
    overtaken_cause error.NothingStands h = absurd h
    overtaken_cause error.NoSuchAttendee h = absurd h
    overtaken_cause error.NoSequenceLeft h = absurd h
    overtaken_cause error.AnswerOvertakes h = record { item = item; sequence = n; keys = keys; removes = removal_is; overtaken = h }
    overtaken_cause error.TwoOfOneKey h = h
    overtaken_cause error.NoTimeLeft h = absurd h
    overtaken_cause (error.Unreadable refusal) h = absurd h
    overtaken_cause error.NoMemory h = h

    pub late_cause : ¬ IsOvertaken heard keys n → (latest : Option Stamp) → IsLatestOf (IsEqualRevision heard keys n) latest →
        (e : WritingError) → IfLate (IsSpentBehind latest at) e → CannotRemove heard uid id addresses at e
    late_cause first latest is error.NothingStands h = absurd h
    late_cause first latest is error.NoSuchAttendee h = absurd h
    late_cause first latest is error.NoSequenceLeft h = absurd h
    late_cause first latest is error.AnswerOvertakes h = absurd h
    late_cause first latest is error.TwoOfOneKey h = h
    late_cause first latest is error.NoTimeLeft h = record {
      item = item;
      sequence = n;
      keys = keys;
      removes = removal_is;
      first = first;
      late = spent_of_latest (IsEqualRevision heard keys n) at latest is h;
    }
    late_cause first latest is (error.Unreadable refusal) h = absurd h
    late_cause first latest is error.NoMemory h = h

  pub unread_removed : (parts : Parts) → IsRemovalOf heard uid id addresses at parts → (e : WritingError) →
      IfUnread (IsUnread (parts ∷ [])) e → CannotRemove heard uid id addresses at e
  unread_removed parts is error.NothingStands h = absurd h
  unread_removed parts is error.NoSuchAttendee h = absurd h
  unread_removed parts is error.NoSequenceLeft h = absurd h
  unread_removed parts is error.AnswerOvertakes h = absurd h
  unread_removed parts is error.TwoOfOneKey h = h
  unread_removed parts is error.NoTimeLeft h = absurd h
  unread_removed parts is (error.Unreadable refusal) h = record { parts = parts; removes = is; unread = h }
  unread_removed parts is error.NoMemory h = h
