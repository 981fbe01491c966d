-- What cancels or removes attendees is the same for two sets of items that keep the same of the UID.
use Rattle.std.proofs.Common.{◌≡◌, ℕ, List, [], ◌∷◌, refl, sym, subst, inl, inr, Bool, true, false, Option, Some, None}
use Rattle.itip_moment.specs.declared.moment.Moment.{Moment}
use Rattle.itip_moment.specs.declared.stamp.Stamp.{Stamp}
use Rattle.itip_todo.specs.Parts.{Parts}
use Rattle.itip_todo.specs.Properties.{Property}
use Rattle.itip_todo.specs.declared.property_name.PropertyName.{PropertyName}
use Rattle.itip_items.specs.KeyParts.{uid_of}
use Rattle.itip_items.specs.declared.item.Item.{Item}
use Rattle.itip_items.specs.declared.key.Key.{Key}
use Rattle.itip_items.specs.declared.key.Key.TheVariants.{Range}
use Rattle.itip_message.specs.declared.error.MessageRefusal.{MessageRefusal}
use Rattle.itip_state.specs.Kept.{KeepSame}
use Rattle.itip_state.proofs.Members.{none_in, cons_cases}
use Rattle.itip_view.specs.Answers.{answer_key}
use Rattle.itip_writing.specs.Cancelling.{AreEndings, CannotCancel, CannotCancelOnward, Ends, HasRow, IsCancelOf, IsCancelSpent}
use Rattle.itip_writing.specs.Cancelling.{IsCancelUnread, IsCancelling, IsCancellingOnward, IsEnding, IsOnwardLacking, IsOnwardOf}
use Rattle.itip_writing.specs.Cancelling.{IsOnwardUnread, cancelled_key, ended_keys}
use Rattle.itip_writing.specs.Removing.{CannotRemove, IsNobody, IsOvertaken, IsRemovable, IsRemoval, IsRemovalLate, IsRemovalOf}
use Rattle.itip_writing.specs.Removing.{IsRemovalOvertaken, IsRemovalSpent, IsRemovalUnread, IsRemoving, lines_of, removed_keys}
use Rattle.itip_writing.specs.Replying.{IsLacking}
use Rattle.itip_writing.specs.declared.error.WritingError.{WritingError}
use Rattle.itip_writing.specs.declared.error.WritingError.TheVariants as error
use Rattle.itip_writing.proofs.UidAlike.{AreOfUid, equal_spent_there, equal_stamped_there, instance_there, next_there, none_there}
use Rattle.itip_writing.proofs.UidAlike.{question_there, same_back, shows_there, under_there}

-- ---- the keys are of the UID

cancelled_uid : (uid : List ℕ) (id : Option Moment) (range : Bool) → uid_of (cancelled_key uid id range) ≡ uid
cancelled_uid uid None range = refl
cancelled_uid uid (Some id) true = refl
cancelled_uid uid (Some id) false = refl

pub one_of_uid : (uid : List ℕ) (k : Key) → uid_of k ≡ uid → AreOfUid uid (k ∷ [])
one_of_uid uid k of other h = elim (cons_cases k [] other h) [
  | inl same ↦ subst (λ (j : Key). uid_of j ≡ uid) same of
  | inr none ↦ absurd (none_in other none)
]

pub cancelled_of_uid : (uid : List ℕ) (id : Option Moment) → AreOfUid uid (cancelled_key uid id false ∷ [])
cancelled_of_uid uid id = one_of_uid uid (cancelled_key uid id false) (cancelled_uid uid id false)

pub ended_of_uid : (uid : List ℕ) (all : List Parts) → AreOfUid uid (ended_keys uid all)
ended_of_uid uid [] k h = absurd (none_in k h)
ended_of_uid uid (p ∷ all) k h = elim (cons_cases (cancelled_key uid p.rid p.range) (ended_keys uid all) k h) [
  | inl same ↦ subst (λ (j : Key). uid_of j ≡ uid) same (cancelled_uid uid p.rid p.range)
  | inr rest ↦ ended_of_uid uid all k rest
]

pub removed_of_uid : (uid : List ℕ) (id : Option Moment) (lines : List Property) → AreOfUid uid (removed_keys uid id lines)
removed_of_uid uid id [] k h = absurd (none_in k h)
removed_of_uid uid id (line ∷ lines) k h = elim (cons_cases (answer_key uid id line) (removed_keys uid id lines) k h) [
  | inl same ↦ subst (λ (j : Key). uid_of j ≡ uid) same refl
  | inr rest ↦ removed_of_uid uid id lines k rest
]

-- ---- the to-do as a whole, or an instance

module _ (uid : List ℕ) (x y : List Item) (same : KeepSame uid x y) where
  pub row_there : (id : Option Moment) → HasRow x uid id → HasRow y uid id
  row_there id is = record { item = is.item; governs = question_there uid x y same id is.item is.governs }

  pub lacking_there : (id : Option Moment) (lacking : List PropertyName) → IsLacking x uid id lacking → IsLacking y uid id lacking
  lacking_there id lacking is =
      record { item = is.item; governs = question_there uid x y same id is.item is.governs; lacking_is = is.lacking_is }

  spent_sequence : (id : Option Moment) → IsCancelSpent x uid id → IsCancelSpent y uid id
  spent_sequence id is = record { there = row_there id is.there; last = next_there uid x y same None is.last }

  cancel_there : (id : Option Moment) (at : Stamp) (parts : Parts) → IsCancelOf x uid id at parts → IsCancelOf y uid id at parts
  cancel_there id at parts is = record {
    item = is.item;
    governs = question_there uid x y same id is.item is.governs;
    sequence = is.sequence;
    next = next_there uid x y same (Some is.sequence) is.next;
    stamp = is.stamp;
    stamped = equal_stamped_there uid x y same (cancelled_key uid id false ∷ []) (cancelled_of_uid uid id) is.sequence at is.stamp
        is.stamped;
    parts_are = is.parts_are;
  }

  pub cancelling_there : (id : Option Moment) (at : Stamp) (octets : List ℕ) → IsCancelling x uid id at octets →
      IsCancelling y uid id at octets
  cancelling_there id at octets is = record { parts = is.parts; cancels = cancel_there id at is.parts is.cancels; sent = is.sent }

  unread_there : (id : Option Moment) (at : Stamp) (refusal : MessageRefusal) → IsCancelUnread x uid id at refusal →
      IsCancelUnread y uid id at refusal
  unread_there id at refusal is = record { parts = is.parts; cancels = cancel_there id at is.parts is.cancels; unread = is.unread }

  pub cannot_cancel_there : (id : Option Moment) (at : Stamp) (e : WritingError) → CannotCancel x uid id at e → CannotCancel y uid id at e
  cannot_cancel_there id at error.NothingStands h = none_there uid x y same id h
  cannot_cancel_there id at error.NoSuchAttendee h = h
  cannot_cancel_there id at error.NoSequenceLeft h = spent_sequence id h
  cannot_cancel_there id at error.AnswerOvertakes h = h
  cannot_cancel_there id at error.TwoOfOneKey h = h
  cannot_cancel_there id at error.NoTimeLeft h = h
  cannot_cancel_there id at (error.Unreadable refusal) h = unread_there id at refusal h
  cannot_cancel_there id at error.NoMemory h = h

  -- ---- an instance and all after it

  ends_there : (from id : Moment) (range : Bool) (item : Item) → Ends x uid from id range item → Ends y uid from id range item
  ends_there from id false item ends = record { live = instance_there uid x y same id item ends.live; reached = ends.reached }
  ends_there from id true item (inl (is, governs)) = inl (is, question_there uid x y same (Some from) item governs)
  ends_there from id true item (inr ends) =
      inr (record { stands = under_there uid x y same (Range uid id) item refl ends.stands; live = ends.live; after = ends.after })

  ending_there : (from : Moment) (n : ℕ) (stamp : Stamp) (p : Parts) → IsEnding x uid from n stamp p → IsEnding y uid from n stamp p
  ending_there from n stamp p is = record {
    id = is.id;
    range = is.range;
    item = is.item;
    ends = ends_there from is.id is.range is.item is.ends;
    parts_are = is.parts_are;
  }

  -- ---- attendees are removed

  removable_there : (id : Option Moment) (addresses : List (List ℕ)) (item : Item) → IsRemovable x uid id addresses item →
      IsRemovable y uid id addresses item
  removable_there id addresses item is =
      record { shown = is.shown; shows = shows_there uid x y same id item is.shown is.shows; each = is.each }

  nobody_there : (id : Option Moment) (addresses : List (List ℕ)) → IsNobody x uid id addresses → IsNobody y uid id addresses
  nobody_there id addresses is = record {
    item = is.item;
    shown = is.shown;
    shows = shows_there uid x y same id is.item is.shown is.shows;
    not_each = is.not_each;
  }

  removal_there : (id : Option Moment) (addresses : List (List ℕ)) (item : Item) (n : ℕ) (keys : List Key) →
      IsRemoval x uid id addresses item n keys → IsRemoval y uid id addresses item n keys
  removal_there id addresses item n keys is = record {
    removable = removable_there id addresses item is.removable;
    next = next_there uid x y same (Some n) is.next;
    keys_are = is.keys_are;
  }

  overtaken_there : (keys : List Key) → AreOfUid uid keys → (n : ℕ) → IsOvertaken x keys n → IsOvertaken y keys n
  overtaken_there keys of n is = record {
    item = is.item;
    kept = (same is.item (of is.item.key is.about)).0 is.kept;
    about = is.about;
    greater = is.greater;
  }

  spent_removal : (id : Option Moment) (addresses : List (List ℕ)) → IsRemovalSpent x uid id addresses → IsRemovalSpent y uid id addresses
  spent_removal id addresses is = record {
    item = is.item;
    removable = removable_there id addresses is.item is.removable;
    spent = next_there uid x y same None is.spent;
  }

-- the keys of a removal are of the UID
removal_keys : (heard : List Item) (uid : List ℕ) (id : Option Moment) (addresses : List (List ℕ)) (item : Item) (n : ℕ) (keys : List Key) →
    IsRemoval heard uid id addresses item n keys → AreOfUid uid keys
removal_keys heard uid id addresses item n keys is =
    subst (AreOfUid uid) (sym is.keys_are) (removed_of_uid uid id (lines_of addresses item.todo.attendees))

module _ (uid : List ℕ) (x y : List Item) (same : KeepSame uid x y) where
  endings_there : (from : Moment) (n : ℕ) (stamp : Stamp) (all : List Parts) → AreEndings x uid from n stamp all →
      AreEndings y uid from n stamp all
  endings_there from n stamp all are = record {
    ascend = are.ascend;
    each = λ p there. ending_there uid x y same from n stamp p (are.each p there);
    every = λ p is. are.every p (ending_there uid y x (same_back uid x y same) from n stamp p is);
  }

  onward_there : (from : Moment) (at : Stamp) (all : List Parts) → IsOnwardOf x uid from at all → IsOnwardOf y uid from at all
  onward_there from at all is = record {
    there = row_there uid x y same (Some from) is.there;
    sequence = is.sequence;
    next = next_there uid x y same (Some is.sequence) is.next;
    stamp = is.stamp;
    stamped = equal_stamped_there uid x y same (ended_keys uid all) (ended_of_uid uid all) is.sequence at is.stamp is.stamped;
    are = endings_there from is.sequence is.stamp all is.are;
  }

  pub cancelling_onward_there : (from : Moment) (at : Stamp) (octets : List ℕ) → IsCancellingOnward x uid from at octets →
      IsCancellingOnward y uid from at octets
  cancelling_onward_there from at octets is =
      record { all = is.all; cancels = onward_there from at is.all is.cancels; sent = is.sent }

  pub onward_lacking_there : (from : Moment) (lacking : List PropertyName) → IsOnwardLacking x uid from lacking →
      IsOnwardLacking y uid from lacking
  onward_lacking_there from lacking is = record {
    there = row_there uid x y same (Some from) is.there;
    sequence = is.sequence;
    stamp = is.stamp;
    all = is.all;
    are = endings_there from is.sequence is.stamp is.all is.are;
    lacking_is = is.lacking_is;
  }

  onward_unread_there : (from : Moment) (at : Stamp) (refusal : MessageRefusal) → IsOnwardUnread x uid from at refusal →
      IsOnwardUnread y uid from at refusal
  onward_unread_there from at refusal is =
      record { all = is.all; cancels = onward_there from at is.all is.cancels; unread = is.unread }

  pub cannot_cancel_onward_there : (from : Moment) (at : Stamp) (e : WritingError) → CannotCancelOnward x uid from at e →
      CannotCancelOnward y uid from at e
  cannot_cancel_onward_there from at error.NothingStands h = none_there uid x y same (Some from) h
  cannot_cancel_onward_there from at error.NoSuchAttendee h = h
  cannot_cancel_onward_there from at error.NoSequenceLeft h = spent_sequence uid x y same (Some from) h
  cannot_cancel_onward_there from at error.AnswerOvertakes h = h
  cannot_cancel_onward_there from at error.TwoOfOneKey h = h
  cannot_cancel_onward_there from at error.NoTimeLeft h = h
  cannot_cancel_onward_there from at (error.Unreadable refusal) h = onward_unread_there from at refusal h
  cannot_cancel_onward_there from at error.NoMemory h = h

  -- ---- attendees are removed

  first_there : (keys : List Key) → AreOfUid uid keys → (n : ℕ) → ¬ IsOvertaken x keys n → ¬ IsOvertaken y keys n
  first_there keys of n first over = first (overtaken_there uid y x (same_back uid x y same) keys of n over)

  removal_of_there : (id : Option Moment) (addresses : List (List ℕ)) (at : Stamp) (parts : Parts) →
      IsRemovalOf x uid id addresses at parts → IsRemovalOf y uid id addresses at parts
  removal_of_there id addresses at parts is =
      let of : AreOfUid uid is.keys = removal_keys x uid id addresses is.item is.sequence is.keys is.removes in record {
        item = is.item;
        sequence = is.sequence;
        keys = is.keys;
        removes = removal_there uid x y same id addresses is.item is.sequence is.keys is.removes;
        first = first_there is.keys of is.sequence is.first;
        stamp = is.stamp;
        stamped = equal_stamped_there uid x y same is.keys of is.sequence at is.stamp is.stamped;
        parts_are = is.parts_are;
      }

  pub removing_there : (id : Option Moment) (addresses : List (List ℕ)) (at : Stamp) (octets : List ℕ) →
      IsRemoving x uid id addresses at octets → IsRemoving y uid id addresses at octets
  removing_there id addresses at octets is =
      record { parts = is.parts; removes = removal_of_there id addresses at is.parts is.removes; sent = is.sent }

  overtaken_removal : (id : Option Moment) (addresses : List (List ℕ)) → IsRemovalOvertaken x uid id addresses →
      IsRemovalOvertaken y uid id addresses
  overtaken_removal id addresses is = record {
    item = is.item;
    sequence = is.sequence;
    keys = is.keys;
    removes = removal_there uid x y same id addresses is.item is.sequence is.keys is.removes;
    overtaken = overtaken_there uid x y same is.keys (removal_keys x uid id addresses is.item is.sequence is.keys is.removes)
        is.sequence is.overtaken;
  }

  late_removal : (id : Option Moment) (addresses : List (List ℕ)) (at : Stamp) → IsRemovalLate x uid id addresses at →
      IsRemovalLate y uid id addresses at
  late_removal id addresses at is =
      let of : AreOfUid uid is.keys = removal_keys x uid id addresses is.item is.sequence is.keys is.removes in record {
        item = is.item;
        sequence = is.sequence;
        keys = is.keys;
        removes = removal_there uid x y same id addresses is.item is.sequence is.keys is.removes;
        first = first_there is.keys of is.sequence is.first;
        late = equal_spent_there uid x y same is.keys of is.sequence at is.late;
      }

  unread_removal : (id : Option Moment) (addresses : List (List ℕ)) (at : Stamp) (refusal : MessageRefusal) →
      IsRemovalUnread x uid id addresses at refusal → IsRemovalUnread y uid id addresses at refusal
  unread_removal id addresses at refusal is =
      record { parts = is.parts; removes = removal_of_there id addresses at is.parts is.removes; unread = is.unread }

  pub cannot_remove_there : (id : Option Moment) (addresses : List (List ℕ)) (at : Stamp) (e : WritingError) →
      CannotRemove x uid id addresses at e → CannotRemove y uid id addresses at e
  cannot_remove_there id addresses at error.NothingStands h = none_there uid x y same id h
  cannot_remove_there id addresses at error.NoSuchAttendee h = nobody_there uid x y same id addresses h
  cannot_remove_there id addresses at error.NoSequenceLeft h = spent_removal uid x y same id addresses h
  cannot_remove_there id addresses at error.AnswerOvertakes h = overtaken_removal id addresses h
  cannot_remove_there id addresses at error.TwoOfOneKey h = h
  cannot_remove_there id addresses at error.NoTimeLeft h = late_removal id addresses at h
  cannot_remove_there id addresses at (error.Unreadable refusal) h = unread_removal id addresses at refusal h
  cannot_remove_there id addresses at error.NoMemory h = h
