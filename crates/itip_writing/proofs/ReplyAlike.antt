-- Answers and refresh requests are the same for two sets of items that keep the same of the UID.
use Rattle.std.proofs.Common.{◌≡◌, ◌∙◌, ℕ, List, [], ◌∷◌, refl, ap, inl, inr, Option, Some, None}
use Rattle.itip_moment.specs.declared.moment.Moment.{Moment}
use Rattle.itip_moment.specs.declared.stamp.Stamp.{Stamp}
use Rattle.itip_todo.specs.Parts.{Parts}
use Rattle.itip_items.specs.KeyParts.{uid_of}
use Rattle.itip_items.specs.declared.item.Item.{Item}
use Rattle.itip_items.specs.declared.key.Key.{Key}
use Rattle.itip_message.specs.declared.error.MessageRefusal.{MessageRefusal}
use Rattle.itip_state.specs.Kept.{KeepSame}
use Rattle.itip_writing.specs.Refreshing.{CannotRefresh, IsBefore, IsRefresh, IsRefreshLate, IsRefreshOf, IsRefreshUnread, refresh_key}
use Rattle.itip_writing.specs.Replying.{CannotReply, IsAnswerLate, IsAnswerRevision, IsAnswerSequence, IsAsked, IsReply, IsReplyLate}
use Rattle.itip_writing.specs.Replying.{IsReplyOf, IsReplyUnread, ShowsNone, answer_key}
use Rattle.itip_writing.specs.Stamping.{IsKeptOf, IsStampAfter, IsTimeSpent}
use Rattle.itip_writing.specs.declared.answer.Answer.{Answer}
use Rattle.itip_writing.specs.declared.error.WritingError.{WritingError}
use Rattle.itip_writing.specs.declared.error.WritingError.TheVariants as error
use Rattle.itip_writing.proofs.CancelAlike.{one_of_uid}
use Rattle.itip_writing.proofs.UidAlike.{equal_spent_there, equal_stamped_there, equal_there, none_there, same_back, shows_there}
use Rattle.itip_writing.proofs.UidAlike.{spent_there, stamped_there}

module _ (uid : List ℕ) (x y : List Item) (same : KeepSame uid x y) where
  -- ---- the attendee in question, and the kept item of a key

  asked_there : (id : Option Moment) (address : List ℕ) (item : Item) (named : List ℕ) → IsAsked x uid id address item named →
      IsAsked y uid id address item named
  asked_there id address item named is = record {
    shown = is.shown;
    shows = shows_there uid x y same id item is.shown is.shows;
    attendee = is.attendee;
    there = is.there;
    same = is.same;
    named_is = is.named_is;
  }

  shows_none_there : (id : Option Moment) (address : List ℕ) → ShowsNone x uid id address → ShowsNone y uid id address
  shows_none_there id address is = record {
    item = is.item;
    shown = is.shown;
    shows = shows_there uid x y same id is.item is.shown is.shows;
    none = is.none;
  }

  kept_there : (key : Key) → uid_of key ≡ uid → (found : Option Item) → IsKeptOf x key found → IsKeptOf y key found
  kept_there key of None none = λ item kept about. none item ((same item (ap uid_of about ∙ of)).1 kept) about
  kept_there key of (Some item) (kept, about) = ((same item (ap uid_of about ∙ of)).0 kept, about)

  -- ---- answers

  sequence_there : (key : Key) → uid_of key ≡ uid → (own sequence : ℕ) → IsAnswerSequence x key own sequence →
      IsAnswerSequence y key own sequence
  sequence_there key of own sequence is =
      record { answer = is.answer; kept = kept_there key of is.answer is.kept; sequence_is = is.sequence_is }

  revision_there : (key : Key) → uid_of key ≡ uid → (own : ℕ) (at : Stamp) (sequence : ℕ) (stamp : Stamp) →
      IsAnswerRevision x key own at sequence stamp → IsAnswerRevision y key own at sequence stamp
  revision_there key of own at sequence stamp is = record {
    sequence_is = sequence_there key of own sequence is.sequence_is;
    stamp_is = equal_stamped_there uid x y same (key ∷ []) (one_of_uid uid key of) sequence at stamp is.stamp_is;
  }

  late_there : (key : Key) → uid_of key ≡ uid → (own : ℕ) (at : Stamp) → IsAnswerLate x key own at → IsAnswerLate y key own at
  late_there key of own at is = record {
    sequence = is.sequence;
    sequence_is = sequence_there key of own is.sequence is.sequence_is;
    late = equal_spent_there uid x y same (key ∷ []) (one_of_uid uid key of) is.sequence at is.late;
  }

  reply_of_there : (id : Option Moment) (answer : Answer) (at : Stamp) (parts : Parts) → IsReplyOf x uid id answer at parts →
      IsReplyOf y uid id answer at parts
  reply_of_there id answer at parts is = record {
    item = is.item;
    named = is.named;
    asked = asked_there id answer.attendee.now is.item is.named is.asked;
    sequence = is.sequence;
    stamp = is.stamp;
    revision = revision_there (answer_key uid id is.named) refl is.item.own at is.sequence is.stamp is.revision;
    parts_are = is.parts_are;
  }

  pub reply_there : (id : Option Moment) (answer : Answer) (at : Stamp) (octets : List ℕ) → IsReply x uid id answer at octets →
      IsReply y uid id answer at octets
  reply_there id answer at octets is = record {
    parts = is.parts;
    answers = reply_of_there id answer at is.parts is.answers;
    octets_are = is.octets_are;
    readable = is.readable;
  }

  reply_late_there : (id : Option Moment) (answer : Answer) (at : Stamp) → IsReplyLate x uid id answer at → IsReplyLate y uid id answer at
  reply_late_there id answer at is = record {
    item = is.item;
    named = is.named;
    asked = asked_there id answer.attendee.now is.item is.named is.asked;
    late = late_there (answer_key uid id is.named) refl is.item.own at is.late;
  }

  reply_unread_there : (id : Option Moment) (answer : Answer) (at : Stamp) (refusal : MessageRefusal) →
      IsReplyUnread x uid id answer at refusal → IsReplyUnread y uid id answer at refusal
  reply_unread_there id answer at refusal is =
      record { parts = is.parts; answers = reply_of_there id answer at is.parts is.answers; refused = is.refused }

  pub cannot_reply_there : (id : Option Moment) (answer : Answer) (at : Stamp) (e : WritingError) → CannotReply x uid id answer at e →
      CannotReply y uid id answer at e
  cannot_reply_there id answer at error.NothingStands h = none_there uid x y same id h
  cannot_reply_there id answer at error.NoSuchAttendee h = shows_none_there id answer.attendee.now h
  cannot_reply_there id answer at error.NoSequenceLeft h = h
  cannot_reply_there id answer at error.AnswerOvertakes h = h
  cannot_reply_there id answer at error.TwoOfOneKey h = h
  cannot_reply_there id answer at error.NoTimeLeft h = reply_late_there id answer at h
  cannot_reply_there id answer at (error.Unreadable refusal) h = reply_unread_there id answer at refusal h
  cannot_reply_there id answer at error.NoMemory h = h

  -- ---- refresh requests

  before_there : (key : Key) → uid_of key ≡ uid → (item : Item) (stamp : Stamp) → IsBefore x key item stamp → IsBefore y key item stamp
  before_there key of item stamp (inl is) = inl (equal_there uid x y same (key ∷ []) (one_of_uid uid key of) 0 stamp is)
  before_there key of item stamp (inr is) = inr is

  before_back : (key : Key) → uid_of key ≡ uid → (item : Item) (stamp : Stamp) → IsBefore y key item stamp → IsBefore x key item stamp
  before_back key of item stamp (inl is) =
      inl (equal_there uid y x (same_back uid x y same) (key ∷ []) (one_of_uid uid key of) 0 stamp is)
  before_back key of item stamp (inr is) = inr is

  before_stamped : (key : Key) → uid_of key ≡ uid → (item : Item) (at stamp : Stamp) → IsStampAfter (IsBefore x key item) at stamp →
      IsStampAfter (IsBefore y key item) at stamp
  before_stamped key of item at stamp =
      stamped_there (IsBefore x key item) (IsBefore y key item) (before_there key of item) (before_back key of item) at stamp

  before_spent : (key : Key) → uid_of key ≡ uid → (item : Item) (at : Stamp) → IsTimeSpent (IsBefore x key item) at →
      IsTimeSpent (IsBefore y key item) at
  before_spent key of item at =
      spent_there (IsBefore x key item) (IsBefore y key item) (before_there key of item) (before_back key of item) at

  refresh_of_there : (id : Option Moment) (address : List ℕ) (at : Stamp) (parts : Parts) → IsRefreshOf x uid id address at parts →
      IsRefreshOf y uid id address at parts
  refresh_of_there id address at parts is = record {
    item = is.item;
    named = is.named;
    asked = asked_there id address is.item is.named is.asked;
    stamp = is.stamp;
    stamp_is = before_stamped (refresh_key uid id is.named) refl is.item at is.stamp is.stamp_is;
    parts_are = is.parts_are;
  }

  pub refresh_there : (id : Option Moment) (address : List ℕ) (at : Stamp) (octets : List ℕ) → IsRefresh x uid id address at octets →
      IsRefresh y uid id address at octets
  refresh_there id address at octets is = record {
    parts = is.parts;
    wants = refresh_of_there id address at is.parts is.wants;
    octets_are = is.octets_are;
    readable = is.readable;
  }

  refresh_late_there : (id : Option Moment) (address : List ℕ) (at : Stamp) → IsRefreshLate x uid id address at →
      IsRefreshLate y uid id address at
  refresh_late_there id address at is = record {
    item = is.item;
    named = is.named;
    asked = asked_there id address is.item is.named is.asked;
    late = before_spent (refresh_key uid id is.named) refl is.item at is.late;
  }

  refresh_unread_there : (id : Option Moment) (address : List ℕ) (at : Stamp) (refusal : MessageRefusal) →
      IsRefreshUnread x uid id address at refusal → IsRefreshUnread y uid id address at refusal
  refresh_unread_there id address at refusal is =
      record { parts = is.parts; wants = refresh_of_there id address at is.parts is.wants; refused = is.refused }

  pub cannot_refresh_there : (id : Option Moment) (address : List ℕ) (at : Stamp) (e : WritingError) →
      CannotRefresh x uid id address at e → CannotRefresh y uid id address at e
  cannot_refresh_there id address at error.NothingStands h = none_there uid x y same id h
  cannot_refresh_there id address at error.NoSuchAttendee h = shows_none_there id address h
  cannot_refresh_there id address at error.NoSequenceLeft h = h
  cannot_refresh_there id address at error.AnswerOvertakes h = h
  cannot_refresh_there id address at error.TwoOfOneKey h = h
  cannot_refresh_there id address at error.NoTimeLeft h = refresh_late_there id address at h
  cannot_refresh_there id address at (error.Unreadable refusal) h = refresh_unread_there id address at refusal h
  cannot_refresh_there id address at error.NoMemory h = h
