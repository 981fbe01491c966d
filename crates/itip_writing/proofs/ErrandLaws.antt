-- The laws of answers, of refresh requests, and of errands.
use Rattle.std.proofs.Common.{◌≡◌, ◌≤◌, ℕ, List, [], ◌∷◌, ◌++◌, subst, map, Option, Some, None}
use Rattle.std.specs.Option.{option_copied}
use Rattle.std.specs.String.{string_bytes}
use Rattle.itip_moment.specs.declared.moment.Moment.{Moment}
use Rattle.itip_moment.specs.declared.stamp.Stamp.{Stamp}
use Rattle.itip_todo.specs.declared.property_name.PropertyName.{PropertyName}
use Rattle.itip_items.specs.Given.{AreItemsOf}
use Rattle.itip_items.specs.Items.{drafts}
use Rattle.itip_items.specs.declared.item.Item.{Item}
use Rattle.itip_items.specs.declared.kind.Method.TheVariants as method
use Rattle.itip_message.specs.Message.{ReadsMessage}
use Rattle.itip_state.specs.Kept.{AreKept}
use Rattle.itip_view.specs.declared.row.Row.{Row}
use Rattle.itip_view.specs.declared.window.Window.{Window}
use Rattle.itip_report.specs.Resending.{IsResendOf}
use Rattle.itip_report.specs.Reports.{IsWanted}
use Rattle.itip_report.proofs.OfKept.{resend_of_kept, resent_of_kept}
use Rattle.itip_writing.specs.Causes.{IfNothing}
use Rattle.itip_writing.specs.Errands.{CannotBeWritten, IsWritten, LacksOf}
use Rattle.itip_writing.specs.Refreshing.{IsRefresh, NoneSequenced}
use Rattle.itip_writing.specs.Replying.{AsksWhole, IsAnswered, IsReply, ShowsAnswer}
use Rattle.itip_writing.specs.declared.answer.Answer.{Answer}
use Rattle.itip_writing.specs.declared.errand.Errand.{Errand}
use Rattle.itip_writing.specs.declared.errand.Errand.TheVariants as errand
use Rattle.itip_writing.specs.declared.error.WritingError.{WritingError}
use Rattle.itip_writing.specs.declared.error.WritingError.TheVariants as error
use Rattle.itip_writing.proofs.BriefRead.{refresh_read, reply_read}
use Rattle.itip_writing.proofs.CancelAlike.{cancelling_onward_there, cancelling_there, cannot_cancel_onward_there, cannot_cancel_there}
use Rattle.itip_writing.proofs.CancelAlike.{cannot_remove_there, lacking_there, onward_lacking_there, removing_there}
use Rattle.itip_writing.proofs.OneRequest.{cause_of_kept, request_of_kept}
use Rattle.itip_writing.proofs.RefreshHeard.{refresh_wanted}
use Rattle.itip_writing.proofs.ReplyAlike.{cannot_refresh_there, cannot_reply_there, refresh_there, reply_there}
use Rattle.itip_writing.proofs.ReplyHeard.{answer_on_rows, answer_shown}
use Rattle.itip_writing.proofs.UidAlike.{same_kept}

-- ---- what is read

pub reply_items : (heard : List Item) (uid : List ℕ) (id : Option Moment) (answer : Answer) (at : Stamp) (octets : List ℕ)
    (sent : IsReply heard uid id answer at octets) (items : List Item) → ((n : ℕ) → answer.percent ≡ Some n → n ≤ 100) →
    ReadsMessage octets items → AreItemsOf (drafts method.Reply (sent.parts ∷ [])) items
reply_items heard uid id answer at octets sent items small reads =
    reply_read heard uid id answer at sent.parts sent.answers small items
    (subst (λ (text : List ℕ). ReadsMessage text items) sent.octets_are reads)

pub refresh_items : (heard : List Item) (uid : List ℕ) (id : Option Moment) (address : List ℕ) (at : Stamp) (octets : List ℕ)
    (sent : IsRefresh heard uid id address at octets) (items : List Item) → ReadsMessage octets items →
    AreItemsOf (drafts method.Refresh (sent.parts ∷ [])) items
refresh_items heard uid id address at octets sent items reads =
    refresh_read heard uid id address at sent.parts sent.wants items
    (subst (λ (text : List ℕ). ReadsMessage text items) sent.octets_are reads)

-- ---- what is shown and reported

pub question_shown : (heard : List Item) (uid : List ℕ) (id : Option Moment) (answer : Answer) (at : Stamp) (octets : List ℕ)
    (items : List Item) → IsReply heard uid id answer at octets → ((n : ℕ) → answer.percent ≡ Some n → n ≤ 100) →
    ReadsMessage octets items → IsAnswered (heard ++ items) uid id answer
question_shown heard uid id answer at octets items sent small reads =
    answer_shown heard uid id answer at sent.parts sent.answers items
    (reply_items heard uid id answer at octets sent items small reads)

pub series_shown : (heard : List Item) (uid : List ℕ) (answer : Answer) (at : Stamp) (octets : List ℕ) (items : List Item) →
    IsReply heard uid None answer at octets → ((n : ℕ) → answer.percent ≡ Some n → n ≤ 100) → ReadsMessage octets items →
    (window : Window) (row : Row) → row.uid ≡ uid → AsksWhole (heard ++ items) window answer.attendee.now row →
    ShowsAnswer answer row.attendees
series_shown heard uid answer at octets items sent small reads =
    answer_on_rows heard uid answer at sent.parts sent.answers items (reply_items heard uid None answer at octets sent items small reads)

pub newest_wanted : (heard : List Item) (uid : List ℕ) (id : Option Moment) (address : List ℕ) (at : Stamp) (octets : List ℕ)
    (items : List Item) → IsRefresh heard uid id address at octets → NoneSequenced heard uid id address → ReadsMessage octets items →
    (item : Item) × (items ≡ item ∷ []) × IsWanted (heard ++ items) item
newest_wanted heard uid id address at octets items sent none reads =
    refresh_wanted heard uid id address at sent.parts sent.wants none items (refresh_items heard uid id address at octets sent items reads)

-- ---- it depends only on what is kept

module _ (kept heard : List Item) (are : AreKept kept heard) where
  nothing_of_kept : (uid : List ℕ) (e : WritingError) → IfNothing (IsResendOf kept uid None) e → IfNothing (IsResendOf heard uid None) e
  nothing_of_kept uid error.NothingStands h = resend_of_kept kept heard are uid None h
  nothing_of_kept uid error.NoSuchAttendee h = h
  nothing_of_kept uid error.NoSequenceLeft h = h
  nothing_of_kept uid error.AnswerOvertakes h = h
  nothing_of_kept uid error.TwoOfOneKey h = h
  nothing_of_kept uid error.NoTimeLeft h = h
  nothing_of_kept uid (error.Unreadable refusal) h = h
  nothing_of_kept uid error.NoMemory h = h

  pub written_of_kept : (e : Errand) (at : Stamp) (octets : List ℕ) → IsWritten e kept at octets → IsWritten e heard at octets
  written_of_kept (errand.Resend uid) at octets is = resend_of_kept kept heard are uid.now (Some octets) is
  written_of_kept (errand.Reply uid id answer) at octets is =
      reply_there uid.now kept heard (same_kept uid.now kept heard are) (option_copied id) answer at octets is
  written_of_kept (errand.Refresh uid id attendee) at octets is =
      refresh_there uid.now kept heard (same_kept uid.now kept heard are) (option_copied id) attendee.now at octets is
  written_of_kept (errand.Cancel uid id) at octets is =
      cancelling_there uid.now kept heard (same_kept uid.now kept heard are) (option_copied id) at octets is
  written_of_kept (errand.CancelOnward uid id) at octets is =
      cancelling_onward_there uid.now kept heard (same_kept uid.now kept heard are) id.now at octets is
  written_of_kept (errand.Remove uid id attendees) at octets is =
      removing_there uid.now kept heard (same_kept uid.now kept heard are) (option_copied id) (map string_bytes attendees.now) at octets is
  written_of_kept (errand.Request draft) at octets is = request_of_kept kept heard are draft.now at octets is

  pub lacks_of_kept : (e : Errand) (lacking : List PropertyName) → LacksOf e kept lacking → LacksOf e heard lacking
  lacks_of_kept (errand.Resend uid) lacking is = record {
    series = is.series;
    overrides = is.overrides;
    resent = resent_of_kept kept heard are uid.now is.series is.overrides is.resent;
    lacking_is = is.lacking_is;
  }
  lacks_of_kept (errand.Reply uid id answer) lacking is =
      lacking_there uid.now kept heard (same_kept uid.now kept heard are) (option_copied id) lacking is
  lacks_of_kept (errand.Refresh uid id attendee) lacking is =
      lacking_there uid.now kept heard (same_kept uid.now kept heard are) (option_copied id) lacking is
  lacks_of_kept (errand.Cancel uid id) lacking is =
      lacking_there uid.now kept heard (same_kept uid.now kept heard are) (option_copied id) lacking is
  lacks_of_kept (errand.CancelOnward uid id) lacking is =
      onward_lacking_there uid.now kept heard (same_kept uid.now kept heard are) id.now lacking is
  lacks_of_kept (errand.Remove uid id attendees) lacking is =
      lacking_there uid.now kept heard (same_kept uid.now kept heard are) (option_copied id) lacking is
  lacks_of_kept (errand.Request draft) lacking is = is

  pub cannot_of_kept : (e : Errand) (at : Stamp) (f : WritingError) → CannotBeWritten e kept at f → CannotBeWritten e heard at f
  cannot_of_kept (errand.Resend uid) at f h = nothing_of_kept uid.now f h
  cannot_of_kept (errand.Reply uid id answer) at f h =
      cannot_reply_there uid.now kept heard (same_kept uid.now kept heard are) (option_copied id) answer at f h
  cannot_of_kept (errand.Refresh uid id attendee) at f h =
      cannot_refresh_there uid.now kept heard (same_kept uid.now kept heard are) (option_copied id) attendee.now at f h
  cannot_of_kept (errand.Cancel uid id) at f h =
      cannot_cancel_there uid.now kept heard (same_kept uid.now kept heard are) (option_copied id) at f h
  cannot_of_kept (errand.CancelOnward uid id) at f h =
      cannot_cancel_onward_there uid.now kept heard (same_kept uid.now kept heard are) id.now at f h
  cannot_of_kept (errand.Remove uid id attendees) at f h =
      cannot_remove_there uid.now kept heard (same_kept uid.now kept heard are) (option_copied id) (map string_bytes attendees.now) at f h
  cannot_of_kept (errand.Request draft) at f h = cause_of_kept kept heard are draft.now at f h
