-- What an errand asks for, and what is written for it or why nothing is (our own rules; the messages are those of RFC 5546 3.4).
use Rattle.std.specs.Prelude.{◌≡◌, ℕ, List, map, None}
use Rattle.std.specs.Option.{option_copied}
use Rattle.std.specs.String.{string_bytes}
use Rattle.itip_moment.specs.declared.stamp.Stamp.{Stamp}
use Rattle.itip_todo.specs.declared.property_name.PropertyName.{PropertyName}
use Rattle.itip_items.specs.declared.item.Item.{Item}
use Rattle.itip_report.specs.Resending.{IsResend, IsResendOf}
use Rattle.itip_writing.specs.Cancelling.{IsCancelling, CannotCancel, IsCancellingOnward, CannotCancelOnward, IsOnwardLacking}
use Rattle.itip_writing.specs.Causes.{IfNothing}
use Rattle.itip_writing.specs.Lacking.{IsResendLacking, lacking_in_request}
use Rattle.itip_writing.specs.Refreshing.{IsRefresh, CannotRefresh}
use Rattle.itip_writing.specs.Removing.{IsRemoving, CannotRemove}
use Rattle.itip_writing.specs.Replying.{IsReply, CannotReply, IsLacking}
use Rattle.itip_writing.specs.Requesting.{IsRequest, CannotRequest}
use Rattle.itip_writing.specs.declared.errand.Errand.{Errand}
use Rattle.itip_writing.specs.declared.errand.Errand.TheVariants as errand
use Rattle.itip_writing.specs.declared.error.WritingError.{WritingError}

-- the bytes are the message that an errand asks for, written at a moment
abbrev pub IsWritten : Errand → List Item → Stamp → List ℕ → Type 0
IsWritten (errand.Resend uid) heard at octets = IsResend heard uid.now octets
IsWritten (errand.Reply uid id answer) heard at octets = IsReply heard uid.now (option_copied id) answer at octets
IsWritten (errand.Refresh uid id attendee) heard at octets = IsRefresh heard uid.now (option_copied id) attendee.now at octets
IsWritten (errand.Cancel uid id) heard at octets = IsCancelling heard uid.now (option_copied id) at octets
IsWritten (errand.CancelOnward uid id) heard at octets = IsCancellingOnward heard uid.now id.now at octets
IsWritten (errand.Remove uid id attendees) heard at octets =
    IsRemoving heard uid.now (option_copied id) (map string_bytes attendees.now) at octets
IsWritten (errand.Request draft) heard at octets = IsRequest heard draft.now at octets

-- why nothing is written: the first cause that applies; nothing is said if an allocation failed
abbrev pub CannotBeWritten : Errand → List Item → Stamp → WritingError → Type 0
CannotBeWritten (errand.Resend uid) heard at error = IfNothing (IsResendOf heard uid.now None) error
CannotBeWritten (errand.Reply uid id answer) heard at error = CannotReply heard uid.now (option_copied id) answer at error
CannotBeWritten (errand.Refresh uid id attendee) heard at error =
    CannotRefresh heard uid.now (option_copied id) attendee.now at error
CannotBeWritten (errand.Cancel uid id) heard at error = CannotCancel heard uid.now (option_copied id) at error
CannotBeWritten (errand.CancelOnward uid id) heard at error = CannotCancelOnward heard uid.now id.now at error
CannotBeWritten (errand.Remove uid id attendees) heard at error =
    CannotRemove heard uid.now (option_copied id) (map string_bytes attendees.now) at error
CannotBeWritten (errand.Request draft) heard at error = CannotRequest heard draft.now at error

-- what RFC 5546 3.4 requires in the message that is asked for, and that is missing
abbrev pub LacksOf : Errand → List Item → List PropertyName → Type 0
LacksOf (errand.Resend uid) heard lacking = IsResendLacking heard uid.now lacking
LacksOf (errand.Reply uid id answer) heard lacking = IsLacking heard uid.now (option_copied id) lacking
LacksOf (errand.Refresh uid id attendee) heard lacking = IsLacking heard uid.now (option_copied id) lacking
LacksOf (errand.Cancel uid id) heard lacking = IsLacking heard uid.now (option_copied id) lacking
LacksOf (errand.CancelOnward uid id) heard lacking = IsOnwardLacking heard uid.now id.now lacking
LacksOf (errand.Remove uid id attendees) heard lacking = IsLacking heard uid.now (option_copied id) lacking
LacksOf (errand.Request draft) heard lacking = lacking ≡ lacking_in_request draft.now
