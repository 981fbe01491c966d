-- The laws of messages that cancel or remove attendees.
use Rattle.std.proofs.Common.{◌≡◌, ℕ, List, [], ◌∷◌, ◌++◌, Option, Some, None}
use Rattle.std.specs.List.{Contains}
use Rattle.itip_moment.specs.declared.moment.Moment.{Moment}
use Rattle.itip_moment.specs.declared.stamp.Stamp.{Stamp}
use Rattle.itip_todo.specs.Table.{attendee_key}
use Rattle.itip_todo.specs.declared.property_name.PropertyName.{PropertyName}
use Rattle.itip_items.specs.Given.{AreItemsOf}
use Rattle.itip_items.specs.Items.{drafts}
use Rattle.itip_items.specs.declared.item.Item.{Item}
use Rattle.itip_items.specs.declared.kind.Method.TheVariants as method
use Rattle.itip_message.specs.Message.{ReadsMessage}
use Rattle.itip_view.specs.InQuestion.{ShowsInQuestion}
use Rattle.itip_view.specs.OfKept.{FollowsFromKept}
use Rattle.itip_view.specs.Rows.{IsRow, moment_of}
use Rattle.itip_view.specs.Showing.{Shows}
use Rattle.itip_view.specs.Standing.{Reaches}
use Rattle.itip_view.specs.declared.row.Row.{Row}
use Rattle.itip_view.specs.declared.row.ShownAttendee.{ShownAttendee}
use Rattle.itip_view.specs.declared.window.Window.{Window}
use Rattle.itip_writing.specs.Cancelling.{CannotCancel, CannotCancelOnward, IsCancelling, IsCancellingOnward, IsOnwardLacking}
use Rattle.itip_writing.specs.Removing.{CannotRemove, IsRemoving}
use Rattle.itip_writing.specs.Replying.{AsksWhole, IsLacking}
use Rattle.itip_writing.specs.declared.error.WritingError.{WritingError}
use Rattle.itip_writing.proofs.CancelAlike.{cancelling_there, cannot_cancel_there, cancelling_onward_there, cannot_cancel_onward_there}
use Rattle.itip_writing.proofs.CancelAlike.{onward_lacking_there, removing_there, cannot_remove_there, lacking_there}
use Rattle.itip_writing.proofs.CancelRead.{cancel_read, onward_read, removal_read}
use Rattle.itip_writing.proofs.NoRow.{cancelled_no_row, cancelled_no_row_at, onward_no_rows}
use Rattle.itip_writing.proofs.NotShown.{removed_in_question, removed_on_rows}
use Rattle.itip_writing.proofs.UidAlike.{same_kept}

-- ---- what is read

pub cancelled_items : (heard : List Item) (uid : List ℕ) (id : Option Moment) (at : Stamp) (octets : List ℕ)
    (sent : IsCancelling heard uid id at octets) (items : List Item) → ReadsMessage octets items →
    AreItemsOf (drafts method.Cancel (sent.parts ∷ [])) items
cancelled_items heard uid id at octets is items reads = cancel_read heard uid id at is.parts is.cancels octets is.sent items reads

pub onward_items : (heard : List Item) (uid : List ℕ) (from : Moment) (at : Stamp) (octets : List ℕ)
    (sent : IsCancellingOnward heard uid from at octets) (items : List Item) → ReadsMessage octets items →
    AreItemsOf (drafts method.Cancel sent.all) items
onward_items heard uid from at octets is items reads = onward_read heard uid from at is.all is.cancels octets is.sent items reads

pub removed_items : (heard : List Item) (uid : List ℕ) (id : Option Moment) (addresses : List (List ℕ)) (at : Stamp) (octets : List ℕ)
    (sent : IsRemoving heard uid id addresses at octets) (items : List Item) → ReadsMessage octets items →
    AreItemsOf (drafts method.Cancel (sent.parts ∷ [])) items
removed_items heard uid id addresses at octets is items reads =
    removal_read heard uid id addresses at is.parts is.removes octets is.sent items reads

-- ---- what is gone

pub whole_gone : (heard : List Item) (uid : List ℕ) (at : Stamp) (octets : List ℕ) (items : List Item) →
    IsCancelling heard uid None at octets → ReadsMessage octets items → (window : Window) (row : Row) →
    IsRow (heard ++ items) window row → row.uid ≡ uid → ⊥
whole_gone heard uid at octets items is reads =
    cancelled_no_row heard uid at is.parts is.cancels items (cancelled_items heard uid None at octets is items reads)

pub instance_gone : (heard : List Item) (uid : List ℕ) (id : Moment) (at : Stamp) (octets : List ℕ) (items : List Item) →
    IsCancelling heard uid (Some id) at octets → ReadsMessage octets items → (window : Window) (row : Row) →
    IsRow (heard ++ items) window row → row.uid ≡ uid → moment_of row.id ≡ Some id → ⊥
instance_gone heard uid id at octets items is reads =
    cancelled_no_row_at heard uid id at is.parts is.cancels items (cancelled_items heard uid (Some id) at octets is items reads)

pub onward_gone : (heard : List Item) (uid : List ℕ) (from : Moment) (at : Stamp) (octets : List ℕ) (items : List Item) →
    IsCancellingOnward heard uid from at octets → ReadsMessage octets items → (window : Window) (row : Row) →
    IsRow (heard ++ items) window row → row.uid ≡ uid → (id : Moment) → moment_of row.id ≡ Some id → Reaches from id → ⊥
onward_gone heard uid from at octets items is reads =
    onward_no_rows heard uid from at is.all is.cancels items (onward_items heard uid from at octets is items reads)

pub question_gone : (heard : List Item) (uid : List ℕ) (id : Option Moment) (addresses : List (List ℕ)) (at : Stamp) (octets : List ℕ)
    (items : List Item) → IsRemoving heard uid id addresses at octets → ReadsMessage octets items → (address : List ℕ) →
    Contains addresses address → (item : Item) (shown : List ShownAttendee) → ShowsInQuestion (heard ++ items) uid id item shown →
    (attendee : ShownAttendee) → Contains shown attendee → attendee_key attendee.address ≡ attendee_key address → ⊥
question_gone heard uid id addresses at octets items is reads =
    removed_in_question heard uid id addresses at is.parts is.removes items
    (removed_items heard uid id addresses at octets is items reads)

pub series_gone : (heard : List Item) (uid : List ℕ) (addresses : List (List ℕ)) (at : Stamp) (octets : List ℕ) (items : List Item) →
    IsRemoving heard uid None addresses at octets → ReadsMessage octets items → (address : List ℕ) → Contains addresses address →
    (window : Window) (row : Row) → row.uid ≡ uid → AsksWhole (heard ++ items) window address row → Shows address row → ⊥
series_gone heard uid addresses at octets items is reads =
    removed_on_rows heard uid addresses at is.parts is.removes items (removed_items heard uid None addresses at octets is items reads)

-- ---- it depends only on what is kept

pub cancelling_of_kept : (uid : List ℕ) (id : Option Moment) (at : Stamp) (octets : List ℕ) →
    FollowsFromKept (λ heard. IsCancelling heard uid id at octets)
cancelling_of_kept uid id at octets kept heard are = cancelling_there uid kept heard (same_kept uid kept heard are) id at octets

pub cannot_cancel_of_kept : (uid : List ℕ) (id : Option Moment) (at : Stamp) (e : WritingError) →
    FollowsFromKept (λ heard. CannotCancel heard uid id at e)
cannot_cancel_of_kept uid id at e kept heard are = cannot_cancel_there uid kept heard (same_kept uid kept heard are) id at e

pub onward_of_kept : (uid : List ℕ) (from : Moment) (at : Stamp) (octets : List ℕ) →
    FollowsFromKept (λ heard. IsCancellingOnward heard uid from at octets)
onward_of_kept uid from at octets kept heard are = cancelling_onward_there uid kept heard (same_kept uid kept heard are) from at octets

pub cannot_onward_of_kept : (uid : List ℕ) (from : Moment) (at : Stamp) (e : WritingError) →
    FollowsFromKept (λ heard. CannotCancelOnward heard uid from at e)
cannot_onward_of_kept uid from at e kept heard are = cannot_cancel_onward_there uid kept heard (same_kept uid kept heard are) from at e

pub onward_lacking_of_kept : (uid : List ℕ) (from : Moment) (lacking : List PropertyName) →
    FollowsFromKept (λ heard. IsOnwardLacking heard uid from lacking)
onward_lacking_of_kept uid from lacking kept heard are = onward_lacking_there uid kept heard (same_kept uid kept heard are) from lacking

pub removing_of_kept : (uid : List ℕ) (id : Option Moment) (addresses : List (List ℕ)) (at : Stamp) (octets : List ℕ) →
    FollowsFromKept (λ heard. IsRemoving heard uid id addresses at octets)
removing_of_kept uid id addresses at octets kept heard are =
    removing_there uid kept heard (same_kept uid kept heard are) id addresses at octets

pub cannot_remove_of_kept : (uid : List ℕ) (id : Option Moment) (addresses : List (List ℕ)) (at : Stamp) (e : WritingError) →
    FollowsFromKept (λ heard. CannotRemove heard uid id addresses at e)
cannot_remove_of_kept uid id addresses at e kept heard are =
    cannot_remove_there uid kept heard (same_kept uid kept heard are) id addresses at e

pub lacking_of_kept : (uid : List ℕ) (id : Option Moment) (lacking : List PropertyName) →
    FollowsFromKept (λ heard. IsLacking heard uid id lacking)
lacking_of_kept uid id lacking kept heard are = lacking_there uid kept heard (same_kept uid kept heard are) id lacking
