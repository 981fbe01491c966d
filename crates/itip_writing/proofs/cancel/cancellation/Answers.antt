use Rattle.std.proofs.Common.{ℕ, List, subst}
use Rattle.std.specs.Option.{option_copied}
use Rattle.itip_items.specs.declared.item.Item.{Item}
use Rattle.itip_state.specs.Kept.{KeepSame}
use Rattle.itip_state.proofs.Members.{if_ok_then}
use Rattle.itip_writing.specs.Cancelling.{CannotCancel, IsCancelling}
use Rattle.itip_writing.specs.Replying.{IsLacking}
use Rattle.itip_writing.proofs.CancelAlike.{cancelling_there, cannot_cancel_there, lacking_there}
use Rattle.itip_writing.proofs.Faults.{if_err_then}
use Rattle.itip_writing.proofs.UidAlike.{next_in_part, same_part}
use Rattle.itip_writing.proofs.cancel.cancellation.Goals as goal

pub cancellation_of-requires : goal.cancellation_of-requires
cancellation_of-requires c =
    next_in_part c.args.uid.now c.in_ok-items.items.uid c.in_ok-items.items.items c.args.state.now c.in_ok-items.ensures.items
    c.in_ok-items.ensures.uid c.next_seq.result c.next_seq.ensures

pub returns-clause-found : goal.returns-clause-found
returns-clause-found c =
    let uid : List ℕ = c.args.uid.now in
    let id = option_copied c.args.id in
    let part : List Item = c.in_ok-items.items.items in
    let same : KeepSame uid part c.args.state.now = same_part uid part c.args.state.now c.in_ok-items.ensures.items in
    if_ok_then (λ message. IsCancelling part c.in_ok-items.items.uid id c.args.at message.octets.items)
    (λ message. IsCancelling c.args.state.now uid id c.args.at message.octets.items) c.cancellation_of.result
    (λ message is. cancelling_there uid part c.args.state.now same id c.args.at message.octets.items
    (subst (λ (u : List ℕ). IsCancelling part u id c.args.at message.octets.items) c.in_ok-items.ensures.uid is))
    c.cancellation_of.ensures.found

pub returns-clause-lacking : goal.returns-clause-lacking
returns-clause-lacking c =
    let uid : List ℕ = c.args.uid.now in
    let id = option_copied c.args.id in
    let part : List Item = c.in_ok-items.items.items in
    let same : KeepSame uid part c.args.state.now = same_part uid part c.args.state.now c.in_ok-items.ensures.items in
    if_ok_then (λ message. IsLacking part c.in_ok-items.items.uid id message.lacking.items)
    (λ message. IsLacking c.args.state.now uid id message.lacking.items) c.cancellation_of.result
    (λ message is. lacking_there uid part c.args.state.now same id message.lacking.items
    (subst (λ (u : List ℕ). IsLacking part u id message.lacking.items) c.in_ok-items.ensures.uid is))
    c.cancellation_of.ensures.lacking

pub returns-clause-fault : goal.returns-clause-fault
returns-clause-fault c =
    let uid : List ℕ = c.args.uid.now in
    let id = option_copied c.args.id in
    let part : List Item = c.in_ok-items.items.items in
    let same : KeepSame uid part c.args.state.now = same_part uid part c.args.state.now c.in_ok-items.ensures.items in
    if_err_then (CannotCancel part c.in_ok-items.items.uid id c.args.at) (CannotCancel c.args.state.now uid id c.args.at)
    c.cancellation_of.result
    (λ e h. cannot_cancel_there uid part c.args.state.now same id c.args.at e
    (subst (λ (u : List ℕ). CannotCancel part u id c.args.at e) c.in_ok-items.ensures.uid h))
    c.cancellation_of.ensures.fault
