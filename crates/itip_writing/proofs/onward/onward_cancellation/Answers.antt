use Rattle.std.proofs.Common.{ℕ, List, subst}
use Rattle.itip_moment.specs.declared.moment.Moment.{Moment}
use Rattle.itip_items.specs.declared.item.Item.{Item}
use Rattle.itip_state.specs.Kept.{KeepSame}
use Rattle.itip_state.proofs.Members.{if_ok_then}
use Rattle.itip_writing.specs.Cancelling.{CannotCancelOnward, IsCancellingOnward, IsOnwardLacking}
use Rattle.itip_writing.proofs.CancelAlike.{cancelling_onward_there, cannot_cancel_onward_there, onward_lacking_there}
use Rattle.itip_writing.proofs.Faults.{if_err_then}
use Rattle.itip_writing.proofs.UidAlike.{next_in_part, same_part}
use Rattle.itip_writing.proofs.onward.onward_cancellation.Goals as goal

pub onward_of-requires : goal.onward_of-requires
onward_of-requires c =
    next_in_part c.args.uid.now c.in_ok-items.items.uid c.in_ok-items.items.items c.args.state.now c.in_ok-items.ensures.items
    c.in_ok-items.ensures.uid c.next_seq.result c.next_seq.ensures

pub returns-clause-found : goal.returns-clause-found
returns-clause-found c =
    let uid : List ℕ = c.args.uid.now in
    let from : Moment = c.args.id.now in
    let part : List Item = c.in_ok-items.items.items in
    let same : KeepSame uid part c.args.state.now = same_part uid part c.args.state.now c.in_ok-items.ensures.items in
    if_ok_then (λ message. IsCancellingOnward part c.in_ok-items.items.uid from c.args.at message.octets.items)
    (λ message. IsCancellingOnward c.args.state.now uid from c.args.at message.octets.items) c.onward_of.result
    (λ message is. cancelling_onward_there uid part c.args.state.now same from c.args.at message.octets.items
    (subst (λ (u : List ℕ). IsCancellingOnward part u from c.args.at message.octets.items) c.in_ok-items.ensures.uid is))
    c.onward_of.ensures.found

pub returns-clause-lacking : goal.returns-clause-lacking
returns-clause-lacking c =
    let uid : List ℕ = c.args.uid.now in
    let from : Moment = c.args.id.now in
    let part : List Item = c.in_ok-items.items.items in
    let same : KeepSame uid part c.args.state.now = same_part uid part c.args.state.now c.in_ok-items.ensures.items in
    if_ok_then (λ message. IsOnwardLacking part c.in_ok-items.items.uid from message.lacking.items)
    (λ message. IsOnwardLacking c.args.state.now uid from message.lacking.items) c.onward_of.result
    (λ message is. onward_lacking_there uid part c.args.state.now same from message.lacking.items
    (subst (λ (u : List ℕ). IsOnwardLacking part u from message.lacking.items) c.in_ok-items.ensures.uid is))
    c.onward_of.ensures.lacking

pub returns-clause-fault : goal.returns-clause-fault
returns-clause-fault c =
    let uid : List ℕ = c.args.uid.now in
    let from : Moment = c.args.id.now in
    let part : List Item = c.in_ok-items.items.items in
    let same : KeepSame uid part c.args.state.now = same_part uid part c.args.state.now c.in_ok-items.ensures.items in
    if_err_then (CannotCancelOnward part c.in_ok-items.items.uid from c.args.at) (CannotCancelOnward c.args.state.now uid from c.args.at)
    c.onward_of.result
    (λ e h. cannot_cancel_onward_there uid part c.args.state.now same from c.args.at e
    (subst (λ (u : List ℕ). CannotCancelOnward part u from c.args.at e) c.in_ok-items.ensures.uid h))
    c.onward_of.ensures.fault
