use Rattle.std.proofs.Common.{ℕ, List, subst}
use Rattle.std.specs.Option.{option_copied}
use Rattle.itip_items.specs.declared.item.Item.{Item}
use Rattle.itip_state.specs.Kept.{KeepSame}
use Rattle.itip_state.proofs.Members.{if_ok_then}
use Rattle.itip_writing.specs.Refreshing.{CannotRefresh, IsRefresh}
use Rattle.itip_writing.specs.Replying.{IsLacking}
use Rattle.itip_writing.proofs.CancelAlike.{lacking_there}
use Rattle.itip_writing.proofs.Faults.{if_err_then}
use Rattle.itip_writing.proofs.ReplyAlike.{cannot_refresh_there, refresh_there}
use Rattle.itip_writing.proofs.UidAlike.{same_part}
use Rattle.itip_writing.proofs.refresh.refresh_of.Goals as goal

pub returns-clause-found : goal.returns-clause-found
returns-clause-found c =
    let uid : List ℕ = c.args.uid.now in
    let id = option_copied c.args.id in
    let part : List Item = c.in_ok-items.items.items in
    let same : KeepSame uid part c.args.state.now = same_part uid part c.args.state.now c.in_ok-items.ensures.items in
    if_ok_then (λ message. IsRefresh part c.in_ok-items.items.uid id c.args.attendee.now c.args.at message.octets.items)
    (λ message. IsRefresh c.args.state.now uid id c.args.attendee.now c.args.at message.octets.items) c.refresh_among.result
    (λ message is. refresh_there uid part c.args.state.now same id c.args.attendee.now c.args.at message.octets.items
    (subst (λ (u : List ℕ). IsRefresh part u id c.args.attendee.now c.args.at message.octets.items) c.in_ok-items.ensures.uid is))
    c.refresh_among.ensures.found

pub returns-clause-lacking : goal.returns-clause-lacking
returns-clause-lacking c =
    let uid : List ℕ = c.args.uid.now in
    let id = option_copied c.args.id in
    let part : List Item = c.in_ok-items.items.items in
    let same : KeepSame uid part c.args.state.now = same_part uid part c.args.state.now c.in_ok-items.ensures.items in
    if_ok_then (λ message. IsLacking part c.in_ok-items.items.uid id message.lacking.items)
    (λ message. IsLacking c.args.state.now uid id message.lacking.items) c.refresh_among.result
    (λ message is. lacking_there uid part c.args.state.now same id message.lacking.items
    (subst (λ (u : List ℕ). IsLacking part u id message.lacking.items) c.in_ok-items.ensures.uid is))
    c.refresh_among.ensures.lacking

pub returns-clause-fault : goal.returns-clause-fault
returns-clause-fault c =
    let uid : List ℕ = c.args.uid.now in
    let id = option_copied c.args.id in
    let part : List Item = c.in_ok-items.items.items in
    let same : KeepSame uid part c.args.state.now = same_part uid part c.args.state.now c.in_ok-items.ensures.items in
    if_err_then (CannotRefresh part c.in_ok-items.items.uid id c.args.attendee.now c.args.at)
    (CannotRefresh c.args.state.now uid id c.args.attendee.now c.args.at) c.refresh_among.result
    (λ e h. cannot_refresh_there uid part c.args.state.now same id c.args.attendee.now c.args.at e
    (subst (λ (u : List ℕ). CannotRefresh part u id c.args.attendee.now c.args.at e) c.in_ok-items.ensures.uid h))
    c.refresh_among.ensures.fault
