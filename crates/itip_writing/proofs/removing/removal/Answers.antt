use Rattle.std.proofs.Common.{ℕ, List, map, subst}
use Rattle.std.specs.Option.{option_copied}
use Rattle.std.specs.String.{string_bytes}
use Rattle.itip_items.specs.declared.item.Item.{Item}
use Rattle.itip_state.specs.Kept.{KeepSame}
use Rattle.itip_state.proofs.Members.{if_ok_then}
use Rattle.itip_writing.specs.Removing.{CannotRemove, IsRemoving}
use Rattle.itip_writing.specs.Replying.{IsLacking}
use Rattle.itip_writing.proofs.CancelAlike.{cannot_remove_there, lacking_there, removing_there}
use Rattle.itip_writing.proofs.Faults.{if_err_then}
use Rattle.itip_writing.proofs.UidAlike.{next_in_part, same_part}
use Rattle.itip_writing.proofs.removing.removal.Goals as goal

pub removal_of-requires : goal.removal_of-requires
removal_of-requires c =
    next_in_part c.args.uid.now c.in_ok-items.items.uid c.in_ok-items.items.items c.args.state.now c.in_ok-items.ensures.items
    c.in_ok-items.ensures.uid c.next_seq.result c.next_seq.ensures

pub returns-clause-found : goal.returns-clause-found
returns-clause-found c =
    let uid : List ℕ = c.args.uid.now in
    let id = option_copied c.args.id in
    let addresses : List (List ℕ) = map string_bytes c.args.attendees.now in
    let part : List Item = c.in_ok-items.items.items in
    let same : KeepSame uid part c.args.state.now = same_part uid part c.args.state.now c.in_ok-items.ensures.items in
    if_ok_then (λ message. IsRemoving part c.in_ok-items.items.uid id addresses c.args.at message.octets.items)
    (λ message. IsRemoving c.args.state.now uid id addresses c.args.at message.octets.items) c.removal_of.result
    (λ message is. removing_there uid part c.args.state.now same id addresses c.args.at message.octets.items
    (subst (λ (u : List ℕ). IsRemoving part u id addresses c.args.at message.octets.items) c.in_ok-items.ensures.uid is))
    c.removal_of.ensures.found

pub returns-clause-lacking : goal.returns-clause-lacking
returns-clause-lacking c =
    let uid : List ℕ = c.args.uid.now in
    let id = option_copied c.args.id in
    let part : List Item = c.in_ok-items.items.items in
    let same : KeepSame uid part c.args.state.now = same_part uid part c.args.state.now c.in_ok-items.ensures.items in
    if_ok_then (λ message. IsLacking part c.in_ok-items.items.uid id message.lacking.items)
    (λ message. IsLacking c.args.state.now uid id message.lacking.items) c.removal_of.result
    (λ message is. lacking_there uid part c.args.state.now same id message.lacking.items
    (subst (λ (u : List ℕ). IsLacking part u id message.lacking.items) c.in_ok-items.ensures.uid is))
    c.removal_of.ensures.lacking

pub returns-clause-fault : goal.returns-clause-fault
returns-clause-fault c =
    let uid : List ℕ = c.args.uid.now in
    let id = option_copied c.args.id in
    let addresses : List (List ℕ) = map string_bytes c.args.attendees.now in
    let part : List Item = c.in_ok-items.items.items in
    let same : KeepSame uid part c.args.state.now = same_part uid part c.args.state.now c.in_ok-items.ensures.items in
    if_err_then (CannotRemove part c.in_ok-items.items.uid id addresses c.args.at)
    (CannotRemove c.args.state.now uid id addresses c.args.at) c.removal_of.result
    (λ e h. cannot_remove_there uid part c.args.state.now same id addresses c.args.at e
    (subst (λ (u : List ℕ). CannotRemove part u id addresses c.args.at e) c.in_ok-items.ensures.uid h))
    c.removal_of.ensures.fault
