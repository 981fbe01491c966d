use Rattle.std.proofs.Common.{ℕ, List, subst}
use Rattle.std.specs.Option.{option_copied}
use Rattle.itip_items.specs.declared.item.Item.{Item}
use Rattle.itip_state.specs.Kept.{KeepSame}
use Rattle.itip_state.proofs.Members.{if_ok_then}
use Rattle.itip_writing.specs.Replying.{CannotReply, IsLacking, IsReply}
use Rattle.itip_writing.proofs.CancelAlike.{lacking_there}
use Rattle.itip_writing.proofs.Faults.{if_err_then}
use Rattle.itip_writing.proofs.ReplyAlike.{cannot_reply_there, reply_there}
use Rattle.itip_writing.proofs.UidAlike.{same_part}
use Rattle.itip_writing.proofs.reply.reply_to.Goals as goal

pub returns-clause-found : goal.returns-clause-found
returns-clause-found c =
    let uid : List ℕ = c.args.uid.now in
    let id = option_copied c.args.id in
    let part : List Item = c.in_ok-items.items.items in
    let same : KeepSame uid part c.args.state.now = same_part uid part c.args.state.now c.in_ok-items.ensures.items in
    if_ok_then (λ message. IsReply part c.in_ok-items.items.uid id c.args.answer.now c.args.at message.octets.items)
    (λ message. IsReply c.args.state.now uid id c.args.answer.now c.args.at message.octets.items) c.reply_of.result
    (λ message is. reply_there uid part c.args.state.now same id c.args.answer.now c.args.at message.octets.items
    (subst (λ (u : List ℕ). IsReply part u id c.args.answer.now c.args.at message.octets.items) c.in_ok-items.ensures.uid is))
    c.reply_of.ensures.found

pub returns-clause-lacking : goal.returns-clause-lacking
returns-clause-lacking c =
    let uid : List ℕ = c.args.uid.now in
    let id = option_copied c.args.id in
    let part : List Item = c.in_ok-items.items.items in
    let same : KeepSame uid part c.args.state.now = same_part uid part c.args.state.now c.in_ok-items.ensures.items in
    if_ok_then (λ message. IsLacking part c.in_ok-items.items.uid id message.lacking.items)
    (λ message. IsLacking c.args.state.now uid id message.lacking.items) c.reply_of.result
    (λ message is. lacking_there uid part c.args.state.now same id message.lacking.items
    (subst (λ (u : List ℕ). IsLacking part u id message.lacking.items) c.in_ok-items.ensures.uid is))
    c.reply_of.ensures.lacking

pub returns-clause-fault : goal.returns-clause-fault
returns-clause-fault c =
    let uid : List ℕ = c.args.uid.now in
    let id = option_copied c.args.id in
    let part : List Item = c.in_ok-items.items.items in
    let same : KeepSame uid part c.args.state.now = same_part uid part c.args.state.now c.in_ok-items.ensures.items in
    if_err_then (CannotReply part c.in_ok-items.items.uid id c.args.answer.now c.args.at)
    (CannotReply c.args.state.now uid id c.args.answer.now c.args.at) c.reply_of.result
    (λ e h. cannot_reply_there uid part c.args.state.now same id c.args.answer.now c.args.at e
    (subst (λ (u : List ℕ). CannotReply part u id c.args.answer.now c.args.at e) c.in_ok-items.ensures.uid h))
    c.reply_of.ensures.fault
