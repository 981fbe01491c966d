use Rattle.std.proofs.Common.{List, ℕ, subst}
use Rattle.std.specs.Option.{option_map}
use Rattle.itip_items.specs.declared.item.Item.{Item}
use Rattle.itip_state.proofs.Members.{if_ok_then}
use Rattle.itip_report.specs.Resending.{IsResendOf}
use Rattle.itip_report.proofs.SameOf.{part_says}
use Rattle.itip_report.proofs.Resending.{none_live, resend_there, some_kept}
use Rattle.itip_report.proofs.sent_again.resend.Goals as goal

pub returns-then-not-keeps-clause-messages : goal.returns-then-not-keeps-clause-messages
returns-then-not-keeps-clause-messages c =
    none_live c.keeps.result c.args.state.now c.args.uid.now c.keeps.ensures c.if-not-keeps.true

pub returns-in_err-items-clause-succeeds : goal.returns-in_err-items-clause-succeeds
returns-in_err-items-clause-succeeds c = λ none.
    absurd (some_kept c.keeps.result c.args.state.now c.args.uid.now c.keeps.ensures c.if-not-keeps.false none)

pub returns-clause-succeeds : goal.returns-clause-succeeds
returns-clause-succeeds c = λ none.
    absurd (some_kept c.keeps.result c.args.state.now c.args.uid.now c.keeps.ensures c.if-not-keeps.false none)

pub returns-clause-messages : goal.returns-clause-messages
returns-clause-messages c =
    let uid : List ℕ = c.args.uid.now in
    let part : List Item = c.in_ok-items.items.items in
    if_ok_then (λ messages. IsResendOf part c.in_ok-items.items.uid (option_map (λ bytes. bytes.items) messages))
    (λ messages. IsResendOf c.args.state.now uid (option_map (λ bytes. bytes.items) messages)) c.resend_of.result
    (λ messages sent. resend_there uid part c.args.state.now (part_says uid part c.args.state.now c.in_ok-items.ensures.items)
    (option_map (λ bytes. bytes.items) messages)
    (subst (λ (u : List ℕ). IsResendOf part u (option_map (λ bytes. bytes.items) messages)) c.in_ok-items.ensures.uid sent))
    c.resend_of.ensures
