use Rattle.std.proofs.Common.{◌∙◌, ℕ, List, ap, subst, false, Option}
use Rattle.std.specs.Option.{option_copied}
use Rattle.std.proofs.lemmas.Result.{err_from_is_err_and}
use Rattle.itip_moment.specs.declared.moment.Moment.{Moment}
use Rattle.itip_todo.specs.Parts.{Parts}
use Rattle.itip_items.specs.declared.item.Item.{Item}
use Rattle.itip_report.specs.NextSequence.{IsNext}
use Rattle.itip_writing.specs.Cancelling.{IsCancelOf, cancelled}
use Rattle.itip_writing.specs.Sent.{brief_parts}
use Rattle.itip_writing.proofs.CancelCauses.{cancel_of, none_cancelled, unread_cancelled}
use Rattle.itip_writing.proofs.cancel.cancellation_of.Goals as goal

pub returns-in_err-item-clause-fault : goal.returns-in_err-item-clause-fault
returns-in_err-item-clause-fault c =
    let p = err_from_is_err_and c.from_residual.result c.from_residual.ensures.1 in
    rw (p.1, p.2) (none_cancelled c.args.items.now.items c.args.items.now.uid (option_copied c.args.id) c.args.at c.in_err-item.field-0.0
    c.in_err-item.ensures.none)

pub returns-in_default-clause-fault : goal.returns-in_default-clause-fault
returns-in_default-clause-fault c = record {
  there = record { item = c.in_ok-item.item.now; governs = c.in_ok-item.ensures.item };
  last = subst (λ (next : Option ℕ). IsNext c.args.items.now.items c.args.items.now.uid next) c.in_default.is c.requires;
}

pub returns-in_err-octets-clause-fault : goal.returns-in_err-octets-clause-fault
returns-in_err-octets-clause-fault c =
    let items : List Item = c.args.items.now.items in
    let uid : List ℕ = c.args.items.now.uid in
    let id : Option Moment = option_copied c.args.id in
    let item : Item = c.in_ok-item.item.now in
    let n : ℕ = c.in-Some.sequence in
    let parts : Parts = brief_parts c.cancelled-brief.result in
    let is : IsCancelOf items uid id c.args.at parts =
    cancel_of items uid id c.args.at item c.in_ok-item.ensures.item n
    (subst (λ (next : Option ℕ). IsNext items uid next) c.in-Some.is c.requires) parts
    (c.cancelled-brief.ensures ∙ ap (λ (u : List ℕ). cancelled u item id false n c.args.at) c.uid.ensures) in
    let p = err_from_is_err_and c.from_residual-in_err-octets.result c.from_residual-in_err-octets.ensures.1 in
    rw (p.1, p.2) (unread_cancelled items uid id c.args.at parts is c.in_err-octets.field-0.0 c.in_err-octets.ensures.unread)

pub returns-clause-found : goal.returns-clause-found
returns-clause-found c =
    let items : List Item = c.args.items.now.items in
    let uid : List ℕ = c.args.items.now.uid in
    let id : Option Moment = option_copied c.args.id in
    let item : Item = c.in_ok-item.item.now in
    let n : ℕ = c.in-Some.sequence in
    let parts : Parts = brief_parts c.cancelled-brief.result in record {
      parts = parts;
      cancels = cancel_of items uid id c.args.at item c.in_ok-item.ensures.item n
          (subst (λ (next : Option ℕ). IsNext items uid next) c.in-Some.is c.requires) parts
          (c.cancelled-brief.ensures ∙ ap (λ (u : List ℕ). cancelled u item id false n c.args.at) c.uid.ensures);
      sent = c.in_ok-octets.ensures.sent;
    }

pub returns-clause-lacking : goal.returns-clause-lacking
returns-clause-lacking c =
    record { item = c.in_ok-item.item.now; governs = c.in_ok-item.ensures.item; lacking_is = c.in_ok-lacking.ensures }
