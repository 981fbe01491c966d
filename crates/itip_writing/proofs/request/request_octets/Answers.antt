use Rattle.std.proofs.Common.{◌∙◌, sym, List, ℕ, subst}
use Rattle.std.proofs.lemmas.Result.{err_from_is_err_and}
use Rattle.itip_writing.specs.Sent.{IsReadable}
use Rattle.itip_writing.proofs.Requested.{have_sequences, request_text, unread_cause}
use Rattle.itip_writing.proofs.Twins.{twins_there, none_there}
use Rattle.itip_writing.proofs.request.request_octets.Goals as goal

pub returns-in_err-all-clause-fault : goal.returns-in_err-all-clause-fault
returns-in_err-all-clause-fault c =
    let p = err_from_is_err_and c.from_residual.result c.from_residual.ensures.1 in
    rw (p.1, p.2) c.in_err-all.ensures.fault

pub returns-then-twins-clause-fault : goal.returns-then-twins-clause-fault
returns-then-twins-clause-fault c = (
  have_sequences c.args.state.now c.args.at c.args.draft.now c.in_ok-all.all.items c.in_ok-all.ensures.found,
  twins_there c.args.draft.now (sym c.in_ok-twins.ensures ∙ c.if-twins.true),
)

pub returns-in_err-octets-clause-fault : goal.returns-in_err-octets-clause-fault
returns-in_err-octets-clause-fault c =
    let p = err_from_is_err_and c.from_residual-in_err-octets.result c.from_residual-in_err-octets.ensures.1 in
    let apart = none_there c.args.draft.now (sym c.in_ok-twins.ensures ∙ c.if-twins.false) in
    rw (p.1, p.2) (unread_cause c.args.state.now c.args.draft.now c.args.at c.in_err-octets.field-0.0 c.in_ok-text.text.items
    (request_text c.args.state.now c.args.draft.now c.args.at c.in_ok-all.all.items c.deref.result.now c.in_ok-text.text.items
    c.in_ok-all.ensures.found apart c.deref.ensures.value c.in_ok-text.ensures) c.in_err-octets.ensures.refused)

pub returns-clause-found : goal.returns-clause-found
returns-clause-found c =
    let apart = none_there c.args.draft.now (sym c.in_ok-twins.ensures ∙ c.if-twins.false) in
    let same = c.in_ok-octets.ensures.same in record {
      text = request_text c.args.state.now c.args.draft.now c.args.at c.in_ok-all.all.items c.deref.result.now
          c.in_ok-octets.octets.items c.in_ok-all.ensures.found apart c.deref.ensures.value (same ∙ c.in_ok-text.ensures);
      readable = subst (λ (octets : List ℕ). IsReadable octets) (sym same) c.in_ok-octets.ensures.reads;
    }
