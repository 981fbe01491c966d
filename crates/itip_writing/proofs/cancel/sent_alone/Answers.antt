use Rattle.std.proofs.Common.{◌≡◌, ◌∙◌, ◌∷◌, [], ℕ, List, sym, subst}
use Rattle.itip_message.specs.Message.{RefusesMessage}
use Rattle.itip_report.proofs.Mapped.{if_ok_both}
use Rattle.itip_writing.specs.Cancelling.{IsSent, IsUnread}
use Rattle.itip_writing.specs.Causes.{IfUnread}
use Rattle.itip_writing.specs.Sent.{IsReadable, brief_parts}
use Rattle.itip_writing.proofs.Faults.{if_err_then}
use Rattle.itip_writing.proofs.cancel.sent_alone.Goals as goal

pub returns-clause-sent : goal.returns-clause-sent
returns-clause-sent c =
    let text : List ℕ = c.in_ok-text.text.items in
    if_ok_both c.readable.result (λ octets. octets.items ≡ text) (λ octets. IsReadable text)
    (λ octets. IsSent (brief_parts c.args.brief ∷ []) octets.items)
    (λ octets same reads. record {
      octets_are = same ∙ c.in_ok-text.ensures;
      readable = subst (λ (bytes : List ℕ). IsReadable bytes) (sym same) reads;
    }) c.readable.ensures.same c.readable.ensures.reads

pub returns-clause-unread : goal.returns-clause-unread
returns-clause-unread c =
    if_err_then (IfUnread (RefusesMessage c.in_ok-text.text.items)) (IfUnread (IsUnread (brief_parts c.args.brief ∷ []))) c.readable.result
    (λ e h. subst (λ (bytes : List ℕ). IfUnread (RefusesMessage bytes) e) c.in_ok-text.ensures h) c.readable.ensures.refused
