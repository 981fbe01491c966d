use Rattle.std.proofs.Common.{◌≡◌, ◌∙◌, sym, ap, subst, Bool, ◌||◌, List}
use Rattle.std.specs.Io.KnownBytes.{Appends}
use Rattle.itip_items.specs.declared.item.Item.{Item}
use Rattle.itip_desk.specs.DeltaFormat.{delta_octets}
use Rattle.itip_streams.specs.Written.{AppendsFront}
use Rattle.itip_streams.proofs.Writing.{front_none}
use Rattle.itip_inbox.specs.Inbox.{is_some_refused}
use Rattle.itip_inbox.proofs.NewsOf.{news_written, news_front}
use Rattle.itip_inbox.proofs.Outputs.{on_err}
use Rattle.itip_inbox.proofs.lacking.news.Goals as goal
use Rattle.itip_inbox.proofs.lacking.news.Goals.{then-is_refused, else-is_refused}

pub returns-in_err-known-clause-front : goal.returns-in_err-known-clause-front
returns-in_err-known-clause-front g c =
    on_err c.from_residual.result (λ known inputs of_than are octets refused is. front_none (g.W.Write.contents c.args.writer.now) octets)

pub returns-in_err-inbox-clause-front : goal.returns-in_err-inbox-clause-front
returns-in_err-inbox-clause-front g c =
    on_err c.from_residual-in_err-inbox.result
    (λ known inputs of_than are octets refused is. front_none (g.W.Write.contents c.args.writer.now) octets)

pub returns-in_err-items-clause-front : goal.returns-in_err-items-clause-front
returns-in_err-items-clause-front g c =
    on_err c.from_residual-in_err-items.result
    (λ known inputs of_than are octets refused is. front_none (g.W.Write.contents c.args.writer.now) octets)

pub returns-in_err-write_items-clause-front : goal.returns-in_err-write_items-clause-front
returns-in_err-write_items-clause-front g c =
    on_err c.from_residual-in_err-write_items.result (λ known inputs of_than are.
    news_front known inputs c.in_ok-known.known.state c.in_ok-inbox.inbox.state c.in_ok-items.items.items
    c.in_ok-known.known.refusals c.in_ok-inbox.inbox.refusals (c.in_ok-known.ensures.holds known of_than)
    (c.in_ok-inbox.ensures.holds inputs are) c.in_ok-items.ensures (g.W.Write.contents c.args.writer.now)
    (g.W.Write.contents c.write_items.new.writer)
    (subst (λ (items : List Item). AppendsFront (g.W.Write.contents c.args.writer.now) (g.W.Write.contents c.write_items.new.writer)
    (delta_octets items)) c.as_slice.ensures.value c.in_err-write_items.ensures.front))

pub returns-clause-output : goal.returns-clause-output
returns-clause-output g c = λ known inputs of_than are.
    let noted : Bool = is_some_refused c.in_ok-known.known.refusals in
    let some : c.if-is_refused.result ≡ (noted || is_some_refused c.in_ok-inbox.inbox.refusals) =
    elim c.if-is_refused.branch [
      | then-is_refused w ↦ w.result-is ∙ w.if-is_refused.true ∙
          ap (λ (b : Bool). b || is_some_refused c.in_ok-inbox.inbox.refusals)
          (sym w.if-is_refused.true ∙ c.has_refusals-is_refused.ensures)
      | else-is_refused w ↦ w.result-is ∙ w.has_refusals.ensures ∙
          ap (λ (b : Bool). b || is_some_refused c.in_ok-inbox.inbox.refusals)
          (sym w.if-is_refused.false ∙ c.has_refusals-is_refused.ensures)
    ] in
    news_written known inputs c.in_ok-known.known.state c.in_ok-inbox.inbox.state c.in_ok-items.items.items
    c.in_ok-known.known.refusals c.in_ok-inbox.inbox.refusals (c.in_ok-known.ensures.holds known of_than)
    (c.in_ok-inbox.ensures.holds inputs are) c.in_ok-items.ensures (g.W.Write.contents c.args.writer.now)
    (g.W.Write.contents c.write_items.new.writer) c.if-is_refused.result
    (subst (λ (items : List Item). Appends (g.W.Write.contents c.args.writer.now) (g.W.Write.contents c.write_items.new.writer)
    (delta_octets items)) c.as_slice.ensures.value c.in_ok-write_items.ensures.all) some
