use Rattle.std.proofs.Common.{subst, List}
use Rattle.std.specs.Io.KnownBytes.{Appends}
use Rattle.itip_items.specs.declared.item.Item.{Item}
use Rattle.itip_desk.specs.DeltaFormat.{delta_octets}
use Rattle.itip_streams.specs.Written.{AppendsFront}
use Rattle.itip_inbox.specs.Compaction.{IsCompaction}
use Rattle.itip_inbox.proofs.OfInbox.{unread_front}
use Rattle.itip_inbox.proofs.Outputs.{on_err, compaction_written, compaction_front}
use Rattle.itip_inbox.proofs.compaction.compact.Goals as goal

pub returns-in_err-inbox-clause-front : goal.returns-in_err-inbox-clause-front
returns-in_err-inbox-clause-front g c =
    on_err c.from_residual.result
    (unread_front g.R.Read.remaining c.args.sources.items IsCompaction (g.W.Write.contents c.args.writer.now))

pub returns-in_err-items-clause-front : goal.returns-in_err-items-clause-front
returns-in_err-items-clause-front g c =
    on_err c.from_residual-in_err-items.result
    (unread_front g.R.Read.remaining c.args.sources.items IsCompaction (g.W.Write.contents c.args.writer.now))

pub returns-in_err-write_items-clause-front : goal.returns-in_err-write_items-clause-front
returns-in_err-write_items-clause-front g c =
    on_err c.from_residual-in_err-write_items.result
    (compaction_front g.R.Read.remaining c.args.sources.items (g.W.Write.contents c.args.writer.now)
    (g.W.Write.contents c.write_items.new.writer) c.in_ok-inbox.inbox.state c.in_ok-inbox.inbox.refusals
    c.in_ok-inbox.ensures.holds c.in_ok-items.items.items c.in_ok-items.ensures
    (subst (λ (items : List Item). AppendsFront (g.W.Write.contents c.args.writer.now) (g.W.Write.contents c.write_items.new.writer)
    (delta_octets items)) c.as_slice.ensures.value c.in_err-write_items.ensures.front))

pub returns-clause-output : goal.returns-clause-output
returns-clause-output g c = λ inputs are.
    compaction_written (g.W.Write.contents c.args.writer.now) (g.W.Write.contents c.write_items.new.writer) inputs
    c.in_ok-inbox.inbox.state c.in_ok-items.items.items c.in_ok-inbox.inbox.refusals c.has_refusals-is_refused.result
    (c.in_ok-inbox.ensures.holds inputs are) c.in_ok-items.ensures
    (subst (λ (items : List Item). Appends (g.W.Write.contents c.args.writer.now) (g.W.Write.contents c.write_items.new.writer)
    (delta_octets items)) c.as_slice.ensures.value c.in_ok-write_items.ensures.all)
    c.has_refusals-is_refused.ensures
