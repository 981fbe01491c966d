use Rattle.std.proofs.Common.{subst, List, ℕ}
use Rattle.std.specs.Io.KnownBytes.{Appends}
use Rattle.itip_streams.specs.Written.{AppendsFront}
use Rattle.itip_inbox.proofs.Outputs.{on_err}
use Rattle.itip_inbox.proofs.sent.write_message.Goals as goal

pub returns-in_err-write_output-clause-front : goal.returns-in_err-write_output-clause-front
returns-in_err-write_output-clause-front g c =
    on_err c.from_residual.result
    (subst (λ (t : List ℕ). AppendsFront (g.W.Write.contents c.args.writer.now) (g.W.Write.contents c.write_output.new.writer) t)
    c.as_slice.ensures.value c.in_err-write_output.ensures.front)

pub returns-clause-all : goal.returns-clause-all
returns-clause-all g c =
    subst (λ (t : List ℕ). Appends (g.W.Write.contents c.args.writer.now) (g.W.Write.contents c.write_output.new.writer) t)
    c.as_slice.ensures.value c.in_ok-write_output.ensures.all
