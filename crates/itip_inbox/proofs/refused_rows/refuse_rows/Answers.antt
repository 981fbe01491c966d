use Rattle.std.proofs.Common.{List, ℕ, subst, ◌∙◌}
use Rattle.std.specs.Io.KnownBytes.{Appends}
use Rattle.std.proofs.lemmas.Result.{on_ok_weaker, on_err_weaker}
use Rattle.itip_desk.specs.Refusals.{refused_text}
use Rattle.itip_streams.specs.Written.{AppendsFront}
use Rattle.itip_streams.proofs.Writing.{front_none}
use Rattle.itip_inbox.proofs.Outputs.{on_err}
use Rattle.itip_inbox.proofs.refused_rows.refuse_rows.Goals as goal

pub returns-in_err-text-clause-front : goal.returns-in_err-text-clause-front
returns-in_err-text-clause-front g c = on_err c.from_residual.result (front_none (g.W.Write.contents c.args.writer.now) (refused_text 31))

pub returns-clause-all : goal.returns-clause-all
returns-clause-all g c =
    on_ok_weaker c.write_output.result
    (subst (λ (t : List ℕ). Appends (g.W.Write.contents c.args.writer.now) (g.W.Write.contents c.write_output.new.writer) t)
    (c.as_slice.ensures.value ∙ c.in_ok-text.ensures)) c.write_output.ensures.all

pub returns-clause-front : goal.returns-clause-front
returns-clause-front g c =
    on_err_weaker c.write_output.result
    (subst (λ (t : List ℕ). AppendsFront (g.W.Write.contents c.args.writer.now) (g.W.Write.contents c.write_output.new.writer) t)
    (c.as_slice.ensures.value ∙ c.in_ok-text.ensures)) c.write_output.ensures.front
