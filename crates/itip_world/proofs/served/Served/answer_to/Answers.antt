use Rattle.std.proofs.Common.{subst, List, ℕ}
use Rattle.std.specs.Io.KnownBytes.{Appends}
use Rattle.itip_script.specs.Stream.{wish_of}
use Rattle.itip_streams.specs.Written.{AppendsFront}
use Rattle.itip_world.specs.Serving.{Tells, TellsFront}
use Rattle.itip_world.proofs.Runnings.{on_err}
use Rattle.itip_world.proofs.Streaming.{tells_one, tells_some}
use Rattle.itip_world.proofs.served.Served.answer_to.Goals as goal

pub returns-in_err-refused-clause-front : goal.returns-in_err-refused-clause-front
returns-in_err-refused-clause-front g c =
    on_err c.from_residual.result
    (subst (λ (kept : List ℕ). TellsFront c.args.self.now.window (wish_of c.args.asked.now) c.args.self.now.desks.items
    (g.R.Read.remaining c.args.reader.now) (g.R.Read.remaining c.reply.new.reader) (g.W.Write.contents c.args.writer.now)
    (g.W.Write.contents c.reply.new.writer) kept)
    c.new-kept.ensures.items c.in_err-refused.ensures.front)

pub returns-in_err-write_at_once-clause-front : goal.returns-in_err-write_at_once-clause-front
returns-in_err-write_at_once-clause-front g c =
    on_err c.from_residual-in_err-write_at_once.result
    (tells_some _ _ _ _ _ _ _ _ _ _
    (subst (λ (kept : List ℕ). Tells c.args.self.now.window (wish_of c.args.asked.now) c.args.self.now.desks.items
    c.reply.new.self.desks.items (g.R.Read.remaining c.args.reader.now) (g.R.Read.remaining c.reply.new.reader)
    (g.W.Write.contents c.args.writer.now) (g.W.Write.contents c.reply.new.writer) kept c.reply.new.kept.items c.in_ok-refused.refused)
    c.new-kept.ensures.items c.in_ok-refused.ensures.tells) _
    (subst (λ (t : List ℕ). AppendsFront (g.W.Write.contents c.reply.new.writer) (g.W.Write.contents c.write_at_once.new.writer) t)
    c.as_slice.ensures.value c.in_err-write_at_once.ensures.front))

pub returns-clause-one : goal.returns-clause-one
returns-clause-one g c =
    tells_one _ _ _ _ _ _ _ _ _ _
    (subst (λ (kept : List ℕ). Tells c.args.self.now.window (wish_of c.args.asked.now) c.args.self.now.desks.items
    c.reply.new.self.desks.items (g.R.Read.remaining c.args.reader.now) (g.R.Read.remaining c.reply.new.reader)
    (g.W.Write.contents c.args.writer.now) (g.W.Write.contents c.reply.new.writer) kept c.reply.new.kept.items c.in_ok-refused.refused)
    c.new-kept.ensures.items c.in_ok-refused.ensures.tells) _
    (subst (λ (t : List ℕ). Appends (g.W.Write.contents c.reply.new.writer) (g.W.Write.contents c.write_at_once.new.writer) t)
    c.as_slice.ensures.value c.in_ok-write_at_once.ensures.all) c.is_some.result c.is_some.ensures
