use Rattle.std.proofs.Common.{[], inl, refl}
use Rattle.std.proofs.lemmas.Result.{on_err_weaker}
use Rattle.itip_script.specs.Orders.{order_of}
use Rattle.itip_script.specs.Stream.{body_of, posts, saves}
use Rattle.itip_state.proofs.Members.{if_ok_then}
use Rattle.itip_streams.proofs.Writing.{front_none}
use Rattle.itip_world.specs.Running.{answer_of}
use Rattle.itip_world.proofs.Runnings.{on_err}
use Rattle.itip_world.proofs.Telling.{none_behind, tells_told, tells_taken, tells_arrived, tells_no_command, tells_nothing, tells_look}
use Rattle.itip_world.proofs.Telling.{front_of_question}
use Rattle.itip_world.proofs.served.Served.reply.Goals as goal

-- ---- a message

pub returns-in_err-body-in-Take-clause-front : goal.returns-in_err-body-in-Take-clause-front
returns-in_err-body-in-Take-clause-front g c =
    on_err c.from_residual.result (inl (front_none (g.W.Write.contents c.args.writer.now) c.args.kept.now.items))

pub returns-in_err-take-in-Take-clause-front : goal.returns-in_err-take-in-Take-clause-front
returns-in_err-take-in-Take-clause-front g c =
    on_err c.from_residual-in_err-take-in-Take.result (inl (front_none (g.W.Write.contents c.args.writer.now) c.args.kept.now.items))

pub returns-in_ok-take-in-Take-clause-tells : goal.returns-in_ok-take-in-Take-clause-tells
returns-in_ok-take-in-Take-clause-tells g c =
    let asked = c.args.self.now in
    rw c.in-Take.is
    (tells_taken asked.window asked.desks.items (g.W.Write.contents c.args.writer.now) c.args.kept.now.items c.in-Take.desk c.in-Take.octets
    c.take.new.self.desks.items (g.R.Read.remaining c.args.reader.now) (g.R.Read.remaining c.read_body.new.reader)
    (body_of c.in_ok-body-in-Take.body) c.in_ok-body-in-Take.ensures.reads (answer_of c.in_ok-take-in-Take.field-0)
    (c.in_ok-take-in-Take.ensures.serves asked.window) c.told.new.kept.items c.told.result c.told.ensures.told)

pub returns-in_ok-take-in-Take-clause-front : goal.returns-in_ok-take-in-Take-clause-front
returns-in_ok-take-in-Take-clause-front g c =
    on_err c.told.result (inl (front_none (g.W.Write.contents c.args.writer.now) c.args.kept.now.items))

-- ---- a delta

pub returns-in_err-body-in-Arrive-clause-front : goal.returns-in_err-body-in-Arrive-clause-front
returns-in_err-body-in-Arrive-clause-front g c =
    on_err c.from_residual-in_err-body-in-Arrive.result (inl (front_none (g.W.Write.contents c.args.writer.now) c.args.kept.now.items))

pub returns-in_err-arrive-in-Arrive-clause-front : goal.returns-in_err-arrive-in-Arrive-clause-front
returns-in_err-arrive-in-Arrive-clause-front g c =
    on_err c.from_residual-in_err-arrive-in-Arrive.result (inl (front_none (g.W.Write.contents c.args.writer.now) c.args.kept.now.items))

pub returns-in_ok-arrive-in-Arrive-clause-tells : goal.returns-in_ok-arrive-in-Arrive-clause-tells
returns-in_ok-arrive-in-Arrive-clause-tells g c =
    let asked = c.args.self.now in
    rw c.in-Arrive.is
    (tells_arrived asked.window asked.desks.items (g.W.Write.contents c.args.writer.now) c.args.kept.now.items c.in-Arrive.desk
    c.in-Arrive.octets c.arrive.new.self.desks.items (g.R.Read.remaining c.args.reader.now)
    (g.R.Read.remaining c.read_body-in-Arrive.new.reader) (body_of c.in_ok-body-in-Arrive.body) c.in_ok-body-in-Arrive.ensures.reads
    (answer_of c.in_ok-arrive-in-Arrive.field-0) (c.in_ok-arrive-in-Arrive.ensures.serves asked.window) c.told-in-Arrive.new.kept.items
    c.told-in-Arrive.result c.told-in-Arrive.ensures.told)

pub returns-in_ok-arrive-in-Arrive-clause-front : goal.returns-in_ok-arrive-in-Arrive-clause-front
returns-in_ok-arrive-in-Arrive-clause-front g c =
    on_err c.told-in-Arrive.result (inl (front_none (g.W.Write.contents c.args.writer.now) c.args.kept.now.items))

-- ---- what changed, and a file

pub returns-in_err-post-in-Post-clause-front : goal.returns-in_err-post-in-Post-clause-front
returns-in_err-post-in-Post-clause-front g c =
    on_err c.from_residual-in_err-post-in-Post.result (inl (front_none (g.W.Write.contents c.args.writer.now) c.args.kept.now.items))

pub returns-in_ok-post-in-Post-clause-tells : goal.returns-in_ok-post-in-Post-clause-tells
returns-in_ok-post-in-Post-clause-tells g c =
    let asked = c.args.self.now in
    let input = g.R.Read.remaining c.args.reader.now in
    let wish = posts c.in-Post.desk c.in-Post.since in
    rw c.in-Post.is
    (tells_told asked.window asked.desks.items (g.W.Write.contents c.args.writer.now) c.args.kept.now.items wish asked.desks.items input
    input [] (none_behind wish input refl) (answer_of c.in_ok-post-in-Post.field-0) (c.in_ok-post-in-Post.ensures.serves asked.window)
    c.told-in-Post.new.kept.items c.told-in-Post.result c.told-in-Post.ensures.told)

pub returns-in_ok-post-in-Post-clause-front : goal.returns-in_ok-post-in-Post-clause-front
returns-in_ok-post-in-Post-clause-front g c =
    on_err c.told-in-Post.result (inl (front_none (g.W.Write.contents c.args.writer.now) c.args.kept.now.items))

pub returns-in_err-save-in-Save-clause-front : goal.returns-in_err-save-in-Save-clause-front
returns-in_err-save-in-Save-clause-front g c =
    on_err c.from_residual-in_err-save-in-Save.result (inl (front_none (g.W.Write.contents c.args.writer.now) c.args.kept.now.items))

pub returns-in_ok-save-in-Save-clause-tells : goal.returns-in_ok-save-in-Save-clause-tells
returns-in_ok-save-in-Save-clause-tells g c =
    let asked = c.args.self.now in
    let input = g.R.Read.remaining c.args.reader.now in
    let wish = saves c.in-Save.desk c.in-Save.file.now in
    rw c.in-Save.is
    (tells_told asked.window asked.desks.items (g.W.Write.contents c.args.writer.now) c.args.kept.now.items wish asked.desks.items input
    input [] (none_behind wish input refl) (answer_of c.in_ok-save-in-Save.field-0) (c.in_ok-save-in-Save.ensures.serves asked.window)
    c.told-in-Save.new.kept.items c.told-in-Save.result c.told-in-Save.ensures.told)

pub returns-in_ok-save-in-Save-clause-front : goal.returns-in_ok-save-in-Save-clause-front
returns-in_ok-save-in-Save-clause-front g c =
    on_err c.told-in-Save.result (inl (front_none (g.W.Write.contents c.args.writer.now) c.args.kept.now.items))

-- ---- a question

pub reply-requires : goal.reply-requires
reply-requires g c = rw c.in-Question.is at c.requires

pub returns-in-Question-clause-tells : goal.returns-in-Question-clause-tells
returns-in-Question-clause-tells g c =
    let asked = c.args.self.now in
    let order = order_of c.in-Question.command in
    rw c.in-Question.is
    (if_ok_then _ _ c.reply.result
    (λ why look. tells_look asked.window asked.desks.items (g.W.Write.contents c.args.writer.now) c.args.kept.now.items order
    (g.R.Read.remaining c.args.reader.now) (g.W.Write.contents c.reply.new.writer) c.reply.new.kept.items why
    (rw c.in-Question.is at c.requires) look)
    (rw (c.look.ensures.window, c.look.ensures.desks) at c.reply.ensures.replies))

pub returns-in-Question-clause-front : goal.returns-in-Question-clause-front
returns-in-Question-clause-front g c =
    let asked = c.args.self.now in
    let order = order_of c.in-Question.command in
    rw c.in-Question.is
    (on_err_weaker c.reply.result
    (front_of_question asked.window asked.desks.items (g.W.Write.contents c.args.writer.now) c.args.kept.now.items order
    (g.R.Read.remaining c.args.reader.now) (g.W.Write.contents c.reply.new.writer) (rw c.in-Question.is at c.requires))
    (rw (c.look.ensures.window, c.look.ensures.desks) at c.reply.ensures.front))

-- ---- any other line

pub returns-in_err-pass_octets-in-Malformed-clause-front : goal.returns-in_err-pass_octets-in-Malformed-clause-front
returns-in_err-pass_octets-in-Malformed-clause-front g c =
    on_err c.from_residual-in_err-pass_octets-in-Malformed.result
    (inl (front_none (g.W.Write.contents c.args.writer.now) c.args.kept.now.items))

pub returns-in_ok-pass_octets-in-Malformed-clause-tells : goal.returns-in_ok-pass_octets-in-Malformed-clause-tells
returns-in_ok-pass_octets-in-Malformed-clause-tells g c =
    let asked = c.args.self.now in
    rw c.in-Malformed.is
    (tells_no_command asked.window asked.desks.items (g.W.Write.contents c.args.writer.now) c.args.kept.now.items c.in-Malformed.octets
    (g.R.Read.remaining c.args.reader.now) (g.R.Read.remaining c.pass_octets.new.reader) c.in_ok-pass_octets-in-Malformed.field-0
    c.in_ok-pass_octets-in-Malformed.ensures.passes c.told-in-Malformed.new.kept.items c.told-in-Malformed.result
    c.told-in-Malformed.ensures.told)

pub returns-in_ok-pass_octets-in-Malformed-clause-front : goal.returns-in_ok-pass_octets-in-Malformed-clause-front
returns-in_ok-pass_octets-in-Malformed-clause-front g c =
    on_err c.told-in-Malformed.result (inl (front_none (g.W.Write.contents c.args.writer.now) c.args.kept.now.items))

pub returns-in-Empty-clause-tells : goal.returns-in-Empty-clause-tells
returns-in-Empty-clause-tells g c =
    rw c.in-Empty.is
    (tells_nothing c.args.self.now.window c.args.self.now.desks.items (g.W.Write.contents c.args.writer.now) c.args.kept.now.items
    (g.R.Read.remaining c.args.reader.now))
