use Rattle.std.proofs.Common.{sym}
use Rattle.std.proofs.lemmas.List.{take_rest}
use Rattle.itip_message.proofs.BegunMessages.{line_begins, first_passed}
use Rattle.itip_message.proofs.begun.line_front.Goals as goal

pub loop-rest-init : goal.loop-rest-init
loop-rest-init c = line_begins c.args.line.now

pub loop-rest-preserved : goal.loop-rest-preserved
loop-rest-preserved c =
    rw take_rest (first_passed c.args.line.now c.loop-rest.said.now c.loop-rest.is_behind c.loop-rest.rest.now c.said_with-said.result.now
    c.is_left_out.result c.loop-rest.invariant (sym (rw take_rest at c.if-is_empty.ensures)) (rw take_rest at c.is_left_out.ensures)
    c.said_with-said.ensures.said c.said_with-said.ensures.out c.said_with-said.ensures.same)
