use Rattle.itip_world.specs.Worlds.{RefusesEvent}
use Rattle.itip_world.specs.Running.{answer_of}
use Rattle.itip_world.proofs.Answering.{answers_event, answers_refusal}
use Rattle.itip_world.proofs.asked.Desks.happen.Goals as goal

pub returns-in-Ok-clause-answers : goal.returns-in-Ok-clause-answers
returns-in-Ok-clause-answers c =
    answers_event c.args.self.now.world c.step.new.self c.args.event.now c.in-Ok.outcome (answer_of c.answer_to.result)
    c.in-Ok.ensures.step c.answer_to.ensures.tick c.answer_to.ensures.answer

pub returns-in-Err-Refused-clause-answers : goal.returns-in-Err-Refused-clause-answers
returns-in-Err-Refused-clause-answers c = λ window order asks.
    let refuses : RefusesEvent c.args.self.now.world c.args.event.now c.in-Err-Refused.refusal =
    rw c.in-Err-Refused.field-0-is at c.in-Err-Refused.ensures.cause in
    answers_refusal c.args.self.now.world c.step.new.self c.args.event.now c.in-Err-Refused.ensures.err window order asks
    c.in-Err-Refused.refusal refuses
