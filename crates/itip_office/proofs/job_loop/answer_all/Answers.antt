use Rattle.itip_office.proofs.job_loop.answer_all.Goals as goal

pub loop-init : goal.loop-init
loop-init g c = λ are. are

pub loop-preserved : goal.loop-preserved
loop-preserved g c = λ are. c.in_ok-answer_one.ensures.answered (c.loop.invariant are)
