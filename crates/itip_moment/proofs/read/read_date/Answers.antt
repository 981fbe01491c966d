use Rattle.itip_moment.proofs.read.read_date.Goals as goal

pub returns-clause-none : goal.returns-clause-none
returns-clause-none c = rw (← c.as_bytes.ensures.value) c.date.ensures.none
