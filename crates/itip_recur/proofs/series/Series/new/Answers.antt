use Rattle.itip_recur.proofs.series.Series.new.Goals as goal

pub returns-clause-exdates : goal.returns-clause-exdates
returns-clause-exdates c = rw c.from_vec.ensures (rw c.into_vec.ensures at c.in_ok-exdates.ensures)
