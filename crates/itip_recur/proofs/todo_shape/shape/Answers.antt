use Rattle.itip_recur.proofs.todo_shape.shape.Goals as goal

pub series_of-requires : goal.series_of-requires
series_of-requires c = c.recurs.ensures.0 c.if-not-recurs.false

pub returns-in-None-clause-found : goal.returns-in-None-clause-found
returns-in-None-clause-found c =
    (c.recurs.ensures.0 c.if-not-recurs.false, rw c.in-None.is at c.in_ok-series.ensures)

pub returns-in_err-series-clause-room : goal.returns-in_err-series-clause-room
returns-in_err-series-clause-room c = λ single. absurd (single (c.recurs.ensures.0 c.if-not-recurs.false))
