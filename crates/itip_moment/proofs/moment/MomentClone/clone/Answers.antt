use Rattle.std.proofs.lemmas.Result.{err_from_is_err_and}
use Rattle.itip_moment.proofs.moment.MomentClone.clone.Goals as goal

pub returns-in_err-clone-in-Zoned : goal.returns-in_err-clone-in-Zoned
returns-in_err-clone-in-Zoned c =
    let p = err_from_is_err_and c.from_residual.result c.from_residual.ensures.1 in
    rw (p.1, c.in-Zoned.is) (record { cases = λ unzoned. unzoned })
