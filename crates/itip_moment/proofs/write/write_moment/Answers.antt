use Rattle.std.proofs.Common.{length, ap, arith}
use Rattle.itip_moment.proofs.write.write_moment.Goals as goal

pub returns-in-Date-clause-room : goal.returns-in-Date-clause-room
returns-in-Date-clause-room c =
    let same = ap length c.date_bytes.ensures in
    rw c.in-Date.is (λ room. c.extend_from_slice.ensures.succeeds (omega (arith, room, same)))
