use Rattle.std.proofs.Common.{length, ap, arith}
use Rattle.itip_moment.proofs.write.write_stamp.Goals as goal

pub returns-clause-room : goal.returns-clause-room
returns-clause-room c = λ room.
    let same = ap length c.stamp_bytes.ensures in
    c.extend_from_slice.ensures.succeeds (omega (arith, room, same))
