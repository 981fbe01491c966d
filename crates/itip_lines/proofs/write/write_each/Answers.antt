use Rattle.std.proofs.Common.{◌≡◌, true, false}
use Rattle.itip_lines.proofs.Rooms.{room_at}
use Rattle.itip_lines.proofs.write.write_each.Goals as goal

pub returns-in_err-used-clause-room : goal.returns-in_err-used-clause-room
returns-in_err-used-clause-room c = λ room.
    let no : false ≡ true = c.in_err-used.ensures.room (room_at c.args.out.now c.loop-octet.out c.args.used c.args.octets.now
    c.loop-octet.octet-index c.loop-octet.used c.loop-octet-test.true c.loop-octet.invariant.wrote c.loop-octet.invariant.keeps room) in
    absurd cc
