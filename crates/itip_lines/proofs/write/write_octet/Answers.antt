use Rattle.std.proofs.Common.{◌+◌, ◌<◌, [], ◌∷◌, arith}
use Rattle.itip_lines.specs.Writing.{following}
use Rattle.itip_lines.proofs.Rooms.{folded_longer, folded_apart}
use Rattle.itip_lines.proofs.write.write_octet.Goals as goal

pub returns-in_err-push-clause-room : goal.returns-in_err-push-clause-room
returns-in_err-push-clause-room c = λ room.
    let some = folded_longer c.args.used (c.args.octet ∷ []) in
    absurd (omega (arith, room, some, c.in_err-push.ensures.full, c.args.out.now.ok.0))

pub returns-in_err-extend_from_slice-clause-room : goal.returns-in_err-extend_from_slice-clause-room
returns-in_err-extend_from_slice-clause-room c = λ room.
    let over : 75 < c.args.used + 1 + following c.args.octet = omega (arith, c.following.ensures) in
    let some = folded_apart c.args.used c.args.octet over in
    absurd (omega (arith, room, some, c.in_err-extend_from_slice.ensures.full, c.args.out.now.ok.0))
