use Rattle.std.proofs.Common.{refl, sym, subst, ℕ, ◌+◌, length, List, arith}
use Rattle.itip_lines.specs.Writing.{Writes}
use Rattle.itip_lines.proofs.Rooms.{folded_longer}
use Rattle.itip_lines.proofs.Written.{writes_whole}
use Rattle.itip_lines.proofs.write.write_octets.Goals as goal

pub returns-clause-wrote : goal.returns-clause-wrote
returns-clause-wrote c =
    subst (λ (new : List ℕ). Writes c.args.out.now.items c.args.used c.args.octets.now new (c.args.used + length c.args.octets.now))
    (sym c.in_ok-extend_from_slice.ensures.items)
    (writes_whole c.args.out.now.items c.args.used c.args.octets.now _ refl
    (omega (arith, c.saturating_sub.ensures, c.if-octets-saturating_sub.false)))

pub returns-in_err-extend_from_slice-clause-room : goal.returns-in_err-extend_from_slice-clause-room
returns-in_err-extend_from_slice-clause-room c = λ room.
    let some = folded_longer c.args.used c.args.octets.now in
    absurd (omega (arith, room, some, c.in_err-extend_from_slice.ensures.full, c.args.out.now.ok.0))
