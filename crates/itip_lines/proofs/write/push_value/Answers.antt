use Rattle.std.proofs.Common.{sym, arith}
use Rattle.itip_lines.proofs.Rooms.{plain_long, quoted_long}
use Rattle.itip_lines.proofs.Written.{plain_appended, quoted_appended}
use Rattle.itip_lines.proofs.write.push_value.Goals as goal

pub returns-then-not-has_separator-clause-appended : goal.returns-then-not-has_separator-clause-appended
returns-then-not-has_separator-clause-appended c =
    plain_appended c.extend_from_slice.result c.args.out.now.items c.extend_from_slice.new.self.items c.args.value.now
    (sym c.if-not-has_separator.ensures) c.extend_from_slice.ensures.items

pub returns-then-not-has_separator-clause-room : goal.returns-then-not-has_separator-clause-room
returns-then-not-has_separator-clause-room c = λ room.
    let long = plain_long c.args.value.now (sym c.if-not-has_separator.ensures) in
    c.extend_from_slice.ensures.succeeds (omega (arith, room, long))

pub returns-in_err-push-clause-room : goal.returns-in_err-push-clause-room
returns-in_err-push-clause-room c = λ room.
    let long = quoted_long c.args.value.now (sym c.if-not-has_separator.ensures) in
    absurd (omega (arith, room, long, c.in_err-push.ensures.full))

pub returns-in_err-extend_from_slice-clause-room : goal.returns-in_err-extend_from_slice-clause-room
returns-in_err-extend_from_slice-clause-room c = λ room.
    let long = quoted_long c.args.value.now (sym c.if-not-has_separator.ensures) in
    absurd (omega (arith, room, long, c.in_ok-push.ensures.len, c.push.ensures.capacity, c.in_err-extend_from_slice.ensures.full))

pub returns-in_err-push-2-clause-room : goal.returns-in_err-push-2-clause-room
returns-in_err-push-2-clause-room c = λ room.
    let long = quoted_long c.args.value.now (sym c.if-not-has_separator.ensures) in
    absurd (omega (
      arith,
      room,
      long,
      c.in_ok-push.ensures.len,
      c.push.ensures.capacity,
      c.in_ok-extend_from_slice.ensures.len,
      c.extend_from_slice-2.ensures.capacity,
      c.in_err-push-2.ensures.full,
    ))

pub returns-clause-appended : goal.returns-clause-appended
returns-clause-appended c =
    quoted_appended c.args.out.now.items c.push.new.self.items c.extend_from_slice-2.new.self.items c.push-2.new.self.items c.args.value.now
    (sym c.if-not-has_separator.ensures) c.in_ok-push.ensures.items c.in_ok-extend_from_slice.ensures.items c.in_ok-push-2.ensures.items
