use Rattle.std.proofs.Common.{◌≡◌, ◌∙◌, ◌+◌, ◌++◌, ap, ℕ, List, length, sym, subst, arith}
use Rattle.std.proofs.lemmas.Result.{on_ok_weaker}
use Rattle.itip_lines.specs.Lawful.{value_text}
use Rattle.itip_lines.specs.Room.{HasRoomFor}
use Rattle.itip_lines.proofs.Rooms.{param_long}
use Rattle.itip_lines.proofs.Written.{param_appended}
use Rattle.itip_lines.proofs.write.write_param.Goals as goal

pub returns-clause-appended : goal.returns-clause-appended
returns-clause-appended c =
    on_ok_weaker c.push_value.result
    (λ (last : c.push_value.new.out.items ≡ c.push-2.new.self.items ++ value_text c.as_bytes-2.result.now).
    param_appended c.args.out.now.items c.push.new.self.items c.extend_from_slice.new.self.items c.push-2.new.self.items
    c.push_value.new.out.items c.args.name.now c.args.value.now c.in_ok-push.ensures.items
    (c.in_ok-extend_from_slice.ensures.items ∙ ap (λ (t : List ℕ). c.push.new.self.items ++ t) c.as_bytes.ensures.value)
    c.in_ok-push-2.ensures.items
    (last ∙ ap (λ (t : List ℕ). c.push-2.new.self.items ++ value_text t) c.as_bytes-2.ensures.value))
    c.push_value.ensures.appended

pub returns-in_err-push-clause-room : goal.returns-in_err-push-clause-room
returns-in_err-push-clause-room c = λ room.
    let long = param_long c.args.name.now c.args.value.now in
    absurd (omega (arith, room, long, c.in_err-push.ensures.full))

pub returns-in_err-extend_from_slice-clause-room : goal.returns-in_err-extend_from_slice-clause-room
returns-in_err-extend_from_slice-clause-room c = λ room.
    let long = param_long c.args.name.now c.args.value.now in
    let name = ap length c.as_bytes.ensures.value in
    absurd (omega (arith, room, long, name, c.in_ok-push.ensures.len, c.push.ensures.capacity, c.in_err-extend_from_slice.ensures.full))

pub returns-in_err-push-2-clause-room : goal.returns-in_err-push-2-clause-room
returns-in_err-push-2-clause-room c = λ room.
    let long = param_long c.args.name.now c.args.value.now in
    let name = ap length c.as_bytes.ensures.value in
    absurd (omega (
      arith,
      room,
      long,
      name,
      c.in_ok-push.ensures.len,
      c.push.ensures.capacity,
      c.in_ok-extend_from_slice.ensures.len,
      c.extend_from_slice.ensures.capacity,
      c.in_err-push-2.ensures.full,
    ))

pub returns-clause-room : goal.returns-clause-room
returns-clause-room c = λ room.
    let long = param_long c.args.name.now c.args.value.now in
    let name = ap length c.as_bytes.ensures.value in
    let left : HasRoomFor c.push-2.new.self (value_text c.args.value.now) =
    omega (
      arith,
      room,
      long,
      name,
      c.in_ok-push.ensures.len,
      c.push.ensures.capacity,
      c.in_ok-extend_from_slice.ensures.len,
      c.extend_from_slice.ensures.capacity,
      c.in_ok-push-2.ensures.len,
      c.push-2.ensures.capacity,
    ) in
    c.push_value.ensures.room
    (subst (λ (t : List ℕ). HasRoomFor c.push-2.new.self (value_text t)) (sym c.as_bytes-2.ensures.value) left)
