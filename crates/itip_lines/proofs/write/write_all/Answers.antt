use Rattle.std.proofs.Common.{◌≡◌, ◌++◌, ◌∷◌, [], ℕ, List, true, false, sym, subst}
use Rattle.itip_lines.specs.Room.{HasRoomFor}
use Rattle.itip_lines.specs.Writing.{folded}
use Rattle.itip_lines.proofs.Rooms.{room_front, room_behind, room_ended, colon_room, value_room}
use Rattle.itip_lines.proofs.Written.{parts_ended}
use Rattle.itip_lines.proofs.write.write_all.Goals as goal

pub returns-clause-appended : goal.returns-clause-appended
returns-clause-appended c =
    parts_ended c.extend_from_slice.result c.args.out.now.items c.args.name.now c.args.params.now c.args.value.now
    c.write_octets.new.out.items c.in_ok-used.used c.write_octets-2.new.out.items c.in_ok-used-2.used
    c.write_octet.new.out.items c.in_ok-used-3.used c.write_octets-3.new.out.items c.in_ok-write_octets.field-0
    c.extend_from_slice.new.self.items
    (rw c.as_bytes.ensures.value at c.in_ok-used.ensures.wrote) c.in_ok-used-2.ensures.wrote c.in_ok-used-3.ensures.wrote
    c.in_ok-write_octets.ensures.wrote
    c.extend_from_slice.ensures.items

pub returns-in_err-used-clause-room : goal.returns-in_err-used-clause-room
returns-in_err-used-clause-room c = λ room.
    let no : false ≡ true = c.in_err-used.ensures.room
    (subst (λ (name : List ℕ). HasRoomFor c.args.out.now (folded 0 name)) (sym c.as_bytes.ensures.value)
    (room_front c.args.out.now 0 c.args.name.now (c.args.params.now ++ 58 ∷ c.args.value.now) room)) in
    absurd cc

pub returns-in_err-used-2-clause-room : goal.returns-in_err-used-2-clause-room
returns-in_err-used-2-clause-room c = λ room.
    let no : false ≡ true = c.in_err-used-2.ensures.room
    (room_front c.write_octets.new.out c.in_ok-used.used c.args.params.now (58 ∷ c.args.value.now)
    (room_behind c.args.out.now c.write_octets.new.out 0 c.args.name.now (c.args.params.now ++ 58 ∷ c.args.value.now) c.in_ok-used.used
    (rw c.as_bytes.ensures.value at c.in_ok-used.ensures.wrote) c.write_octets.ensures.keeps room)) in
    absurd cc

pub returns-in_err-used-3-clause-room : goal.returns-in_err-used-3-clause-room
returns-in_err-used-3-clause-room c = λ room.
    let no : false ≡ true = c.in_err-used-3.ensures.room
    (room_front c.write_octets-2.new.out c.in_ok-used-2.used (58 ∷ []) c.args.value.now
    (colon_room c.args.out.now c.write_octets.new.out c.write_octets-2.new.out c.args.name.now c.in_ok-used.used c.args.params.now
    c.in_ok-used-2.used c.args.value.now
    (rw c.as_bytes.ensures.value at c.in_ok-used.ensures.wrote) c.write_octets.ensures.keeps
    c.in_ok-used-2.ensures.wrote c.write_octets-2.ensures.keeps room)) in
    absurd cc

pub returns-in_err-write_octets-clause-room : goal.returns-in_err-write_octets-clause-room
returns-in_err-write_octets-clause-room c = λ room.
    let no : false ≡ true = c.in_err-write_octets.ensures.room
    (value_room c.args.out.now c.write_octets.new.out c.write_octets-2.new.out c.write_octet.new.out c.args.name.now c.in_ok-used.used
    c.args.params.now c.in_ok-used-2.used c.in_ok-used-3.used c.args.value.now
    (rw c.as_bytes.ensures.value at c.in_ok-used.ensures.wrote) c.write_octets.ensures.keeps
    c.in_ok-used-2.ensures.wrote c.write_octets-2.ensures.keeps
    c.in_ok-used-3.ensures.wrote c.write_octet.ensures.keeps room) in
    absurd cc

pub returns-clause-room : goal.returns-clause-room
returns-clause-room c = λ room.
    c.extend_from_slice.ensures.succeeds (room_ended c.write_octet.new.out c.write_octets-3.new.out c.in_ok-used-3.used c.args.value.now
    c.in_ok-write_octets.field-0 c.in_ok-write_octets.ensures.wrote c.write_octets-3.ensures.keeps
    (value_room c.args.out.now c.write_octets.new.out c.write_octets-2.new.out c.write_octet.new.out c.args.name.now c.in_ok-used.used
    c.args.params.now c.in_ok-used-2.used c.in_ok-used-3.used c.args.value.now
    (rw c.as_bytes.ensures.value at c.in_ok-used.ensures.wrote) c.write_octets.ensures.keeps
    c.in_ok-used-2.ensures.wrote c.write_octets-2.ensures.keeps
    c.in_ok-used-3.ensures.wrote c.write_octet.ensures.keeps room))
