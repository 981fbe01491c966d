use Rattle.std.proofs.Common.{◌≡◌, ℕ, List, true, false, sym, subst}
use Rattle.itip_lines.specs.Room.{HasRoomFor}
use Rattle.itip_lines.specs.Writing.{folded}
use Rattle.itip_lines.proofs.LineLists.{text_ended}
use Rattle.itip_lines.proofs.Rooms.{room_ended}
use Rattle.itip_lines.proofs.write.write_text.Goals as goal

pub returns-clause-appended : goal.returns-clause-appended
returns-clause-appended c =
    text_ended c.extend_from_slice.result c.args.out.now.items c.args.text.now c.write_octets.new.out.items
    c.extend_from_slice.new.self.items _ (rw c.as_bytes.ensures.value at c.in_ok-write_octets.ensures.wrote)
    c.extend_from_slice.ensures.items

pub returns-in_err-write_octets-clause-room : goal.returns-in_err-write_octets-clause-room
returns-in_err-write_octets-clause-room c = λ room.
    let no : false ≡ true = c.in_err-write_octets.ensures.room
    (subst (λ (text : List ℕ). HasRoomFor c.args.out.now (folded 0 text)) (sym c.as_bytes.ensures.value) room) in
    absurd cc

pub returns-clause-room : goal.returns-clause-room
returns-clause-room c = λ room.
    c.extend_from_slice.ensures.succeeds (room_ended c.args.out.now c.write_octets.new.out 0 c.args.text.now
    c.in_ok-write_octets.field-0 (rw c.as_bytes.ensures.value at c.in_ok-write_octets.ensures.wrote) c.write_octets.ensures.keeps room)
