use Rattle.std.proofs.Common.{◌≡◌, ◌∙◌, ℕ, List, sym, subst}
use Rattle.itip_lines.specs.Lawful.{line_text}
use Rattle.itip_lines.specs.Room.{HasRoomFor}
use Rattle.itip_lines.specs.Writing.{folded, unfolded_text, written}
use Rattle.itip_lines.proofs.write.write_line.Goals as goal

pub returns-clause-room : goal.returns-clause-room
unfolding written unfolded_text
returns-clause-room c = λ room.
    let name = c.as_str.ensures in
    let value = c.as_bytes.ensures.value ∙ c.as_str-2.ensures in
    let same : folded 0 (line_text c.as_str.result.now c.args.line.now.params c.as_bytes.result.now) ≡ written c.args.line.now =
    (λ i. folded 0 (line_text (name i) c.args.line.now.params (value i))) in
    c.write_property.ensures.room (subst (λ (text : List ℕ). HasRoomFor c.args.out.now text) (sym same) room)
