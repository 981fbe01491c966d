use Rattle.std.proofs.Common.{◌≡◌, ◌∙◌, ◌++◌, ◌∷◌, [], ℕ, List, sym, ap, subst, append-nil}
use Rattle.std.proofs.lemmas.Result.{on_ok_weaker}
use Rattle.itip_lines.specs.Lawful.{line_text}
use Rattle.itip_lines.specs.Room.{HasRoomFor}
use Rattle.itip_lines.specs.Writing.{folded}
use Rattle.itip_todo.specs.Table.{name_text}
use Rattle.itip_todo.specs.Written.{contents_octets, property_line}
use Rattle.itip_todo.proofs.write.write_property.Goals as goal

-- the line that was written, by its parts
line_is : (c : goal.After-write_parts) → folded 0 (c.as_str.result.now ++ (c.as_bytes-params.result.now ++ 58 ∷ c.as_bytes.result.now)) ≡
    contents_octets (property_line c.args.name c.args.property.now ∷ [])
line_is c =
    let name = c.as_str.ensures in
    let params = c.as_bytes-params.ensures.value ∙ c.params.ensures.text in
    let value = c.as_bytes.ensures.value ∙ c.value.ensures in
    (λ i. folded 0 (name i ++ (params i ++ 58 ∷ value i)))
    ∙ sym (append-nil (folded 0 (line_text (name_text c.args.name) c.args.property.now.params c.args.property.now.value)))

pub returns-clause-appended : goal.returns-clause-appended
returns-clause-appended c =
    on_ok_weaker c.write_parts.result
    (λ (wrote : c.write_parts.new.out.items ≡ c.args.out.now.items
    ++ folded 0 (c.as_str.result.now ++ (c.as_bytes-params.result.now ++ 58 ∷ c.as_bytes.result.now))).
    wrote ∙ ap (λ (t : List ℕ). c.args.out.now.items ++ t) (line_is c))
    c.write_parts.ensures.appended

pub returns-clause-room : goal.returns-clause-room
returns-clause-room c = λ room.
    c.write_parts.ensures.room (subst (λ (t : List ℕ). HasRoomFor c.args.out.now t) (sym (line_is c)) room)
