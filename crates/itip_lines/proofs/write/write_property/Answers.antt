use Rattle.std.proofs.Common.{◌≡◌, ◌∙◌, ◌++◌, ◌∷◌, ℕ, List, subst}
use Rattle.std.specs.Prelude.{OnOk, IsOk}
use Rattle.itip_lines.specs.Room.{HasRoomFor}
use Rattle.itip_lines.specs.Writing.{folded}
use Rattle.itip_lines.proofs.write.write_property.Goals as goal

pub returns-clause-appended : goal.returns-clause-appended
returns-clause-appended c =
    subst (λ (t : List ℕ). OnOk c.write_parts.result (c.write_parts.new.out.items ≡ c.args.out.now.items ++
    folded 0 (c.args.name.now ++ (t ++ 58 ∷ c.args.value.now))))
    (c.as_bytes.ensures.value ∙ c.as_str.ensures.text) c.write_parts.ensures.appended

pub returns-clause-room : goal.returns-clause-room
returns-clause-room c =
    subst (λ (t : List ℕ). HasRoomFor c.args.out.now (folded 0 (c.args.name.now ++ (t ++ 58 ∷ c.args.value.now))) →
    IsOk c.write_parts.result)
    (c.as_bytes.ensures.value ∙ c.as_str.ensures.text) c.write_parts.ensures.room
