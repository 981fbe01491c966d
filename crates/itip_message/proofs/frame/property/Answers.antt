use Rattle.std.proofs.Common.{◌≡◌, ◌∙◌, sym, ap, List, ℕ, Bool, cond, [], ◌∷◌, false}
use Rattle.std.specs.Prelude.{codes}
use Rattle.itip_todo.specs.Participation.{same_text}
use Rattle.itip_message.specs.declared.frame.Placed.TheVariants.{TodoLine}
use Rattle.itip_message.proofs.Frames.{property_one, property_two, property_more}
use Rattle.itip_message.proofs.frame.property.Goals as goal
use Rattle.itip_message.proofs.frame.property.Goals.{else-inside-eq2-via-then-inside-eq2+else-eq, else-inside-eq2-via-else-inside-eq2}

pub returns-then-inside-eq1 : goal.returns-then-inside-eq1
returns-then-inside-eq1 c = sym (property_one c.args.inside.now c.args.line c.if-inside-eq1.true)

pub returns : goal.returns
returns c =
    elim c.else-inside-eq2.branch [
      | else-inside-eq2-via-then-inside-eq2+else-eq w ↦
          let other : same_text w.index-inside-1.result (codes "VTODO") ≡ false =
          ap (λ (name : List ℕ). same_text name (codes "VTODO")) (sym w.as_str.ensures) ∙ sym w.eq.ensures ∙ w.if-eq.false in
          sym (property_two c.args.inside.now c.args.line w.index-inside-1.result w.if-inside-eq2.true w.index-inside-1.is ∙
          ap (λ (b : Bool). cond b (TodoLine c.args.line ∷ []) []) other)
      | else-inside-eq2-via-else-inside-eq2 w ↦ sym
          (property_more c.args.inside.now c.args.line c.if-inside-eq1.false w.if-inside-eq2.false)
    ]
