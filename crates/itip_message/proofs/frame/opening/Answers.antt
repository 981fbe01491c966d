use Rattle.std.proofs.Common.{◌≡◌, ◌∙◌, sym, ap, List, ℕ, Bool, cond, [], ◌∷◌, true, false}
use Rattle.std.specs.Prelude.{codes}
use Rattle.itip_todo.specs.Participation.{same_text}
use Rattle.itip_message.specs.declared.frame.Placed.TheVariants.{TodoBegins}
use Rattle.itip_message.proofs.Frames.{opening_one, opening_more}
use Rattle.itip_message.proofs.frame.opening.Goals as goal
use Rattle.itip_message.proofs.frame.opening.Goals.{else-inside-eq1-via-then-inside-eq1+else-eq, else-inside-eq1-via-else-inside-eq1}

pub returns-then-eq : goal.returns-then-eq
returns-then-eq c =
    let same : same_text c.args.name.now (codes "VTODO") ≡ true =
    ap (λ (name : List ℕ). same_text name (codes "VTODO")) (sym c.as_str.ensures) ∙ sym c.eq.ensures ∙ c.if-eq.true in
    sym (opening_one c.args.inside.now c.args.name.now c.args.number c.if-inside-eq1.true ∙
    ap (λ (b : Bool). cond b (TodoBegins c.args.number ∷ []) []) same)

pub returns : goal.returns
returns c =
    elim c.else-inside-eq1.branch [
      | else-inside-eq1-via-then-inside-eq1+else-eq w ↦
          let other : same_text c.args.name.now (codes "VTODO") ≡ false =
          ap (λ (name : List ℕ). same_text name (codes "VTODO")) (sym w.as_str.ensures) ∙ sym w.eq.ensures ∙ w.if-eq.false in
          sym (opening_one c.args.inside.now c.args.name.now c.args.number w.if-inside-eq1.true ∙
          ap (λ (b : Bool). cond b (TodoBegins c.args.number ∷ []) []) other)
      | else-inside-eq1-via-else-inside-eq1 w ↦ sym (opening_more c.args.inside.now c.args.name.now c.args.number w.if-inside-eq1.false)
    ]
