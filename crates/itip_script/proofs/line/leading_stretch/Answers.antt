use Rattle.std.proofs.Common.{Bool, ◌&&◌, ap, ◌∙◌, sym, subst}
use Rattle.itip_script.specs.Lines.{is_empty, Passes}
use Rattle.itip_script.proofs.Stretches.{pass_line}
use Rattle.itip_script.proofs.line.leading_stretch.Goals as goal

pub loop-line-preserved-then-is_blank : goal.loop-line-preserved-then-is_blank
loop-line-preserved-then-is_blank c =
    let passed = pass_line c.args.bytes.now c.loop-line.rest.now c.in-Some.line.now c.in-Some.after.now c.loop-line.is_blank
    c.loop-line.invariant c.in-Some.ensures (sym c.is_command.ensures ∙ c.if-is_command.false) in
    subst (λ (b : Bool). Passes c.args.bytes.now c.in-Some.after.now b)
    (ap (λ (t : Bool). t && is_empty c.in-Some.line.now) c.if-is_blank.true ∙ sym c.is_empty-is_blank.ensures) passed

pub loop-line-preserved : goal.loop-line-preserved
loop-line-preserved c =
    let passed = pass_line c.args.bytes.now c.loop-line.rest.now c.in-Some.line.now c.in-Some.after.now c.loop-line.is_blank
    c.loop-line.invariant c.in-Some.ensures (sym c.is_command.ensures ∙ c.if-is_command.false) in
    subst (λ (b : Bool). Passes c.args.bytes.now c.in-Some.after.now b)
    (ap (λ (t : Bool). t && is_empty c.in-Some.line.now) c.if-is_blank.false ∙ sym c.if-is_blank.false) passed
