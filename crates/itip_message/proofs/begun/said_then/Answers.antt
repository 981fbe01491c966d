use Rattle.std.proofs.Common.{◌∙◌, refl, sym, arith}
use Rattle.itip_message.proofs.SaidMore.{says_next, says_else}
use Rattle.itip_message.proofs.begun.said_then.Goals as goal
use Rattle.itip_message.proofs.begun.said_then.Goals.{else-count-end-via-then-count-end+else-end-count, else-count-end-via-else-count-end}

pub returns-then-end-count-clause-said : goal.returns-then-end-count-clause-said
returns-then-end-count-clause-said c =
    (says_next c.args.said.now c.args.octet _ c.if-count-end.true (c.if-end-count.true ∙ c.to_ascii_uppercase.ensures.value) refl
    c.requires).0

pub returns-then-end-count-clause-same : goal.returns-then-end-count-clause-same
returns-then-end-count-clause-same c =
    (says_next c.args.said.now c.args.octet _ c.if-count-end.true (c.if-end-count.true ∙ c.to_ascii_uppercase.ensures.value) refl
    c.requires).1

pub returns-else-count-end-clause-same : goal.returns-else-count-end-clause-same
returns-else-count-end-clause-same c =
    says_else c.args.said.now c.args.octet (λ short next. elim c.else-count-end.branch [
      | else-count-end-via-then-count-end+else-end-count w ↦ w.if-end-count.false (next ∙ sym w.to_ascii_uppercase.ensures.value)
      | else-count-end-via-else-count-end w ↦ absurd (omega (arith, short, w.if-count-end.false))
    ])
