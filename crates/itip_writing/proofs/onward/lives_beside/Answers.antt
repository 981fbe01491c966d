use Rattle.std.proofs.Common.{◌≡◌, ◌∙◌, sym, true, false}
use Rattle.itip_writing.proofs.onward.lives_beside.Goals as goal

pub returns-then-is_live : goal.returns-then-is_live
returns-then-is_live c =
    (λ e. (sym c.is_live.ensures ∙ c.if-is_live.true, c.stands_beside.ensures.0 e), λ is. c.stands_beside.ensures.1 is.1)

pub returns-else-is_live : goal.returns-else-is_live
returns-else-is_live c = (
  λ e. absurd cc,
  λ is. let x : true ≡ false = sym is.0 ∙ sym c.is_live.ensures ∙ c.if-is_live.false in absurd cc,
)
