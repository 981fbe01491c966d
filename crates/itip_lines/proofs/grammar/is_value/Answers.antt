use Rattle.std.proofs.Common.{◌∙◌, ◌∷◌, ℕ, List, sym, ap}
use Rattle.itip_lines.proofs.SameText.{text_is}
use Rattle.itip_lines.proofs.grammar.is_value.Goals as goal

pub returns-in-Some : goal.returns-in-Some
returns-in-Some c = λ is.
    c.in-Some.ensures ∙ ap (λ (t : List ℕ). 58 ∷ t) (text_is c.in-Some.rest.now c.args.value.now (sym c.eq.ensures ∙ is))
