use Rattle.std.proofs.Common.{◌∙◌, ◌++◌, ℕ, List, ap}
use Rattle.itip_lines.proofs.SameText.{front_is}
use Rattle.itip_lines.proofs.grammar.is_tail.Goals as goal

pub returns-in-Some : goal.returns-in-Some
returns-in-Some c = λ is.
    front_is c.args.text.now c.args.params.now c.in-Some.behind.now c.in-Some.ensures.cases.0 c.in-Some.ensures.cases.1
    ∙ ap (λ (t : List ℕ). c.args.params.now ++ t) (c.is_value.ensures is)
