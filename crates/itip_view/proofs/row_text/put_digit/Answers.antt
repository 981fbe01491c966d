use Rattle.std.proofs.Common.{◌∙◌, ◌++◌, List, ℕ, ap, sym}
use Rattle.std.proofs.lemmas.Fmt.{decimal_digit}
use Rattle.itip_view.proofs.row_text.put_digit.Goals as goal

pub returns : goal.returns
returns c = c.in_ok-push.ensures.items ∙ ap (λ (d : List ℕ). c.args.out.now.items ++ d) (sym (decimal_digit c.args.digit c.requires))
