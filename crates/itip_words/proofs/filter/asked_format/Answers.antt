use Rattle.std.proofs.Common.{ℕ, List, Option, subst}
use Rattle.std.specs.Prelude.{IsSomeAnd}
use Rattle.itip_words.specs.Asking.{IsFormatNamed}
use Rattle.itip_words.specs.Days.{numbered}
use Rattle.itip_words.specs.Finding.{Finds}
use Rattle.itip_words.specs.declared.filter.Format.{Format}
use Rattle.itip_words.proofs.Finding.{finds_none}
use Rattle.itip_words.proofs.Given.{none_given}
use Rattle.itip_words.proofs.filter.asked_format.Goals as goal

pub returns-in_err-text : goal.returns-in_err-text
returns-in_err-text c =
    finds_none _ c.from_residual.result c.from_residual.ensures (λ form is. none_given _ _ c.in_err-text.ensures is)

pub returns : goal.returns
returns c =
    subst (λ (o : Option (List ℕ)). Finds (λ (form : Format). IsSomeAnd o (λ text. IsFormatNamed (numbered c.args.today) text form))
    c.format_named.result) c.in_ok-text.ensures c.format_named.ensures
