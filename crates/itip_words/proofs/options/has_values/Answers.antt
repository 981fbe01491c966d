use Rattle.std.proofs.Common.{◌∙◌, ap, map}
use Rattle.std.specs.Prelude.{is_some}
use Rattle.itip_words.proofs.Finding.{some_mapped}
use Rattle.itip_words.proofs.options.has_values.Goals as goal

pub returns : goal.returns
returns c =
    c.is_some.ensures ∙ some_mapped (λ values. map (λ value. value.now) values.now) c.values_of.result ∙ ap is_some c.values_of.ensures
