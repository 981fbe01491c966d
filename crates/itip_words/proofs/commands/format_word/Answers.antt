use Rattle.std.proofs.Common.{refl, codes}
use Rattle.itip_words.specs.Program.{otherwise}
use Rattle.itip_words.proofs.Programs.{rule_set}
use Rattle.itip_words.proofs.commands.format_word.Goals as goal

pub returns : goal.returns
returns c =
    rule_set _ (otherwise (codes "text")) _ _ _ c.option_word.ensures c.default_value.ensures refl refl
