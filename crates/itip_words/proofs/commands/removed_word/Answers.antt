use Rattle.std.proofs.Common.{refl}
use Rattle.itip_words.specs.Program.{repeated}
use Rattle.itip_words.proofs.Programs.{rule_set}
use Rattle.itip_words.proofs.commands.removed_word.Goals as goal

pub returns : goal.returns
returns c =
    rule_set _ repeated _ _ _ c.option_word.ensures c.action.ensures refl refl
