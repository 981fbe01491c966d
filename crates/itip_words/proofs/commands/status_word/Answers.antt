use Rattle.std.proofs.Common.{refl}
use Rattle.itip_words.specs.Program.{needed}
use Rattle.itip_words.proofs.Programs.{rule_set}
use Rattle.itip_words.proofs.commands.status_word.Goals as goal

pub returns : goal.returns
returns c =
    rule_set _ needed _ _ _ c.option_word.ensures c.required.ensures refl refl
