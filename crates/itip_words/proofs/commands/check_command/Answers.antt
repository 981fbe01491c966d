use Rattle.itip_words.proofs.Programs.{word_first}
use Rattle.itip_words.proofs.commands.check_command.Goals as goal

pub returns : goal.returns
returns c =
    word_first _ _ _ _ c.arg.result c.plain_command-check.ensures c.why_word.ensures c.arg.ensures
