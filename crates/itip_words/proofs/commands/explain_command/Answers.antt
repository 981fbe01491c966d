use Rattle.itip_words.proofs.Programs.{word_first}
use Rattle.itip_words.proofs.commands.explain_command.Goals as goal

pub returns : goal.returns
returns c =
    let first = word_first _ _ _ _ c.arg-explain.result c.plain_command-explain.ensures c.uid_word.ensures c.arg-explain.ensures in
    c.intake_words.ensures _ first
