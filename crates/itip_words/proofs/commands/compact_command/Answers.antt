use Rattle.itip_words.proofs.Programs.{word_first}
use Rattle.itip_words.proofs.commands.compact_command.Goals as goal

pub returns : goal.returns
returns c =
    let first = word_first _ _ _ _ c.arg-compact.result c.plain_command-compact.ensures c.output_word.ensures c.arg-compact.ensures in
    c.intake_words.ensures _ first
