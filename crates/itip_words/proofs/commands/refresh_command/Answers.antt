use Rattle.itip_words.proofs.Programs.{word_first}
use Rattle.itip_words.proofs.commands.refresh_command.Goals as goal

pub returns : goal.returns
returns c =
    let first = word_first _ _ _ _ c.arg-refresh.result c.plain_command-refresh.ensures c.uid_word.ensures c.arg-refresh.ensures in
    let answering_given = c.with_arg-refresh.ensures _ _ first c.answering_word.ensures in
    let id_given = c.with_arg-refresh-2.ensures _ _ answering_given c.id_word.ensures in
    let at_given = c.with_arg-refresh-3.ensures _ _ id_given c.at_word.ensures in
    c.intake_words.ensures _ at_given
