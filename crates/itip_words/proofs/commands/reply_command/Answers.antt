use Rattle.itip_words.proofs.Programs.{word_first}
use Rattle.itip_words.proofs.commands.reply_command.Goals as goal

pub returns : goal.returns
returns c =
    let first = word_first _ _ _ _ c.arg-reply.result c.plain_command-reply.ensures c.uid_word.ensures c.arg-reply.ensures in
    let answering_given = c.with_arg-reply.ensures _ _ first c.answering_word.ensures in
    let status_given = c.with_arg-reply-2.ensures _ _ answering_given c.status_word.ensures in
    let percent_given = c.with_arg-reply-3.ensures _ _ status_given c.percent_word.ensures in
    let id_given = c.with_arg-reply-4.ensures _ _ percent_given c.id_word.ensures in
    let at_given = c.with_arg-reply-5.ensures _ _ id_given c.at_word.ensures in
    c.intake_words.ensures _ at_given
