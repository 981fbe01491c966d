use Rattle.itip_words.proofs.Programs.{word_first}
use Rattle.itip_words.proofs.commands.resend_command.Goals as goal

pub returns : goal.returns
returns c =
    let first = word_first _ _ _ _ c.arg-resend.result c.plain_command-resend.ensures c.uid_word.ensures c.arg-resend.ensures in
    let at_given = c.with_arg-resend.ensures _ _ first c.at_word.ensures in
    c.intake_words.ensures _ at_given
