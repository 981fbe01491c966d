use Rattle.itip_words.proofs.Programs.{word_first}
use Rattle.itip_words.proofs.commands.request_command.Goals as goal

pub returns : goal.returns
returns c =
    let first = word_first _ _ _ _ c.arg-request.result c.plain_command-request.ensures c.draft_word.ensures c.arg-request.ensures in
    let at_given = c.with_arg-request.ensures _ _ first c.at_word.ensures in
    c.intake_words.ensures _ at_given
