use Rattle.itip_words.proofs.Programs.{word_first}
use Rattle.itip_words.proofs.commands.cancel_command.Goals as goal

pub returns : goal.returns
returns c =
    let first = word_first _ _ _ _ c.arg-cancel.result c.plain_command-cancel.ensures c.uid_word.ensures c.arg-cancel.ensures in
    let id_given = c.with_arg-cancel.ensures _ _ first c.id_word.ensures in
    let onward_given = c.with_arg-cancel-2.ensures _ _ id_given c.onward_word.ensures in
    let removed_given = c.with_arg-cancel-3.ensures _ _ onward_given c.removed_word.ensures in
    let at_given = c.with_arg-cancel-4.ensures _ _ removed_given c.at_word.ensures in
    c.intake_words.ensures _ at_given
