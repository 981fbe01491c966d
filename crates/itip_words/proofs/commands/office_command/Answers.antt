use Rattle.itip_words.proofs.Programs.{word_first}
use Rattle.itip_words.proofs.commands.office_command.Goals as goal

pub returns : goal.returns
returns c =
    let first = word_first _ _ _ _ c.arg-office.result c.plain_command-office.ensures c.desks_word.ensures c.arg-office.ensures in
    let days_given = c.days-office.ensures _ first in
    let workers_given = c.with_arg-office.ensures _ _ days_given c.workers_word.ensures in
    c.with_arg.ensures _ _ workers_given c.why_word.ensures
