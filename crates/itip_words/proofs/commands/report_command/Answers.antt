use Rattle.itip_words.proofs.Programs.{word_first}
use Rattle.itip_words.proofs.commands.report_command.Goals as goal

pub returns : goal.returns
returns c =
    let first = word_first _ _ _ _ c.arg-report.result c.plain_command-report.ensures c.name_word.ensures c.arg-report.ensures in
    let days_given = c.days_around_today-report.ensures _ first in
    c.intake_words.ensures _ days_given
