use Rattle.itip_words.proofs.commands.list_command.Goals as goal

pub returns : goal.returns
returns c =
    let days_given = c.days_around_today-list.ensures _ c.plain_command-list.ensures in
    let rows_given = c.row_words-list.ensures _ days_given in
    c.intake_words.ensures _ rows_given
