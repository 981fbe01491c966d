use Rattle.itip_words.proofs.commands.row_words.Goals as goal

pub returns : goal.returns
returns c =
    λ app word.
    let attendee_given = c.with_arg-command.ensures _ _ word c.attendee_word.ensures in
    let open_given = c.with_arg-command-2.ensures _ _ attendee_given c.open_word.ensures in
    let due_before_given = c.with_arg-command-3.ensures _ _ open_given c.due_before_word.ensures in
    c.with_arg.ensures _ _ due_before_given c.format_word.ensures
