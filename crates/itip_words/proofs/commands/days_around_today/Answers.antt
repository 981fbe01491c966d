use Rattle.itip_words.proofs.commands.days_around_today.Goals as goal

pub returns : goal.returns
returns c =
    λ app word.
    let first_given = c.with_arg-command.ensures _ _ word c.first_word.ensures in
    let after_given = c.with_arg-command-2.ensures _ _ first_given c.after_word.ensures in
    c.with_arg.ensures _ _ after_given c.today_word.ensures
