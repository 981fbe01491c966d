use Rattle.itip_words.proofs.commands.intake_words.Goals as goal

pub returns : goal.returns
returns c =
    λ app word.
    let source_given = c.with_arg-command.ensures _ _ word c.source_word.ensures in
    let threads_given = c.with_arg-command-2.ensures _ _ source_given c.threads_word.ensures in
    let progress_given = c.with_arg-command-3.ensures _ _ threads_given c.progress_word.ensures in
    c.with_arg.ensures _ _ progress_given c.why_word.ensures
