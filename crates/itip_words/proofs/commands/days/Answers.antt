use Rattle.itip_words.proofs.commands.days.Goals as goal

pub returns : goal.returns
returns c =
    λ app word.
    let from_given = c.with_arg-command.ensures _ _ word c.from_word.ensures in
    c.with_arg.ensures _ _ from_given c.to_word.ensures
