use Rattle.itip_words.specs.Program.{run_word, office_word, check_word}
use Rattle.itip_words.proofs.commands.with_input.Goals as goal

pub returns : goal.returns
returns c =
    λ app w0.
    let w1 = c.with_word-command.ensures _ run_word w0 c.run_command.ensures in
    let w2 = c.with_word-command-2.ensures _ office_word w1 c.office_command.ensures in
    c.with_word.ensures _ check_word w2 c.check_command.ensures
