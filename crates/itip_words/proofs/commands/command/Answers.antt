use Rattle.itip_words.specs.Program.{program}
use Rattle.itip_words.proofs.commands.command.Goals as goal

pub returns : goal.returns
unfolding program
returns c =
    c.with_messages.ensures _ (c.with_sources-program.ensures _ (c.with_input-program.ensures _ c.bare_program.ensures))
