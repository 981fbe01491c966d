use Rattle.std.proofs.Common.{refl}
use Rattle.clap.specs.Simple.{new_app}
use Rattle.itip_words.specs.Program.{IsWord}
use Rattle.itip_words.proofs.Programs.{word_kept}
use Rattle.itip_words.proofs.commands.plain_command.Goals as goal

pub returns : goal.returns
returns c =
    let fresh : IsWord (new_app c.args.name.now) c.new.result = record { app_is = c.new.ensures.app; local = c.new.ensures.local } in
    word_kept _ _ _ _ (word_kept _ _ _ _ fresh c.about.ensures refl refl) c.after_help.ensures refl refl
