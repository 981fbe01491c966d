use Rattle.std.proofs.Common.{true, refl}
use Rattle.std.specs.Prelude.{codes}
use Rattle.clap.specs.Simple.{new_app}
use Rattle.itip_words.specs.Program.{IsWord}
use Rattle.itip_words.proofs.Programs.{word_kept, word_set}
use Rattle.itip_words.proofs.commands.bare_program.Goals as goal

pub returns : goal.returns
returns c =
    let fresh : IsWord (new_app (codes "itipdesk")) c.new.result = record { app_is = c.new.ensures.app; local = c.new.ensures.local } in
    let named = word_kept _ _ _ _ fresh c.in_ok-bin_name.ensures.0 refl refl in
    let told = word_kept _ _ _ _ named c.about.ensures refl refl in
    let versioned = word_set _ (λ a. record a { top = record a.top { has_version = true } }) _ _ _ told c.version.ensures refl refl in
    let worded = word_set _ (λ a. record a { top = record a.top { subcommand_required = true } }) _ _ _ versioned
    c.subcommand_required.ensures refl refl in
    word_set _ (λ a. record a { top = record a.top { arg_required_else_help = true } }) _ _ _ worded
    c.arg_required_else_help-program.ensures refl refl
