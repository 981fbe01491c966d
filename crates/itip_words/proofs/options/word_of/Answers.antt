use Rattle.std.specs.Box.{box_value}
use Rattle.clap.specs.Matches.{found_of}
use Rattle.clap.specs.Walk.{rows_of}
use Rattle.clap.specs.declared.parser.matches.ArgMatches.TheViews.{out-ArgMatches, out-SubCommand}
use Rattle.itip_words.specs.Options.{options_of}
use Rattle.itip_words.proofs.Given.{both_parts}
use Rattle.itip_words.proofs.options.word_of.Goals as goal

pub returns : goal.returns
returns c =
    both_parts (λ given. given.0.now) (λ given. options_of given.1.now) (λ b. (out-SubCommand (box_value b)).name.now)
    (λ b. rows_of (found_of (out-SubCommand (box_value b)).matches)) c.subcommand.result (out-ArgMatches c.args.matches.now).subcommand
    c.subcommand.ensures.name c.subcommand.ensures.rows
