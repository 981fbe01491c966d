-- The options that words give, each by its name in docs/USING.md without the dashes (our own form).
use Rattle.std.specs.Prelude.{ℕ, nat_eq, Bool, false, List, Option, codes}
use Rattle.std.specs.Option.{option_map_or}
use Rattle.std.specs.Cmp.Lexicographic.{pointwise}
use Rattle.clap.specs.Matches.{found_of}
use Rattle.clap.specs.Walk.{Row, rows_of, first_of, all_of}
use Rattle.clap.specs.declared.parser.matches.ArgMatches.{ArgMatches}

-- names of options, each with its values: those that are among the words, else its defaults
abbrev pub Options : Type 0
Options = List Row

abbrev pub options_of : ArgMatches → Options
options_of words = rows_of (found_of words)

-- the value of an option, or the first of several
abbrev pub value_of : List ℕ → Options → Option (List ℕ)
value_of name options = first_of name options

-- all values of an option
abbrev pub values_of : List ℕ → Options → Option (List (List ℕ))
values_of name options = all_of name options

abbrev pub is_true : List ℕ → Bool
is_true value = pointwise nat_eq value (codes "true")

-- an option that takes no value is given
abbrev pub is_set : List ℕ → Options → Bool
is_set name options = option_map_or is_true (value_of name options) false
