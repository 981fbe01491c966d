-- Commands as they are built, and what `clap` reads by them.
use Rattle.std.proofs.Common.{◌≡◌, ℕ, List, Result, IfOk, ◌||◌, true, false, refl, ap, ap₂, ◌∙◌}
use Rattle.std.proofs.lemmas.Result.{IfOk-weaker}
use Rattle.clap.specs.Built.{AddsArg, AddsSubcommand}
use Rattle.clap.specs.Faults.{is_simple_and_free}
use Rattle.clap.specs.Simple.{App, HasMatchesOf, Shape, app_of, app_of_fields, is_simple, subcommand_of, subcommand_rows_of}
use Rattle.clap.specs.Simple.{with_rule, with_subcommand}
use Rattle.clap.specs.Walk.{Rule, rule_of}
use Rattle.clap.specs.declared.builder.arg.Arg.{Arg}
use Rattle.clap.specs.declared.builder.command.Command.{Command}
use Rattle.clap.specs.declared.builder.command.Command.TheOpen.{Command-F}
use Rattle.clap.specs.declared.builder.command.Command.TheViews.{out-Command as fields_of}
use Rattle.clap.specs.declared.parser.matches.ArgMatches.{ArgMatches}
use Rattle.itip_words.specs.Program.{IsRule, IsWord, program}

-- ---- options

module _ (mid new : Command) (arg : Arg) (rule : Rule) (adds : AddsArg mid arg new) (is : IsRule rule arg) where
  stays_local : (fields_of mid).has_globals ≡ false → (fields_of new).has_globals ≡ false
  stays_local none = adds.globals ∙ ap₂ (λ a b. a || b) none is.local

  with_one : app_of new ≡ with_rule (app_of mid) rule
  with_one = adds.shape is.local ∙ ap (with_rule (app_of mid)) is.rule_is

  -- one option more
  pub word_one : (app : App) → IsWord app mid → IsWord (with_rule app rule) new
  word_one app word = record {
    app_is = with_one ∙ ap (λ (a : App). with_rule a rule) word.app_is;
    local = stays_local word.local;
  }

-- the first option, which is added to a word that was made
pub word_first : {E : Type 0} (app : App) (rule : Rule) (old : Command) (arg : Arg) (made : Result Command E) → IsWord app old →
    IsRule rule arg →
    IfOk made (AddsArg old arg) → IfOk made (IsWord (with_rule app rule))
word_first app rule old arg made word is adds = IfOk-weaker made _ _ (λ new one. word_one old new arg rule one is app word) adds

-- a setting of an argument
pub rule_set : (rule : Rule) (change : Rule → Rule) (old new set : Arg) → IsRule rule old → new ≡ set → rule_of set ≡ change (rule_of old) →
    set.global ≡ old.global → IsRule (change rule) new
rule_set rule change old new set is are same local = record {
  rule_is = ap rule_of are ∙ same ∙ ap change is.rule_is;
  local = ap (λ (a : Arg). a.global) are ∙ local ∙ is.local;
}

-- ---- words

-- a setting of a word that changes what is read
pub word_set : (app : App) (change : App → App) (old new : Command) (fields : Command-F Command) → IsWord app old → fields_of new ≡ fields →
    app_of_fields fields ≡ change (app_of old) → fields.has_globals ≡ (fields_of old).has_globals → IsWord (change app) new
word_set app change old new fields word are same local = record {
  app_is = ap app_of_fields are ∙ same ∙ ap change word.app_is;
  local = ap (λ (f : Command-F Command). f.has_globals) are ∙ local ∙ word.local;
}

-- texts and settings that aren't options leave the word as it is
pub word_kept : (app : App) (old new : Command) (fields : Command-F Command) → IsWord app old → fields_of new ≡ fields →
    app_of_fields fields ≡ app_of old → fields.has_globals ≡ (fields_of old).has_globals → IsWord app new
word_kept app old new fields word are same local = record {
  app_is = ap app_of_fields are ∙ same ∙ word.app_is;
  local = ap (λ (f : Command-F Command). f.has_globals) are ∙ local ∙ word.local;
}

-- a word more
pub word_added : (app word : App) (old sub new : Command) → IsWord app old → IsWord word sub → AddsSubcommand old sub new →
    IsWord (with_subcommand app word.top) new
word_added app word old sub new is sub_is adds = record {
  app_is = adds.shape sub_is.local ∙
      ap₂ (λ (a : App) (s : Shape). with_subcommand a s) is.app_is (ap (λ (a : App). a.top) sub_is.app_is);
  local = adds.globals ∙ ap₂ (λ a b. a || b) is.local sub_is.local;
}

-- ---- what is read

program_is_simple : is_simple program ≡ true
unfolding program
program_is_simple = refl

pub program_is_free : is_simple_and_free program ≡ true
unfolding program
program_is_free = refl

-- the words and what is read by them
pub words_read : (command : Command) (words : List (List ℕ)) (matches : ArgMatches) → IsWord program command →
    HasMatchesOf (app_of command) words matches → subcommand_rows_of matches ≡ subcommand_of program words
words_read command words matches is has =
    (has (ap is_simple is.app_is ∙ program_is_simple)).1 ∙ ap (λ (a : App). subcommand_of a words) is.app_is
