-- Why nothing is run.
use Rattle.std.proofs.Common.{◌≡◌, ◌≢◌, ℕ, List, [], true, Option, inl, inr, sym, ap, subst, ◌∙◌}
use Rattle.clap.specs.Faults.{fault_of, is_simple_and_free}
use Rattle.clap.specs.Kinds.{HasKind, IsAmong, Kinds}
use Rattle.clap.specs.Simple.{App, app_of, subcommand_of}
use Rattle.clap.specs.Values.{kind_of}
use Rattle.clap.specs.declared.builder.command.Command.{Command}
use Rattle.clap.specs.declared.error.Error.{Error}
use Rattle.clap.specs.declared.error.kind.ErrorKind.{ErrorKind}
use Rattle.clap.specs.declared.error.kind.ErrorKind.TheVariants.{DisplayHelp, DisplayVersion, OutOfMemory}
use Rattle.itip_moment.specs.declared.stamp.Stamp.{Stamp}
use Rattle.itip_words.specs.Calls.{IsCallBy}
use Rattle.itip_words.specs.Finding.{Never}
use Rattle.itip_words.specs.NoCalls.{IsHelp, IsToldOf, IsCause}
use Rattle.itip_words.specs.Program.{IsWord, IsNoCall, program}
use Rattle.itip_words.specs.declared.no_call.NoCall.{NoCall}
use Rattle.itip_words.specs.declared.no_call.NoCall.TheVariants as no_call
use Rattle.itip_words.proofs.Programs.{program_is_free}

-- of what follows
pub cause_more : (A B : Type 0) (clock : Option Stamp) (why : NoCall) → (A → B) → IsCause A clock why → IsCause B clock why
cause_more A B clock (no_call.Help error) more is = is
cause_more A B clock (no_call.Refused error) more is = is
cause_more A B clock (no_call.BadValue text) more is = more is
cause_more A B clock no_call.NoClock more is = (is.0, more is.1)
cause_more A B clock no_call.NoMemory more is = tt

-- ---- what `clap` refuses

pub no_help : (kind : ErrorKind) → kind ≢ DisplayHelp → kind ≢ DisplayVersion → IsHelp kind → ⊥
no_help kind help version (inl e) = help e
no_help kind help version (inr e) = version e

help_apart : (kind : ErrorKind) → IsHelp kind → kind ≢ OutOfMemory
help_apart kind (inl help) = λ memory. let bad : DisplayHelp ≡ OutOfMemory = sym help ∙ memory in absurd cc
help_apart kind (inr version) = λ memory. let bad : DisplayVersion ≡ OutOfMemory = sym version ∙ memory in absurd cc

among_kinds : (kinds : Kinds) (error : Error) → HasKind kinds error → kind_of error ≢ OutOfMemory → IsAmong (kind_of error) kinds
among_kinds kinds error (inl memory) other = absurd (other memory)
among_kinds kinds error (inr among) other = among

module _ (command : Command) (words : List (List ℕ)) (is : IsWord program command) where
  free_here : is_simple_and_free (app_of command) ≡ true
  free_here = ap is_simple_and_free is.app_is ∙ program_is_free

  -- words that are taken have no fault
  pub faultless : (is_simple_and_free (app_of command) ≡ true → fault_of (app_of command) words ≡ []) → fault_of program words ≡ []
  faultless none = sym (ap (λ (a : App). fault_of a words) is.app_is) ∙ none free_here

  -- and an error that isn't of memory is of a kind that they have
  among_faults : (error : Error) → (is_simple_and_free (app_of command) ≡ true → HasKind (fault_of (app_of command) words) error) →
      kind_of error ≢ OutOfMemory → IsAmong (kind_of error) (fault_of program words)
  among_faults error has other =
      subst (λ (a : App). IsAmong (kind_of error) (fault_of a words)) is.app_is (among_kinds _ error (has free_here) other)

  pub told_of : (clock : Option Stamp) (error : Error) (why : NoCall) →
      (is_simple_and_free (app_of command) ≡ true → HasKind (fault_of (app_of command) words) error) → IsToldOf error why →
      IsNoCall words clock why
  told_of clock error (no_call.Help told) has told_is =
      subst (λ (e : Error). IsHelp (kind_of e) × IsAmong (kind_of e) (fault_of program words)) (sym told_is.0)
      (told_is.1, among_faults error has (help_apart (kind_of error) told_is.1))
  told_of clock error (no_call.Refused told) has told_is =
      record { kind = kind_of error; among = among_faults error has told_is.1; no_help = told_is.0 }
  told_of clock error (no_call.BadValue text) has told_is = absurd told_is
  told_of clock error no_call.NoClock has told_is = absurd told_is
  told_of clock error no_call.NoMemory has told_is = absurd told_is

-- why there is no call of words that are taken
pub cause_of : (words : List (List ℕ)) (clock : Option Stamp) (why : NoCall) → fault_of program words ≡ [] →
    IsCause (Never (IsCallBy (subcommand_of program words) clock)) clock why → IsNoCall words clock why
cause_of words clock (no_call.Help error) none is = absurd is
cause_of words clock (no_call.Refused error) none is = absurd is
cause_of words clock (no_call.BadValue text) none is = record { faultless = none; nothing = is }
cause_of words clock no_call.NoClock none is = (is.0, record { faultless = none; nothing = is.1 })
cause_of words clock no_call.NoMemory none is = tt
