-- The words of the program with their options (docs/USING.md; our own rule), in the form in which `clap` says what it reads.
use Rattle.std.specs.Prelude.{◌≡◌, ℕ, true, false, List, [], ◌∷◌, Option, Some, None, codes, fold}
use Rattle.clap.specs.Faults.{fault_of}
use Rattle.clap.specs.Kinds.{IsAmong}
use Rattle.clap.specs.Simple.{App, app_of, new_app, new_rule, subcommand_of, with_rule, with_subcommand}
use Rattle.clap.specs.Values.{kind_of}
use Rattle.clap.specs.Walk.{Rule, rule_of}
use Rattle.clap.specs.declared.builder.action.ArgAction.TheVariants.{Append, SetTrue}
use Rattle.clap.specs.declared.builder.arg.Arg.{Arg}
use Rattle.clap.specs.declared.builder.command.Command.{Command}
use Rattle.clap.specs.declared.builder.command.Command.TheViews.{out-Command as fields_of}
use Rattle.clap.specs.declared.error.kind.ErrorKind.{ErrorKind}
use Rattle.itip_moment.specs.declared.stamp.Stamp.{Stamp}
use Rattle.itip_words.specs.Asking.{IsAsked}
use Rattle.itip_words.specs.Calls.{IsCallBy}
use Rattle.itip_words.specs.Finding.{Never}
use Rattle.itip_words.specs.NoCalls.{IsHelp}
use Rattle.itip_words.specs.declared.no_call.NoCall.{NoCall}
use Rattle.itip_words.specs.declared.no_call.NoCall.TheVariants as no_call
use Rattle.itip_words.specs.declared.words.Call.{Call}

-- ---- options

-- a required value that is given by itself
abbrev pub positional : List ℕ → Rule
positional name = record (new_rule name) { value_names = 1; required = true }

-- `--name VALUE`
abbrev pub option : List ℕ → Rule
option name = record (new_rule name) { long = Some name; value_names = 1 }

-- the same, and it has to be given
abbrev pub needed : Rule → Rule
needed rule = record rule { required = true }

-- the same, and it may be given several times
abbrev pub repeated : Rule → Rule
repeated rule = record rule { action = Some Append }

-- the same, with this value if it isn't given
abbrev pub otherwise : List ℕ → Rule → Rule
otherwise value rule = record rule { defaults = value ∷ [] }

-- `--name`
abbrev pub flag : List ℕ → Rule
flag name = record (new_rule name) { long = Some name; action = Some SetTrue }

abbrev pub desks_rule : Rule
desks_rule = otherwise (codes "1") (option (codes "desks"))

abbrev pub days_rules : List Rule
days_rules = needed (option (codes "from")) ∷ needed (option (codes "to")) ∷ []

abbrev pub window_rules : List Rule
window_rules = option (codes "from") ∷ option (codes "to") ∷ option (codes "today") ∷ []

abbrev pub row_rules : List Rule
row_rules = option (codes "attendee") ∷ flag (codes "open") ∷ option (codes "due-before")
    ∷ otherwise (codes "text") (option (codes "format")) ∷ []

-- sources, and how they are read
abbrev pub intake_rules : List Rule
intake_rules = record (repeated (positional (codes "source"))) { required = false } ∷ option (codes "threads") ∷ flag (codes "progress")
    ∷ flag (codes "why") ∷ []

-- ---- words

abbrev pub with_rules : List Rule → App → App
with_rules rules app = fold with_rule app rules

-- a word with these options
abbrev pub word_with : List ℕ → List Rule → App
word_with name rules = with_rules rules (new_app name)

abbrev pub run_word : App
run_word = with_rule (with_rule (with_rule (with_rules days_rules (with_rule (new_app (codes "run")) desks_rule))
    (flag (codes "stream"))) (repeated (option (codes "load")))) (flag (codes "why"))

abbrev pub office_word : App
office_word =
    with_rule (with_rule (with_rules days_rules (with_rule (new_app (codes "office")) desks_rule))
    (otherwise (codes "1") (option (codes "workers")))) (flag (codes "why"))

abbrev pub check_word : App
check_word = with_rule (new_app (codes "check")) (flag (codes "why"))

abbrev pub compact_word : App
compact_word = with_rules intake_rules (with_rule (new_app (codes "compact")) (option (codes "output")))

abbrev pub list_word : App
list_word = with_rules intake_rules (with_rules row_rules (with_rules window_rules (new_app (codes "list"))))

abbrev pub report_word : App
report_word =
    with_rules intake_rules (with_rules window_rules (with_rule (new_app (codes "report")) (positional (codes "name"))))

abbrev pub news_word : App
news_word = with_rules intake_rules (with_rule (new_app (codes "news")) (needed (repeated (option (codes "than")))))

abbrev pub explain_word : App
explain_word = with_rules intake_rules (with_rule (new_app (codes "explain")) (positional (codes "uid")))

abbrev pub resend_word : App
resend_word =
    with_rules intake_rules (with_rule (with_rule (new_app (codes "resend")) (positional (codes "uid"))) (option (codes "at")))

abbrev pub request_word : App
request_word =
    with_rules intake_rules (with_rule (with_rule (new_app (codes "request")) (positional (codes "draft"))) (option (codes "at")))

abbrev pub reply_word : App
reply_word = with_rules intake_rules (word_with (codes "reply")
    (positional (codes "uid") ∷ needed (option (codes "attendee")) ∷ needed (option (codes "status")) ∷ option (codes "percent")
    ∷ option (codes "id") ∷ option (codes "at") ∷ []))

abbrev pub refresh_word : App
refresh_word = with_rules intake_rules (word_with (codes "refresh")
    (positional (codes "uid") ∷ needed (option (codes "attendee")) ∷ option (codes "id") ∷ option (codes "at") ∷ []))

abbrev pub cancel_word : App
cancel_word = with_rules intake_rules (word_with (codes "cancel")
    (positional (codes "uid") ∷ option (codes "id") ∷ flag (codes "onward") ∷ repeated (option (codes "attendee")) ∷ option (codes "at")
    ∷ []))

-- ---- the program

-- the program without its words; it needs one
abbrev pub no_word : App
no_word = record (new_app (codes "itipdesk")) {
  top = record (new_app (codes "itipdesk")).top {
    has_version = true;
    subcommand_required = true;
    arg_required_else_help = true;
  };
}

abbrev pub with_words : List App → App → App
with_words words app = fold (λ a w. with_subcommand a w.top) app words

abbrev pub message_words : List App
message_words = resend_word ∷ request_word ∷ reply_word ∷ refresh_word ∷ cancel_word ∷ []

-- The words of the program.
unfoldable pub program : App
program = with_words
    (run_word ∷ office_word ∷ check_word ∷ compact_word ∷ list_word ∷ report_word ∷ news_word ∷ explain_word ∷ message_words) no_word

-- `clap` finds no fault with these words, the first of which is the program's name, and they ask for the call, at the moment of a clock.
pub record IsAskedBy (words : List (List ℕ)) (clock : Option Stamp) (what : Call) : Type 0 where
  pub faultless : fault_of program words ≡ []
  pub asked : IsAsked (subcommand_of program words) clock what

-- `clap` finds a fault with these words other than that help is asked for.
pub record AreRefused (words : List (List ℕ)) : Type 0 where
  pub kind : ErrorKind
  pub among : IsAmong kind (fault_of program words)
  pub no_help : IsHelp kind → ⊥

-- `clap` finds no fault with these words, and they ask for no possible call, at the moment of a clock.
pub record AreBad (words : List (List ℕ)) (clock : Option Stamp) : Type 0 where
  pub faultless : fault_of program words ≡ []
  pub nothing : Never (IsCallBy (subcommand_of program words) clock)

-- Why nothing is run for these words, at the moment of a clock.
abbrev pub IsNoCall : List (List ℕ) → Option Stamp → NoCall → Type 0
IsNoCall words clock (no_call.Help error) = IsHelp (kind_of error) × IsAmong (kind_of error) (fault_of program words)
IsNoCall words clock (no_call.Refused error) = AreRefused words
IsNoCall words clock (no_call.BadValue text) = AreBad words clock
IsNoCall words clock no_call.NoClock = (clock ≡ None) × AreBad words clock
IsNoCall words clock no_call.NoMemory = Unit {0}

-- ---- what is built

-- the argument is this one
pub record IsRule (rule : Rule) (arg : Arg) : Type 0 where
  pub rule_is : rule_of arg ≡ rule
  pub local : arg.global ≡ false

-- the command is this word, or the program
pub record IsWord (app : App) (command : Command) : Type 0 where
  pub app_is : app_of command ≡ app
  pub local : (fields_of command).has_globals ≡ false
