-- Why nothing is run (our own form).
use Rattle.std.specs.Prelude.{◌≡◌, ◌≢◌, ◌⊎◌, Option, None}
use Rattle.clap.specs.Values.{kind_of}
use Rattle.clap.specs.declared.error.Error.{Error}
use Rattle.clap.specs.declared.error.kind.ErrorKind.{ErrorKind}
use Rattle.clap.specs.declared.error.kind.ErrorKind.TheVariants.{DisplayHelp, DisplayVersion, OutOfMemory}
use Rattle.itip_moment.specs.declared.stamp.Stamp.{Stamp}
use Rattle.itip_words.specs.declared.no_call.NoCall.{NoCall}
use Rattle.itip_words.specs.declared.no_call.NoCall.TheVariants as no_call

-- help or the version is asked for
abbrev pub IsHelp : ErrorKind → Type 0
IsHelp kind = (kind ≡ DisplayHelp) ⊎ (kind ≡ DisplayVersion)

-- An error of `clap`, other than out of memory, is told as help if it is of help, and else as that of words that are refused.
abbrev pub IsToldOf : Error → NoCall → Type 0
IsToldOf error (no_call.Help told) = (told ≡ error) × IsHelp (kind_of error)
IsToldOf error (no_call.Refused told) = (IsHelp (kind_of error) → ⊥) × (kind_of error ≢ OutOfMemory)
IsToldOf error (no_call.BadValue text) = ⊥
IsToldOf error no_call.NoClock = ⊥
IsToldOf error no_call.NoMemory = ⊥

-- Why there is no call for words that `clap` takes: a value is bad or there is no clock, and `Nothing`, which says that there is no such
-- call, holds; or an allocation failed.
abbrev pub IsCause : Type 0 → Option Stamp → NoCall → Type 0
IsCause Nothing clock (no_call.Help error) = ⊥
IsCause Nothing clock (no_call.Refused error) = ⊥
IsCause Nothing clock (no_call.BadValue text) = Nothing
IsCause Nothing clock no_call.NoClock = (clock ≡ None) × Nothing
IsCause Nothing clock no_call.NoMemory = Unit {0}
