-- What each kind of call comes to, and the status that tells it (docs/USING.md; our own rule).
use Rattle.std.specs.Prelude.{◌≡◌, ◌⊎◌, ℕ, Bool, List, Option, Some, None, Result, Ok, Err, IfOk, IfErr, OnErr, IfSome, IsErrOf}
use Rattle.std.specs.Io.KnownBytes.{Keeps}
use Rattle.itip_streams.specs.Written.{AppendsFront, WritesOutput}
use Rattle.itip_streams.specs.declared.fault.StreamFault.{StreamFault}
use Rattle.itip_streams.specs.declared.fault.StreamFault.TheVariants.{Read}
use Rattle.itip_streams.specs.declared.source_name.SourceName.{SourceName}
use Rattle.itip_inbox.specs.Compaction.{IsCompaction}
use Rattle.itip_inbox.specs.Inbox.{AreInputs}
use Rattle.itip_inbox.specs.Shown.{IsShown}
use Rattle.itip_desk.specs.Refusals.{number_of_file}
use Rattle.itip_message.specs.RefusalNumbers.{number_of}
use Rattle.itip_message.specs.declared.error.MessageRefusal.{MessageRefusal}
use Rattle.itip_moment.specs.declared.stamp.Stamp.{Stamp}
use Rattle.itip_world.specs.Running.{IsOutput, WritesRunFront}
use Rattle.itip_office.specs.Scripts.{IsScriptOutput, WritesScriptFront}
use Rattle.itip_office.specs.declared.error.OfficeError.{OfficeError}
use Rattle.itip_office.specs.declared.error.ScriptError.{ScriptError}
use Rattle.itip_office.specs.declared.error.ScriptError.TheVariants as script
use Rattle.itip_words.specs.Program.{IsAskedBy, IsNoCall}
use Rattle.itip_words.specs.declared.filter.Filter.{Filter}
use Rattle.itip_words.specs.declared.filter.Written.{Written}
use Rattle.itip_words.specs.declared.filter.Written.TheVariants as written
use Rattle.itip_words.specs.declared.no_call.NoCall.{NoCall}
use Rattle.itip_words.specs.declared.streamed.Streamed.{Streamed}
use Rattle.itip_words.specs.declared.words.Call.{Call}
use Rattle.itip_words.specs.declared.words.Call.TheVariants as call
use Rattle.itip_words.specs.declared.words.Scripted.{Scripted}
use Rattle.itip_app.specs.Filtered.{Filters, FiltersFront, Writes}
use Rattle.itip_app.specs.Status.{status_shown, status_filtered, status_served, IsUnreadable, IfFileRefused, IsStatusOfNoCall}
use Rattle.itip_app.specs.Streamed.{ServesStream, IsUnserved}
use Rattle.itip_app.specs.declared.draft.Draft.{Draft}
use Rattle.itip_app.specs.declared.filters.Outcome.{Outcome}
use Rattle.itip_app.specs.declared.given.NoWords.{NoWords}
use Rattle.itip_app.specs.declared.given.NoWords.TheVariants as no_words
use Rattle.itip_app.specs.declared.stream.Unserved.{Unserved}

-- `explains` tells for which call it was asked what its watch is to say. `tells` tells with which number a refusal was said, and with which
-- flag: with its cause if that is set. `reads` tells for which filter it was asked on how many threads it reads, `employs` how many workers
-- were asked for, `shows` whether it could be said why nothing is run, `gives` which words the program was given, or why none, `ticks`
-- which moment its clock showed, or none, and `input_of` what a reader of standard input gives.

-- ---- a script

-- What a run of a script comes to: its output was written, and it is known whether that tells of a refusal; or after a fault a prefix
-- of it was, and nothing if the script could not be read.
pub record RunComesTo (scripted : Scripted) (input old new : Option (List ℕ)) (done : Result Bool StreamFault) : Type 0 where
  pub output : IfOk done (λ refusal. IfSome input (λ text.
      WritesOutput (IsOutput scripted.window scripted.desks text) old new refusal))
  pub front : OnErr done (IfSome input (λ text. WritesRunFront scripted.window scripted.desks old new text))
  pub unread : IsErrOf done Read → Keeps old new

-- The status is that of what the run came to.
pub record EndsRun (scripted : Scripted) (input old new : Option (List ℕ)) (status : ℕ) : Type 0 where
  pub done : Result Bool StreamFault
  pub comes : RunComesTo scripted input old new done
  pub status_is : status ≡ status_shown done

-- ---- the jobs of a script

-- What an office comes to: the same for its jobs; and nothing was written if it ended with an error of its own.
pub record OfficeComesTo (scripted : Scripted) (input old new : Option (List ℕ)) (done : Result Bool ScriptError) : Type 0 where
  pub output : IfOk done (λ refusal. IfSome input (λ text.
      WritesOutput (IsScriptOutput scripted.window scripted.desks text) old new refusal))
  pub front : OnErr done (IfSome input (λ text. WritesScriptFront scripted.window scripted.desks old new text))
  pub unread : IsErrOf done (script.Stream Read) → Keeps old new
  pub unended : (error : OfficeError) → IsErrOf done (script.Office error) → Keeps old new

-- It was asked for as many workers, and the status is that of what the office came to.
pub record EndsOffice (employs : ℕ → Type 0) (scripted : Scripted) (workers : ℕ) (input old new : Option (List ℕ)) (status : ℕ) : Type 0
  where
    pub employed : employs workers
    pub done : Result Bool ScriptError
    pub comes : OfficeComesTo scripted input old new done
    pub status_is : status ≡ status_shown done

-- ---- a message that is shown

-- What showing a message comes to: its items were written, or its refusal; or after a fault a prefix of that, and nothing if a read
-- failed.
pub record ShowingComesTo (input old new : Option (List ℕ)) (done : Result Bool StreamFault) : Type 0 where
  pub output : IfOk done (λ refused. IfSome input (λ text. WritesOutput (IsShown text) old new refused))
  pub front : OnErr done (IfSome input (λ text. (shown : List ℕ) (refused : Bool) → IsShown text shown refused →
      AppendsFront old new shown))
  pub unread : IsErrOf done Read → Keeps old new

-- The status is that of what the showing came to.
pub record EndsShowing (input old new : Option (List ℕ)) (status : ℕ) : Type 0 where
  pub done : Result Bool StreamFault
  pub comes : ShowingComesTo input old new done
  pub status_is : status ≡ status_shown done

-- ---- a filter

-- What a filter comes to, whatever its sources give: what is asked for was written, and it is known whether that tells of a refusal, or
-- why nothing was written; or after a fault a prefix of it was written, and nothing if a source could not be read.
pub record FilterComesTo {I : Type 0} (remaining : I → Option (List ℕ)) (written : Written) (draft : Draft) (names : List SourceName)
    (than sources : List I) (old new : Option (List ℕ)) (done : Result Outcome StreamFault) : Type 0
  where
    pub output : IfOk done (λ outcome. (known inputs : List (List ℕ)) →
        AreInputs remaining than known → AreInputs remaining sources inputs →
        Filters written draft names known inputs old new outcome)
    pub front : OnErr done ((known inputs : List (List ℕ)) →
        AreInputs remaining than known → AreInputs remaining sources inputs →
        FiltersFront written draft names known inputs old new)
    pub unread : IsErrOf done Read → Keeps old new

-- a draft or a message to be written that is refused was told by its number, and with its cause if this flag is set
abbrev pub TellsRefused : (ℕ → Bool → Type 0) → Bool → Result Outcome StreamFault → Type 0
TellsRefused tells why done =
    IfOk done (λ outcome. (refusal : MessageRefusal) → IsUnreadable outcome.undone refusal → tells (number_of refusal) why)

-- It was asked on how many threads this filter reads, and the status is that of what the filter came to.
pub record EndsFilter {I : Type 0} (remaining : I → Option (List ℕ)) (tells : ℕ → Bool → Type 0) (reads : Filter → Type 0)
    (filter : Filter) (draft : Draft) (names : List SourceName) (than sources : List I) (old new : Option (List ℕ)) (status : ℕ) : Type 0
  where
    pub asked : reads filter
    pub done : Result Outcome StreamFault
    pub comes : FilterComesTo remaining filter.written draft names than sources old new done
    pub told : TellsRefused tells filter.intake.why done
    pub status_is : status ≡ status_filtered done

-- The status of replacing a file: it says whether a message of the sources was refused, or that there was a fault. Nothing is known of the
-- file.
pub record EndsReplacing {I : Type 0} (remaining : I → Option (List ℕ)) (tells : ℕ → Bool → Type 0) (reads : Filter → Type 0)
    (filter : Filter) (sources : List I) (status : ℕ) : Type 0
  where
    pub asked : reads filter
    pub done : Result Outcome StreamFault
    pub output : IfOk done (λ outcome. (inputs : List (List ℕ)) → AreInputs remaining sources inputs →
        Writes (IsCompaction inputs) None None outcome)
    pub told : TellsRefused tells filter.intake.why done
    pub status_is : status ≡ status_filtered done

-- a file is to be replaced
abbrev pub ReplacesFile : Written → Type 0
ReplacesFile (written.Compaction None) = ⊥
ReplacesFile (written.Compaction (Some name)) = Unit {0}
ReplacesFile (written.List asked) = ⊥
ReplacesFile (written.Report asked) = ⊥
ReplacesFile (written.News than) = ⊥
ReplacesFile (written.Explanation uid) = ⊥
ReplacesFile (written.Message asked at) = ⊥

-- Some sources are filtered, to some output; if a file is to be replaced, the status is that of a compaction. Or the status is 3, as it is
-- if there is no memory for sources: the clause doesn't say when.
pub data EndsSources {I : Type 0} (remaining : I → Option (List ℕ)) (tells : ℕ → Bool → Type 0) (reads : Filter → Type 0)
    (filter : Filter) (draft : Draft) (status : ℕ) : Type 0
  where
    unheld : status ≡ 3 → EndsSources remaining tells reads filter draft status
    replaced : (sources : List I) → ReplacesFile filter.written → EndsReplacing remaining tells reads filter sources status
        → EndsSources remaining tells reads filter draft status
    filtered : (names : List SourceName) (than sources : List I) (old new : Option (List ℕ)) → ¬ ReplacesFile filter.written
        → EndsFilter remaining tells reads filter draft names than sources old new status
        → EndsSources remaining tells reads filter draft status

-- With some draft, sources are filtered.
pub record EndsWithDraft {I : Type 0} (remaining : I → Option (List ℕ)) (tells : ℕ → Bool → Type 0) (reads : Filter → Type 0)
    (filter : Filter) (status : ℕ) : Type 0
  where
    pub draft : Draft
    pub ends : EndsSources remaining tells reads filter draft status

-- The same; or the status is 3, as it is if the draft can't be read or there is no memory for names: the clause doesn't say when.
abbrev pub EndsFiltered : {I : Type 0} → (I → Option (List ℕ)) → (ℕ → Bool → Type 0) → (Filter → Type 0) → Filter → ℕ → Type 0
EndsFiltered remaining tells reads filter status = (status ≡ 3) ⊎ EndsWithDraft remaining tells reads filter status

-- ---- a stream of commands

-- What serving a stream comes to: it was served to its end, a desk can't be loaded from its file, or there was a fault.
pub record ServingComesTo (holds : List ℕ → Option (List ℕ) → Type 0) (streamed : Streamed) (input left old new : Option (List ℕ))
    (done : Result Bool Unserved) : Type 0
  where
    pub served : IfOk done (ServesStream holds streamed input left old new)
    pub unserved : IfErr done (IsUnserved holds streamed input left old new)

-- The status is that of what the serving came to.
pub record EndsServing (holds : List ℕ → Option (List ℕ) → Type 0) (tells : ℕ → Bool → Type 0) (streamed : Streamed)
    (input left old new : Option (List ℕ)) (status : ℕ) : Type 0
  where
    pub done : Result Bool Unserved
    pub comes : ServingComesTo holds streamed input left old new done
    pub told : IfFileRefused done (λ refusal. tells (number_of_file refusal) streamed.scripted.why)
    pub status_is : status ≡ status_served done

-- ---- all of them

-- The status is that of what was asked for. A filter has its own sources and output: `remaining` is what is left of a source.
pub data EndsCall {I : Type 0} (holds : List ℕ → Option (List ℕ) → Type 0) (remaining : I → Option (List ℕ)) (tells : ℕ → Bool → Type 0)
    (reads : Filter → Type 0) (employs : ℕ → Type 0) (what : Call) (input left old new : Option (List ℕ)) (status : ℕ) : Type 0
  where
    of_run : (scripted : Scripted) → what ≡ call.Run scripted → EndsRun scripted input old new status
        → EndsCall holds remaining tells reads employs what input left old new status
    of_stream : (streamed : Streamed) → what ≡ call.Stream streamed → EndsServing holds tells streamed input left old new status
        → EndsCall holds remaining tells reads employs what input left old new status
    of_office : (scripted : Scripted) (workers : ℕ) → what ≡ call.Office scripted workers
        → EndsOffice employs scripted workers input old new status →
        EndsCall holds remaining tells reads employs what input left old new status
    of_check : (why : Bool) → what ≡ call.Check why → EndsShowing input old new status
        → EndsCall holds remaining tells reads employs what input left old new status
    of_filter : (asked : Filter) → what ≡ call.Filter asked → EndsFiltered remaining tells reads asked status
        → EndsCall holds remaining tells reads employs what input left old new status

-- ---- the program

-- nothing is known of what files hold
abbrev pub AnyFile : List ℕ → Option (List ℕ) → Type 0
AnyFile name octets = Unit {0}

-- It was asked what the watch of this call is to say, and the status is that of this call over some reader of standard input and some
-- output: nothing is known here of what standard output holds. `call_on` says it of every reader and writer.
pub record EndsDone {I D : Type 0} (remaining : I → Option (List ℕ)) (input_of : D → Option (List ℕ)) (explains : Call → Type 0)
    (tells : ℕ → Bool → Type 0) (reads : Filter → Type 0) (employs : ℕ → Type 0) (what : Call) (status : ℕ) : Type 0
  where
    pub explained : explains what
    pub reader : D
    pub left : Option (List ℕ)
    pub old : Option (List ℕ)
    pub new : Option (List ℕ)
    pub ends : EndsCall AnyFile remaining tells reads employs what (input_of reader) left old new status

-- The same; or the status is 3, as it is if there is no memory for reading: the clause doesn't say when.
abbrev pub EndsCalled : {I D : Type 0} → (I → Option (List ℕ)) → (D → Option (List ℕ)) → (Call → Type 0) → (ℕ → Bool → Type 0) →
    (Filter → Type 0) → (ℕ → Type 0) → Call → ℕ → Type 0
EndsCalled remaining input_of explains tells reads employs what status =
    (status ≡ 3) ⊎ EndsDone remaining input_of explains tells reads employs what status

-- The status is that of the call that the given words ask for at the moment of the clock, or of why nothing is run for them.
pub record EndsWords {I D : Type 0} (remaining : I → Option (List ℕ)) (input_of : D → Option (List ℕ))
    (gives : Result (List (List ℕ)) NoWords → Type 0) (ticks : Option Stamp → Type 0) (shows : NoCall → Bool → Type 0)
    (explains : Call → Type 0) (tells : ℕ → Bool → Type 0) (reads : Filter → Type 0) (employs : ℕ → Type 0) (status : ℕ) : Type 0
  where
    pub words : List (List ℕ)
    pub given : gives (Ok words)
    pub clock : Option Stamp
    pub ticked : ticks clock
    pub what : Result Call NoCall
    pub asked : IfOk what (IsAskedBy words clock)
    pub unasked : IfErr what (IsNoCall words clock)
    pub called : IfOk what (λ asked. EndsCalled remaining input_of explains tells reads employs asked status)
    pub not_run : IfErr what (λ why. IsStatusOfNoCall (shows why) why status)

-- The same; or the words can't be had: the status is 2 if one is no text, and 3 if an allocation failed.
abbrev pub EndsProgram : {I D : Type 0} → (I → Option (List ℕ)) → (D → Option (List ℕ)) → (Result (List (List ℕ)) NoWords → Type 0) →
    (Option Stamp → Type 0) → (NoCall → Bool → Type 0) → (Call → Type 0) → (ℕ → Bool → Type 0) → (Filter → Type 0) → (ℕ → Type 0) →
    ℕ → Type 0
EndsProgram remaining input_of gives ticks shows explains tells reads employs status =
    ((status ≡ 2) × gives (Err no_words.NoText)) ⊎ (((status ≡ 3) × gives (Err no_words.NoMemory)) ⊎
    EndsWords remaining input_of gives ticks shows explains tells reads employs status)
