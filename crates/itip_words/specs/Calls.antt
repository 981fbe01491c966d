-- What a call of the program asks for (our own form).
use Rattle.std.specs.Prelude.{ℕ, ◌+◌, nat_le, Bool, List, Option, map, codes, string_bytes, IfSome, IsSomeAnd, IsTrue}
use Rattle.itip_moment.specs.declared.stamp.Stamp.{Stamp}
use Rattle.itip_words.specs.declared.filter.Filter.{Filter}
use Rattle.itip_words.specs.declared.filter.Written.{Written}
use Rattle.itip_words.specs.declared.filter.Written.TheVariants as written
use Rattle.itip_words.specs.declared.words.Call.{Call}
use Rattle.itip_words.specs.declared.words.Call.TheVariants as call
use Rattle.itip_words.specs.declared.words.Scripted.{Scripted}
use Rattle.itip_words.specs.declared.streamed.Streamed.{Streamed}
use Rattle.itip_words.specs.Asking.{AsksStream, AsksFilter, Asks}
use Rattle.itip_words.specs.Options.{Options}
use Rattle.itip_words.specs.Streams.{AreLoads, names_of}
use Rattle.itip_words.specs.Words.{AreDesks, AreWorkers, AreThreads}
use Rattle.itip_words.specs.Values.{inputs}
use Rattle.itip_words.specs.Asked.{asked_word, inputs_of_draft}

-- of a call: P of how a script is run, if one is
abbrev pub IfRun : (Scripted → Type 0) → Call → Type 0
IfRun P (call.Run scripted) = P scripted
IfRun P (call.Stream streamed) = Unit {0}
IfRun P (call.Office scripted workers) = Unit {0}
IfRun P (call.Check why) = Unit {0}
IfRun P (call.Filter f) = Unit {0}

-- of a call: P of how a stream of commands is served, if one is
abbrev pub IfStream : (Streamed → Type 0) → Call → Type 0
IfStream P (call.Run scripted) = Unit {0}
IfStream P (call.Stream streamed) = P streamed
IfStream P (call.Office scripted workers) = Unit {0}
IfStream P (call.Check why) = Unit {0}
IfStream P (call.Filter f) = Unit {0}

-- there can be this many desks, and each that is loaded from a file is loaded from one file
pub record AreStreamed (streamed : Streamed) : Type 0 where
  pub desks : AreDesks streamed.scripted.desks
  pub loads : AreLoads streamed.scripted.desks (names_of streamed.loads.items)

-- of a call: P of how the jobs of a script are run and by how many workers, if they are
abbrev pub IfOffice : (Scripted → ℕ → Type 0) → Call → Type 0
IfOffice P (call.Run scripted) = Unit {0}
IfOffice P (call.Stream streamed) = Unit {0}
IfOffice P (call.Office scripted workers) = P scripted workers
IfOffice P (call.Check why) = Unit {0}
IfOffice P (call.Filter f) = Unit {0}

-- of a call: P of how messages are read and what is written of them, if they are
abbrev pub IfFilter : (Filter → Type 0) → Call → Type 0
IfFilter P (call.Run scripted) = Unit {0}
IfFilter P (call.Stream streamed) = Unit {0}
IfFilter P (call.Office scripted workers) = Unit {0}
IfFilter P (call.Check why) = Unit {0}
IfFilter P (call.Filter f) = P f

-- there can be such an office
abbrev pub AreOffice : Scripted → ℕ → Type 0
AreOffice scripted workers = AreDesks scripted.desks × AreWorkers workers

-- the word that writes it
abbrev pub word_of : Written → List ℕ
word_of (written.Compaction output) = codes "compact"
word_of (written.List listing) = codes "list"
word_of (written.Report reported) = codes "report"
word_of (written.News than) = codes "news"
word_of (written.Explanation uid) = codes "explain"
word_of (written.Message asked at) = asked_word asked

-- how often standard input is read before the sources
abbrev pub inputs_before : Written → ℕ
inputs_before (written.Compaction output) = 0
inputs_before (written.List listing) = 0
inputs_before (written.Report reported) = 0
inputs_before (written.News than) = inputs (map string_bytes than.items)
inputs_before (written.Explanation uid) = 0
inputs_before (written.Message asked at) = inputs_of_draft asked

-- Standard input is read at most once.
abbrev pub reads_input_once : Filter → Bool
reads_input_once asked = nat_le (inputs_before asked.written + inputs (map string_bytes asked.intake.sources.items)) 1

-- Messages can be read like this: on 1 to 8 threads if a number is given, and with standard input read at most once.
pub record CanFilter (asked : Filter) : Type 0 where
  pub few : IfSome asked.intake.threads AreThreads
  pub once : IsTrue (reads_input_once asked)

-- there can be such a call
abbrev pub CanBe : Call → Type 0
CanBe (call.Run scripted) = AreDesks scripted.desks
CanBe (call.Stream streamed) = AreStreamed streamed
CanBe (call.Office scripted workers) = AreOffice scripted workers
CanBe (call.Check why) = Unit {0}
CanBe (call.Filter f) = CanFilter f

-- ---- calls that are possible, and are asked for

pub record IsStreamOf (options : Options) (streamed : Streamed) : Type 0 where
  pub asked : AsksStream options streamed
  pub possible : AreStreamed streamed

pub record IsFilterOf (word : List ℕ) (options : Options) (clock : Option Stamp) (filter : Filter) : Type 0 where
  pub asked : AsksFilter word options clock filter
  pub possible : CanFilter filter

pub record IsCallOf (word : List ℕ) (options : Options) (clock : Option Stamp) (what : Call) : Type 0 where
  pub asked : Asks word options clock what
  pub possible : CanBe what

-- the same for a word that is given with its options
abbrev pub IsCallBy : Option (List ℕ × Options) → Option Stamp → Call → Type 0
IsCallBy given clock what = IsSomeAnd given (λ words. IsCallOf words.0 words.1 clock what)
