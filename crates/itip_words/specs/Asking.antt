-- What the options of a call ask for, by docs/USING.md (our own rule).
use Rattle.std.specs.Prelude.{◌≡◌, ◌⊎◌, ℕ, nat_eq, ℤ, Bool, true, false, not, ◌||◌, if◌then◌else◌, List, [], ◌∷◌, map, codes, string_bytes}
use Rattle.std.specs.Prelude.{Option, Some, None, is_some, option_map, unwrap_or, IsSomeAnd, MatchBool}
use Rattle.std.specs.Option.{option_map_or}
use Rattle.std.specs.Cmp.Lexicographic.{pointwise}
use Rattle.itip_moment.specs.Spelling.{IsDateText, IsStampText}
use Rattle.itip_moment.specs.declared.moment.Moment.{Moment}
use Rattle.itip_moment.specs.declared.stamp.Stamp.{Stamp}
use Rattle.itip_report.specs.Named.{IsOfRows}
use Rattle.itip_report.specs.declared.report_name.ReportName.{ReportName}
use Rattle.itip_script.specs.Orders.{report_of}
use Rattle.itip_todo.specs.declared.attendee.PartStat.{PartStat}
use Rattle.itip_words.specs.Options.{Options, value_of, values_of, is_set}
use Rattle.itip_words.specs.Words.{desks_of, workers_of, threads_of}
use Rattle.itip_words.specs.Values.{address_of, is_input}
use Rattle.itip_words.specs.AskedValues.{IsMomentName, percent_of, answer_named}
use Rattle.itip_words.specs.Days.{IsAskedWindow, is_today}
use Rattle.itip_words.specs.declared.asked.Asked.{Asked}
use Rattle.itip_words.specs.declared.asked.Asked.TheVariants as asked
use Rattle.itip_words.specs.declared.filter.Filter.{Filter}
use Rattle.itip_words.specs.declared.filter.Format.{Format}
use Rattle.itip_words.specs.declared.filter.Format.TheVariants as format
use Rattle.itip_words.specs.declared.filter.Intake.{Intake}
use Rattle.itip_words.specs.declared.filter.Listing.{Listing}
use Rattle.itip_words.specs.declared.filter.Reported.{Reported}
use Rattle.itip_words.specs.declared.filter.Written.{Written}
use Rattle.itip_words.specs.declared.filter.Written.TheVariants as written
use Rattle.itip_words.specs.declared.words.Call.{Call}
use Rattle.itip_words.specs.declared.words.Call.TheVariants as call
use Rattle.itip_words.specs.declared.words.Scripted.{Scripted}
use Rattle.itip_words.specs.declared.streamed.Streamed.{Streamed}
use Rattle.itip_words.specs.Streams.{load_of, names_of}

-- A value is there exactly if its text is given, and then the text stands for it.
abbrev pub IsRead : {T : Type 0} → (List ℕ → T → Type 0) → Option (List ℕ) → Option T → Type 0
IsRead Is None None = Unit {0}
IsRead Is None (Some value) = ⊥
IsRead Is (Some text) None = ⊥
IsRead Is (Some text) (Some value) = Is text value

-- ---- scripts

-- The desks of `--desks`, the days from that of `--from` up to that of `--to`, and whether `--why` is given.
pub record AsksScript (options : Options) (scripted : Scripted) : Type 0 where
  pub desks : IsSomeAnd (value_of (codes "desks") options) (λ text. desks_of text ≡ Some scripted.desks)
  pub first : IsSomeAnd (value_of (codes "from") options) (λ text. IsDateText text scripted.window.from)
  pub after : IsSomeAnd (value_of (codes "to") options) (λ text. IsDateText text scripted.window.to)
  pub why : scripted.why ≡ is_set (codes "why") options

-- The same for a script that is no stream: no desk is loaded from a file.
pub record AsksRun (options : Options) (scripted : Scripted) : Type 0 where
  pub script : AsksScript options scripted
  pub no_loads : values_of (codes "load") options ≡ None

-- The same for a stream; the desks that `--load` names are loaded from its files.
pub record AsksStream (options : Options) (streamed : Streamed) : Type 0 where
  pub script : AsksScript options streamed.scripted
  pub loads : map load_of (unwrap_or (values_of (codes "load") options) []) ≡ map Some (names_of streamed.loads.items)

-- the workers of `--workers`
abbrev pub AsksWorkers : Options → ℕ → Type 0
AsksWorkers options workers = IsSomeAnd (value_of (codes "workers") options) (λ text. workers_of text ≡ Some workers)

-- ---- how messages are read

-- a draft is read from standard input
abbrev pub reads_draft : Options → Bool
reads_draft options = option_map_or is_input (value_of (codes "draft") options) false

-- The sources that are named; if none are, standard input, unless a draft is read from there.
abbrev pub sources_of : Options → List (List ℕ)
sources_of options = unwrap_or (values_of (codes "source") options) (if reads_draft options then [] else codes "-" ∷ [])

-- the number that a text spells
abbrev pub AreThreadsOf : List ℕ → ℕ → Type 0
AreThreadsOf text threads = threads_of text ≡ Some threads

pub record AsksIntake (options : Options) (intake : Intake) : Type 0 where
  pub sources : map string_bytes intake.sources.items ≡ sources_of options
  pub threads : IsRead AreThreadsOf (value_of (codes "threads") options) intake.threads
  pub progress : intake.progress ≡ is_set (codes "progress") options
  pub why : intake.why ≡ is_set (codes "why") options

-- ---- rows

-- The day that is taken as today: that of the text if it is given, else that of the clock.
abbrev pub IsToday : Option (List ℕ) → Option Stamp → Option ℤ → Type 0
IsToday None clock today = today ≡ option_map (λ (stamp : Stamp). stamp.day) clock
IsToday (Some text) clock today = IsSomeAnd today (IsDateText text)

-- the day of a text that is a date, or `today`
abbrev pub IsDueDay : Option ℤ → List ℕ → ℤ → Type 0
IsDueDay today text day = MatchBool (is_today text) (today ≡ Some day) (IsDateText text day)

-- the word for a page
abbrev pub is_page : List ℕ → Bool
is_page text = pointwise nat_eq text (codes "html")

-- the format that a text names; a page has the day that is taken as today
abbrev pub IsFormatNamed : Option ℤ → List ℕ → Format → Type 0
IsFormatNamed today text format.Text = text ≡ codes "text"
IsFormatNamed today text format.Csv = text ≡ codes "csv"
IsFormatNamed today text format.Json = text ≡ codes "json"
IsFormatNamed today text (format.Html day) = (text ≡ codes "html") × (today ≡ Some day.number)

-- the format of `--format`
abbrev pub IsFormatGiven : Options → Option ℤ → Format → Type 0
IsFormatGiven options today form = IsSomeAnd (value_of (codes "format") options) (λ text. IsFormatNamed today text form)

-- an end of the window is given
abbrev pub names_window : Options → Bool
names_window options = is_some (value_of (codes "from") options) || is_some (value_of (codes "to") options)

abbrev pub is_due_today : Options → Bool
is_due_today options = option_map_or is_today (value_of (codes "due-before") options) false

abbrev pub is_of_page : Options → Bool
is_of_page options = option_map_or is_page (value_of (codes "format") options) false

-- the rows, or how they are written, depend on the day that is taken as today
abbrev pub needs_today : Options → Bool
needs_today options = not (names_window options) || is_due_today options || is_of_page options

-- no day is taken as today, and something depends on it
pub record LacksToday (options : Options) (clock : Option Stamp) (needs : Bool) : Type 0 where
  pub late : clock ≡ None
  pub unnamed : value_of (codes "today") options ≡ None
  pub needed : needs ≡ true

-- The rows of the window of `--from` and `--to` that `--attendee`, `--open` and `--due-before` leave.
pub record AsksListing (options : Options) (clock : Option Stamp) (listing : Listing) : Type 0 where
  pub today : Option ℤ
  pub today_is : IsToday (value_of (codes "today") options) clock today
  pub window : IsAskedWindow (value_of (codes "from") options) (value_of (codes "to") options) today
      (is_some (value_of (codes "due-before") options)) listing.window
  pub attendee : option_map string_bytes listing.attendee ≡ option_map address_of (value_of (codes "attendee") options)
  pub is_open : listing.is_open ≡ is_set (codes "open") options
  pub due : IsRead (IsDueDay today) (value_of (codes "due-before") options) listing.due_before
  pub form : IsFormatGiven options today listing.format

-- one of the words for days is given
abbrev pub names_days : Options → Bool
names_days options =
    is_some (value_of (codes "from") options) || is_some (value_of (codes "to") options) || is_some (value_of (codes "today") options)

-- A report is named; only those of rows take days.
pub record IsReportNamed (options : Options) (name : ReportName) : Type 0 where
  pub named : IsSomeAnd (value_of (codes "name") options) (λ text. report_of text ≡ Some name)
  pub days : IsOfRows name ⊎ (names_days options ≡ false)

-- The report of this name; only those of rows take days.
pub record AsksReport (options : Options) (clock : Option Stamp) (reported : Reported) : Type 0 where
  pub today : Option ℤ
  pub today_is : IsToday (value_of (codes "today") options) clock today
  pub name : IsSomeAnd (value_of (codes "name") options) (λ text. report_of text ≡ Some reported.name)
  pub days : IsOfRows reported.name ⊎ (names_days options ≡ false)
  pub window : IsAskedWindow (value_of (codes "from") options) (value_of (codes "to") options) today false reported.window

-- ---- messages

-- The moment of writing: that of the text if it is given, else that of the clock.
abbrev pub IsWritingTime : Option (List ℕ) → Option Stamp → Stamp → Type 0
IsWritingTime None clock at = clock ≡ Some at
IsWritingTime (Some text) clock at = IsStampText text at

-- the to-do of this UID, and the instance of `--id`, if one is named
pub record AsksAbout (options : Options) (uid : List ℕ) (id : Option Moment) : Type 0 where
  pub uid_is : value_of (codes "uid") options ≡ Some uid
  pub id_is : IsRead IsMomentName (value_of (codes "id") options) id

-- the attendee of this address
abbrev pub AsksWho : Options → List ℕ → Type 0
AsksWho options address = option_map address_of (value_of (codes "attendee") options) ≡ Some address

-- the percentage that a text spells
abbrev pub IsPercent : List ℕ → ℕ → Type 0
IsPercent text percent = percent_of text ≡ Some percent

pub record AsksReply (options : Options) (uid : List ℕ) (id : Option Moment) (attendee : List ℕ) (status : PartStat) (percent : Option ℕ)
    : Type 0
  where
    pub about : AsksAbout options uid id
    pub who : AsksWho options attendee
    pub status_is : IsSomeAnd (value_of (codes "status") options) (λ text. answer_named text ≡ Some status)
    pub percent_is : IsRead IsPercent (value_of (codes "percent") options) percent

-- The message that a word asks for.
abbrev pub AsksMessage : List ℕ → Options → Asked → Type 0
AsksMessage word options (asked.Resend uid) = (word ≡ codes "resend") × (value_of (codes "uid") options ≡ Some uid)
AsksMessage word options (asked.Request draft) =
    (word ≡ codes "request") × (value_of (codes "draft") options ≡ Some (string_bytes draft))
AsksMessage word options (asked.Reply uid id attendee status percent) =
    (word ≡ codes "reply") × AsksReply options uid id (string_bytes attendee) status percent
AsksMessage word options (asked.Refresh uid id attendee) =
    (word ≡ codes "refresh") × AsksAbout options uid id × AsksWho options (string_bytes attendee)
AsksMessage word options (asked.Cancel uid id) =
    (word ≡ codes "cancel") × AsksAbout options uid id × (values_of (codes "attendee") options ≡ None)
    × (is_set (codes "onward") options ≡ false)
AsksMessage word options (asked.CancelOnward uid id) =
    (word ≡ codes "cancel") × AsksAbout options uid (Some id) × (values_of (codes "attendee") options ≡ None)
    × (is_set (codes "onward") options ≡ true)
AsksMessage word options (asked.Remove uid id attendees) =
    (word ≡ codes "cancel") × AsksAbout options uid id
    × (option_map (map address_of) (values_of (codes "attendee") options) ≡ Some (map string_bytes attendees.items))
    × (is_set (codes "onward") options ≡ false)

-- ---- calls

-- the file of a name; none for `-`, which is standard output
abbrev pub file_named : Option (List ℕ) → Option (List ℕ)
file_named None = None
file_named (Some name) = if is_input name then None else Some name

-- What a word asks to be written of messages.
abbrev pub AsksWritten : List ℕ → Options → Option Stamp → Written → Type 0
AsksWritten word options clock (written.Compaction output) =
    (word ≡ codes "compact") × (option_map string_bytes output ≡ file_named (value_of (codes "output") options))
AsksWritten word options clock (written.List listing) = (word ≡ codes "list") × AsksListing options clock listing
AsksWritten word options clock (written.Report reported) = (word ≡ codes "report") × AsksReport options clock reported
AsksWritten word options clock (written.News than) =
    (word ≡ codes "news") × (values_of (codes "than") options ≡ Some (map string_bytes than.items))
AsksWritten word options clock (written.Explanation uid) = (word ≡ codes "explain") × (value_of (codes "uid") options ≡ Some uid)
AsksWritten word options clock (written.Message message at) =
    AsksMessage word options message × IsWritingTime (value_of (codes "at") options) clock at

-- a word asks for no message
abbrev pub NoMessage : List ℕ → Options → Option Stamp → Type 0
NoMessage word options clock = (message : Asked) (at : Stamp) → AsksWritten word options clock (written.Message message at) → ⊥

abbrev pub AsksFilter : List ℕ → Options → Option Stamp → Filter → Type 0
AsksFilter word options clock filter = AsksIntake options filter.intake × AsksWritten word options clock filter.written

-- The call that a word asks for with its options, at the moment of a clock.
abbrev pub Asks : List ℕ → Options → Option Stamp → Call → Type 0
Asks word options clock (call.Run scripted) =
    (word ≡ codes "run") × (is_set (codes "stream") options ≡ false) × AsksRun options scripted
Asks word options clock (call.Stream streamed) =
    (word ≡ codes "run") × (is_set (codes "stream") options ≡ true) × AsksStream options streamed
Asks word options clock (call.Office scripted workers) =
    (word ≡ codes "office") × AsksScript options scripted × AsksWorkers options workers
Asks word options clock (call.Check why) = (word ≡ codes "check") × (why ≡ is_set (codes "why") options)
Asks word options clock (call.Filter filter) = AsksFilter word options clock filter

-- the call of a word that is given with its options
abbrev pub IsAsked : Option (List ℕ × Options) → Option Stamp → Call → Type 0
IsAsked given clock what = IsSomeAnd given (λ words. Asks words.0 words.1 clock what)
