-- The exit status (docs/USING.md; our own rule).
use Rattle.std.specs.Prelude.{◌≡◌, ◌⊎◌, ℕ, Bool, true, false, if◌then◌else◌, Option, Some, None, Result, Ok, Err}
use Rattle.itip_app.specs.declared.filters.Outcome.{Outcome}
use Rattle.itip_app.specs.declared.filters.Undone.{Undone}
use Rattle.itip_app.specs.declared.filters.Undone.TheVariants as undone
use Rattle.itip_app.specs.declared.stream.LoadFault.{LoadFault}
use Rattle.itip_app.specs.declared.stream.LoadFault.TheVariants as load
use Rattle.itip_app.specs.declared.stream.Unserved.{Unserved}
use Rattle.itip_app.specs.declared.stream.Unserved.TheVariants as unserved
use Rattle.itip_desk.specs.declared.refusal.FileRefusal.{FileRefusal}
use Rattle.itip_message.specs.declared.error.MessageRefusal.{MessageRefusal}
use Rattle.itip_words.specs.declared.no_call.NoCall.{NoCall}
use Rattle.itip_words.specs.declared.no_call.NoCall.TheVariants as no_call
use Rattle.itip_writing.specs.declared.error.WritingError.TheVariants as writing

-- 1 if something was refused, else 0
abbrev pub status_refused : Bool → ℕ
status_refused is_refused = if is_refused then 1 else 0

-- of a script or a message that was shown: 3 after a fault
abbrev pub status_shown : {E : Type 0} → Result Bool E → ℕ
status_shown (Ok is_refused) = status_refused is_refused
status_shown (Err fault) = 3

-- 4 if what was asked for can't be done
abbrev pub status_done : Option Undone → Bool → ℕ
status_done None is_refused = status_refused is_refused
status_done (Some why) is_refused = 4

-- of a filter: 3 after a fault
abbrev pub status_filtered : {E : Type 0} → Result Outcome E → ℕ
status_filtered (Ok outcome) = status_done outcome.undone outcome.is_refused
status_filtered (Err fault) = 3

-- the draft can't be read as a request, or what is to be written as a message
abbrev pub IsUnreadable : Option Undone → MessageRefusal → Type 0
IsUnreadable why refusal = (why ≡ Some (undone.Draft refusal)) ⊎ (why ≡ Some (undone.Unwritten (writing.Unreadable refusal)))

-- If nothing is run: 2 for bad words, 3 if the clock or memory fails, and for help that is asked for 0 if it was written, and 3 if it
-- could not be. `shows` tells whether it was.
abbrev pub IsStatusOfNoCall : (Bool → Type 0) → NoCall → ℕ → Type 0
IsStatusOfNoCall shows (no_call.Help error) status = ((status ≡ 0) × shows true) ⊎ ((status ≡ 3) × shows false)
IsStatusOfNoCall shows (no_call.Refused error) status = status ≡ 2
IsStatusOfNoCall shows (no_call.BadValue text) status = status ≡ 2
IsStatusOfNoCall shows no_call.NoClock status = status ≡ 3
IsStatusOfNoCall shows no_call.NoMemory status = status ≡ 3

-- if a desk can't be loaded from its file: 4 if that is refused, else 3
abbrev pub status_unloaded : LoadFault → ℕ
status_unloaded load.Read = 3
status_unloaded (load.Refused refusal) = 4
status_unloaded load.NoMemory = 3

-- P of the refusal, if it is refused
abbrev pub IfRefused : LoadFault → (FileRefusal → Type 0) → Type 0
IfRefused load.Read P = Unit {0}
IfRefused (load.Refused refusal) P = P refusal
IfRefused load.NoMemory P = Unit {0}

abbrev pub status_unserved : Unserved → ℕ
status_unserved (unserved.Load file fault) = status_unloaded fault
status_unserved (unserved.Stream fault) = 3

-- of a stream: 3 after a fault
abbrev pub status_served : Result Bool Unserved → ℕ
status_served (Ok is_refused) = status_refused is_refused
status_served (Err why) = status_unserved why

-- of a stream: P of the refusal, if the file of a desk is refused
abbrev pub IfFileRefused : Result Bool Unserved → (FileRefusal → Type 0) → Type 0
IfFileRefused (Ok is_refused) P = Unit {0}
IfFileRefused (Err (unserved.Load file fault)) P = IfRefused fault P
IfFileRefused (Err (unserved.Stream fault)) P = Unit {0}
