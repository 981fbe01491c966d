-- What an error says, cause by cause, in the order of causes (our own form): nothing if an allocation failed.
use Rattle.std.specs.Prelude.{ℕ}
use Rattle.itip_message.specs.RefusalNumbers as message
use Rattle.itip_message.specs.declared.error.MessageRefusal.{MessageRefusal}
use Rattle.itip_writing.specs.declared.error.WritingError.{WritingError}
use Rattle.itip_writing.specs.declared.error.WritingError.TheVariants as error

-- for each cause, what is given for it; ⊥ if the cause is impossible
abbrev pub IfCause : Type 0 → Type 0 → Type 0 → Type 0 → Type 0 → Type 0 → (MessageRefusal → Type 0) → WritingError → Type 0
IfCause nothing nobody spent overtaken twins late unread error.NothingStands = nothing
IfCause nothing nobody spent overtaken twins late unread error.NoSuchAttendee = nobody
IfCause nothing nobody spent overtaken twins late unread error.NoSequenceLeft = spent
IfCause nothing nobody spent overtaken twins late unread error.AnswerOvertakes = overtaken
IfCause nothing nobody spent overtaken twins late unread error.TwoOfOneKey = twins
IfCause nothing nobody spent overtaken twins late unread error.NoTimeLeft = late
IfCause nothing nobody spent overtaken twins late unread (error.Unreadable refusal) = unread refusal
IfCause nothing nobody spent overtaken twins late unread error.NoMemory = Unit {0}

-- an error of one cause and of no other

abbrev pub IfNothing : Type 0 → WritingError → Type 0
IfNothing nothing = IfCause nothing ⊥ ⊥ ⊥ ⊥ ⊥ (λ _. ⊥)

abbrev pub IfNobody : Type 0 → WritingError → Type 0
IfNobody nobody = IfCause ⊥ nobody ⊥ ⊥ ⊥ ⊥ (λ _. ⊥)

abbrev pub IfSpent : Type 0 → WritingError → Type 0
IfSpent spent = IfCause ⊥ ⊥ spent ⊥ ⊥ ⊥ (λ _. ⊥)

abbrev pub IfOvertaken : Type 0 → WritingError → Type 0
IfOvertaken overtaken = IfCause ⊥ ⊥ ⊥ overtaken ⊥ ⊥ (λ _. ⊥)

abbrev pub IfTwins : Type 0 → WritingError → Type 0
IfTwins twins = IfCause ⊥ ⊥ ⊥ ⊥ twins ⊥ (λ _. ⊥)

abbrev pub IfLate : Type 0 → WritingError → Type 0
IfLate late = IfCause ⊥ ⊥ ⊥ ⊥ ⊥ late (λ _. ⊥)

-- a message that can't be read back
abbrev pub IfUnread : (MessageRefusal → Type 0) → WritingError → Type 0
IfUnread unread = IfCause ⊥ ⊥ ⊥ ⊥ ⊥ ⊥ unread

-- the number under which an error is shown
abbrev pub number_of : WritingError → ℕ
number_of error.NothingStands = 80
number_of error.NoSuchAttendee = 81
number_of error.NoSequenceLeft = 82
number_of error.AnswerOvertakes = 83
number_of error.TwoOfOneKey = 84
number_of error.NoTimeLeft = 85
number_of (error.Unreadable refusal) = message.number_of refusal
number_of error.NoMemory = 40
