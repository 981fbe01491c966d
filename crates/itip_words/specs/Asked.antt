-- Which message the words ask for (our own form).
use Rattle.std.specs.Prelude.{◌≡◌, ℕ, List, codes, string_bytes, if◌then◌else◌}
use Rattle.std.specs.Option.{option_copied}
use Rattle.itip_todo.specs.declared.todo.Todo.{Todo}
use Rattle.itip_writing.specs.declared.errand.Errand.{Errand}
use Rattle.itip_writing.specs.declared.errand.Errand.TheVariants as errand
use Rattle.itip_words.specs.declared.asked.Asked.{Asked}
use Rattle.itip_words.specs.declared.asked.Asked.TheVariants as asked
use Rattle.itip_words.specs.Values.{is_input}

-- the word that asks for it
abbrev pub asked_word : Asked → List ℕ
asked_word (asked.Resend uid) = codes "resend"
asked_word (asked.Request draft) = codes "request"
asked_word (asked.Reply uid id attendee status percent) = codes "reply"
asked_word (asked.Refresh uid id attendee) = codes "refresh"
asked_word (asked.Cancel uid id) = codes "cancel"
asked_word (asked.CancelOnward uid id) = codes "cancel"
asked_word (asked.Remove uid id attendees) = codes "cancel"

-- how often standard input is read for a draft
abbrev pub inputs_of_draft : Asked → ℕ
inputs_of_draft (asked.Resend uid) = 0
inputs_of_draft (asked.Request draft) = if is_input (string_bytes draft) then 1 else 0
inputs_of_draft (asked.Reply uid id attendee status percent) = 0
inputs_of_draft (asked.Refresh uid id attendee) = 0
inputs_of_draft (asked.Cancel uid id) = 0
inputs_of_draft (asked.CancelOnward uid id) = 0
inputs_of_draft (asked.Remove uid id attendees) = 0

-- What is to be written is what was asked for; a request is of the to-dos of a draft.
abbrev pub IsErrandOf : Asked → List Todo → Errand → Type 0
IsErrandOf (asked.Resend uid) draft (errand.Resend to) = to.now ≡ uid
IsErrandOf (asked.Request name) draft (errand.Request todos) = todos.now ≡ draft
IsErrandOf (asked.Reply uid id attendee status percent) draft (errand.Reply to at answer) =
    (to.now ≡ uid) × (option_copied at ≡ id) × (answer.attendee.now ≡ string_bytes attendee) × (answer.status ≡ status) ×
    (answer.percent ≡ percent)
IsErrandOf (asked.Refresh uid id attendee) draft (errand.Refresh to at who) =
    (to.now ≡ uid) × (option_copied at ≡ id) × (who.now ≡ string_bytes attendee)
IsErrandOf (asked.Cancel uid id) draft (errand.Cancel to at) = (to.now ≡ uid) × (option_copied at ≡ id)
IsErrandOf (asked.CancelOnward uid id) draft (errand.CancelOnward to at) = (to.now ≡ uid) × (at.now ≡ id)
IsErrandOf (asked.Remove uid id attendees) draft (errand.Remove to at who) =
    (to.now ≡ uid) × (option_copied at ≡ id) × (who.now ≡ attendees.items)
IsErrandOf one draft other = ⊥
