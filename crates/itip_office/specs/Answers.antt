-- The outcome of a job in an office with a number of desks (our own rule).
use Rattle.std.specs.Prelude.{◌≡◌, ◌≤◌, ◌<◌, ◌⊎◌, ℕ, List, length, Option, Some, None}
use Rattle.itip_message.specs.Message.{RefusesMessage}
use Rattle.itip_message.specs.declared.error.MessageRefusal.{MessageRefusal}
use Rattle.itip_items.specs.declared.item.Item.{Item}
use Rattle.itip_view.specs.ListText.{IsListText}
use Rattle.itip_view.specs.Rows.{AreTooMany}
use Rattle.itip_view.specs.declared.window.Window.{Window}
use Rattle.itip_desk.specs.declared.refusal.Refusal.{Refusal}
use Rattle.itip_desk.specs.declared.refusal.Refusal.TheVariants.{Message, TooManyRows, NoDesk}
use Rattle.itip_office.specs.declared.job.Job.{Job}
use Rattle.itip_office.specs.declared.job.Work.{Work}
use Rattle.itip_office.specs.declared.job.Work.TheVariants.{Text, Carry, Look}
use Rattle.itip_office.specs.declared.outcome.Outcome.{Outcome}
use Rattle.itip_office.specs.declared.outcome.Outcome.TheVariants.{Took, Carried, Looked, Refused}
use Rattle.itip_office.specs.Texts.{IsBatchOf, desk_of, AreThere}

-- a job with its outcome
abbrev pub Answer : Type 0
Answer = Job × Outcome

-- The outcome of a look at a desk that is there: the list of some items in the window, or the refusal that these have too many rows.
abbrev pub IsLooked : Window → Outcome → Type 0
IsLooked window (Took desk items) = ⊥
IsLooked window (Carried from to items) = ⊥
IsLooked window (Looked text) = (items : List Item) × IsListText items window text.items
IsLooked window (Refused refusal) = (refusal ≡ TooManyRows) × ((items : List Item) × AreTooMany items window)

-- why a job was refused, if it was
abbrev pub refusal_of : Outcome → Option Refusal
refusal_of (Took desk items) = None
refusal_of (Carried from to items) = None
refusal_of (Looked text) = None
refusal_of (Refused refusal) = Some refusal

abbrev pub IsTook : Outcome → Type 0
IsTook (Took desk items) = Unit {0}
IsTook (Carried from to items) = ⊥
IsTook (Looked text) = ⊥
IsTook (Refused refusal) = ⊥

-- The outcome of a job that nothing is merged for. It names the first desk that isn't there; a text for a desk that is there is refused for
-- the first cause why its bytes are no message.
abbrev pub AnswersAlone : ℕ → Work → Outcome → Type 0
AnswersAlone desks (Text desk bytes) outcome =
    ((desks ≤ desk) × (outcome ≡ Refused (NoDesk desk)))
    ⊎ ((desk < desks) × ((refusal : MessageRefusal) × RefusesMessage bytes refusal × (outcome ≡ Refused (Message refusal))))
AnswersAlone desks (Carry from to) outcome =
    ((desks ≤ from) × (outcome ≡ Refused (NoDesk from))) ⊎ ((from < desks) × (desks ≤ to) × (outcome ≡ Refused (NoDesk to)))
AnswersAlone desks (Look desk window) outcome =
    ((desks ≤ desk) × (outcome ≡ Refused (NoDesk desk))) ⊎ ((desk < desks) × IsLooked window outcome)

-- The outcome of a job whose batch a desk merged: it has the number of items of the batch.
abbrev pub AnswersMerged : ℕ → List Item → Work → Outcome → Type 0
AnswersMerged desk batch (Text at bytes) outcome = IsBatchOf bytes batch × (outcome ≡ Took desk (length batch))
AnswersMerged desk batch (Carry from to) outcome = outcome ≡ Carried from desk (length batch)
AnswersMerged desk batch (Look at window) outcome = ⊥

-- The outcome of a job in an office: the job was answered alone, or merged by its own desk, and then the desks that it names are there.
abbrev pub IsOutcome : ℕ → Work → Outcome → Type 0
IsOutcome desks work outcome =
    AnswersAlone desks work outcome ⊎ (AreThere desks work × ((batch : List Item) × AnswersMerged (desk_of work) batch work outcome))
