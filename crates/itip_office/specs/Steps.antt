-- What a worker does with a job (our own form).
use Rattle.std.specs.Prelude.{◌≡◌, ◌<◌, ℕ, List}
use Rattle.itip_items.specs.declared.item.Item.{Item}
use Rattle.itip_office.specs.declared.job.Work.{Work}
use Rattle.itip_office.specs.declared.job.Work.TheVariants.{Text, Carry, Look}
use Rattle.itip_office.specs.declared.job_loop.Step.{Step}
use Rattle.itip_office.specs.declared.job_loop.Step.TheVariants.{Answers, HandsOn}
use Rattle.itip_office.specs.Texts.{Merges, AreThere}
use Rattle.itip_office.specs.Answers.{AnswersAlone}
use Rattle.itip_office.specs.LooksAndCarries.{LooksAt, IsBrought}

-- the desk is the one at which a job is merged
abbrev pub IsMergedAt : Work → ℕ → Type 0
IsMergedAt (Text at bytes) desk = desk ≡ at
IsMergedAt (Carry from to) desk = desk ≡ to
IsMergedAt (Look at window) desk = ⊥

-- The worker answers the job itself, or hands on a batch to be merged for it, to the desk at which the job is merged; all desks that the
-- job names are there then.
abbrev pub IsStepOf : ℕ → Work → Step → Type 0
IsStepOf desks work (Answers outcome) = AnswersAlone desks work outcome
IsStepOf desks work (HandsOn desk batch) = (desk < desks) × IsMergedAt work desk × AreThere desks work × Merges work batch

-- A look that it answers shows batches that were seen of its desk, and the batch of a carry that it hands on is made of such.
abbrev pub HasSeen : ℕ → (ℕ → List (List Item) → Type 0) → Work → Step → Type 0
HasSeen desks IsSeen work (Answers outcome) = LooksAt desks IsSeen work outcome
HasSeen desks IsSeen work (HandsOn desk batch) = IsBrought IsSeen work batch
