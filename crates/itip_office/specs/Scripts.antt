-- What an office writes for a script (our own format). Each line ends with LF.
use Rattle.std.specs.Prelude.{◌≡◌, ◌≤◌, ◌<◌, ◌+◌, ◌⊎◌, ◌++◌, ℕ, Bool, true, false, ◌||◌, not, ◌==◌, List, [], ◌∷◌, length}
use Rattle.std.specs.Prelude.{Option, Some, None, codes, IsPermutation}
use Rattle.std.specs.Fmt.{decimal}
use Rattle.std.specs.List.{flat_map}
use Rattle.std.specs.List.Sorted.{IsNonDecreasingBy}
use Rattle.std.specs.Io.KnownBytes.{Appends}
use Rattle.itip_view.specs.Rows.{AreRows, AreTooMany, row_limit}
use Rattle.itip_view.specs.declared.row.Row.{Row}
use Rattle.itip_view.specs.declared.window.Window.{Window}
use Rattle.itip_desk.specs.Desk.{Shown}
use Rattle.itip_desk.specs.Listed.{listed_text}
use Rattle.itip_desk.specs.Refusals.{number_of, refused_text}
use Rattle.itip_desk.specs.declared.refusal.Refusal.{Refusal}
use Rattle.itip_desk.specs.declared.refusal.Refusal.TheVariants.{NoCommand}
use Rattle.itip_streams.specs.Written.{AppendsFront, MovesOut}
use Rattle.itip_script.specs.Jobs.{Errand, takes, carries, looks, unknown, errands_of}
use Rattle.itip_office.specs.declared.job.Job.{Job}
use Rattle.itip_office.specs.declared.job.Work.{Work}
use Rattle.itip_office.specs.declared.job.Work.TheVariants.{Text, Carry, Look}
use Rattle.itip_office.specs.declared.outcome.Outcome.{Outcome}
use Rattle.itip_office.specs.Answers.{refusal_of}
use Rattle.itip_office.specs.Ended.{HasEnded}

-- what an errand asks an office for, if it is a known one
abbrev pub work_of : Window → Errand → Option Work
work_of window (takes desk text) = Some (Text desk text)
work_of window (carries from to) = Some (Carry from to)
work_of window (looks desk) = Some (Look desk window)
work_of window unknown = None

abbrev pub onto_jobs : ℕ → Option Work → List Job → List Job
onto_jobs number (Some work) jobs = record { number = number; work = work } ∷ jobs
onto_jobs number None jobs = jobs

-- the jobs of errands, numbered from this number on
abbrev pub jobs_from : Window → ℕ → List Errand → List Job
jobs_from window number [] = []
jobs_from window number (errand ∷ errands) = onto_jobs number (work_of window errand) (jobs_from window (number + 1) errands)

abbrev pub onto_others : ℕ → Option Work → List (ℕ × Refusal) → List (ℕ × Refusal)
onto_others number (Some work) others = others
onto_others number None others = (number, NoCommand) ∷ others

-- the others, each with its number and the refusal that it is no command
abbrev pub others_from : Window → ℕ → List Errand → List (ℕ × Refusal)
others_from window number [] = []
others_from window number (errand ∷ errands) = onto_others number (work_of window errand) (others_from window (number + 1) errands)

abbrev pub onto_refused : ℕ → Option Refusal → List (ℕ × Refusal) → List (ℕ × Refusal)
onto_refused number (Some refusal) refused = (number, refusal) ∷ refused
onto_refused number None refused = refused

-- the refused jobs among the replies, each with its number
abbrev pub refused_of : List (ℕ × Outcome) → List (ℕ × Refusal)
refused_of [] = []
refused_of (reply ∷ replies) = onto_refused reply.0 (refusal_of reply.1) (refused_of replies)

-- `job N refused C`
abbrev pub refused_job_text : ℕ × Refusal → List ℕ
refused_job_text job = codes "job " ++ decimal job.0 ++ codes " refused " ++ decimal (number_of job.1) ++ 10 ∷ []

-- The list of a desk is appended, or the refusal that it has too many rows.
pub data ListsDesk (window : Window) (number : ℕ) (desk : Shown) (old : List ℕ) : List ℕ → Bool → Type 0 where
  lists_rows : (rows : List Row) (new : List ℕ) → AreRows desk.kept window rows → length rows ≤ row_limit
      → new ≡ old ++ listed_text number rows → ListsDesk window number desk old new false
  lists_too_many : (new : List ℕ) → AreTooMany desk.kept window → new ≡ old ++ refused_text 31 → ListsDesk window number desk old new true

-- Such a list follows what is kept to be written, and a prefix of both was written; the rest is kept.
pub record WritesList (window : Window) (number : ℕ) (desk : Shown) (old new : Option (List ℕ)) (kept rest : List ℕ) (over : Bool) : Type 0
  where
    pub more : List ℕ
    pub lists : ListsDesk window number desk kept more over
    pub moved : MovesOut old new more rest

-- A prefix of what is kept was written, or of that and such a list.
abbrev pub WritesListFront : Window → ℕ → Shown → Option (List ℕ) → Option (List ℕ) → List ℕ → Type 0
WritesListFront window number desk old new kept =
    AppendsFront old new kept ⊎ ((more : List ℕ) × (over : Bool) × ListsDesk window number desk kept more over × AppendsFront old new more)

-- The lists of desks, numbered from this number on, are appended one after another; `over` is whether one of them has too many rows.
abbrev pub ListsDesks : Window → ℕ → List Shown → List ℕ → List ℕ → Bool → Type 0
ListsDesks window number [] old new over = (new ≡ old) × (over ≡ false)
ListsDesks window number (desk ∷ desks) old new over =
    (mid : List ℕ) × (first : Bool) × (others : Bool) × ListsDesk window number desk old mid first
    × ListsDesks window (number + 1) desks mid new others × (over ≡ (first || others))

-- whether a list is empty
abbrev pub is_none : {A : Type 0} → List A → Bool
is_none items = length items == 0

-- The lines of the refused jobs and the lists of the desks, and whether any of them is a refusal.
pub record IsEndedText (window : Window) (refused : List (ℕ × Refusal)) (desks : List Shown)
    (output : List ℕ) (refusal : Bool) : Type 0 where
  pub over : Bool
  pub lists : ListsDesks window 0 desks (flat_map refused_job_text refused) output over
  pub refusal_is : refusal ≡ (not (is_none refused) || over)

-- A prefix was written of the lines of the refused jobs and the lists of some first desks.
pub record WritesEndedFront (window : Window) (old new : Option (List ℕ)) (refused : List (ℕ × Refusal)) (desks : List Shown) : Type 0 where
  pub done : List Shown
  pub left : List Shown
  pub whole : desks ≡ done ++ left
  pub output : List ℕ
  pub refusal : Bool
  pub is_text : IsEndedText window refused done output refusal
  pub appended : AppendsFront old new output

-- An office that was given these errands as jobs ends with these desks, and these jobs were refused, in the order of their numbers.
pub record EndsWith (window : Window) (desks : ℕ) (errands : List Errand) (refused : List (ℕ × Refusal)) (ended : List Shown) : Type 0 where
  pub replies : List (ℕ × Outcome)
  pub has_ended : HasEnded desks (jobs_from window 0 errands) replies ended
  pub refused_are : IsPermutation (others_from window 0 errands ++ refused_of replies) refused
  pub ascend : IsNonDecreasingBy (λ (r : ℕ × Refusal). r.0) refused

-- What an office writes for these errands: which jobs are refused, and the list of each desk that it ends with.
pub record IsOfErrands (window : Window) (desks : ℕ) (errands : List Errand) (output : List ℕ) (refusal : Bool) : Type 0 where
  pub refused : List (ℕ × Refusal)
  pub ended : List Shown
  pub ends : EndsWith window desks errands refused ended
  pub is_text : IsEndedText window refused ended output refusal

-- A prefix of that was written.
pub record WritesErrandsFront (window : Window) (desks : ℕ) (old new : Option (List ℕ)) (errands : List Errand) : Type 0 where
  pub refused : List (ℕ × Refusal)
  pub ended : List Shown
  pub ends : EndsWith window desks errands refused ended
  pub front : WritesEndedFront window old new refused ended

-- What a script of jobs writes. A script over the limit is refused as a whole.
abbrev pub IsScriptOutput : Window → ℕ → List ℕ → List ℕ → Bool → Type 0
IsScriptOutput window desks script output refusal =
    ((length script ≤ 16777216) × IsOfErrands window desks (errands_of script) output refusal)
    ⊎ ((16777216 < length script) × (output ≡ refused_text 61) × (refusal ≡ true))

-- Nothing was written, or a prefix of what the script writes.
abbrev pub WritesScriptFront : Window → ℕ → Option (List ℕ) → Option (List ℕ) → List ℕ → Type 0
WritesScriptFront window desks old new script =
    Appends old new [] ⊎ ((length script ≤ 16777216) × WritesErrandsFront window desks old new (errands_of script))
    ⊎ ((16777216 < length script) × AppendsFront old new (refused_text 61))
