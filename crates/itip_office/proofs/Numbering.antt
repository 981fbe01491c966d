-- One more command of a script, numbered by how many came before it.
use Rattle.std.proofs.Common.{◌≡◌, ℕ, ◌+◌, List, [], ◌∷◌, ◌++◌, length, refl, sym, ap, ◌∙◌, append_assoc, arith, Option, Some, None}
use Rattle.std.proofs.lemmas.List.{length-append, append-nil}
use Rattle.itip_view.specs.declared.window.Window.{Window}
use Rattle.itip_desk.specs.declared.refusal.Refusal.{Refusal}
use Rattle.itip_script.specs.Jobs.{Errand}
use Rattle.itip_office.specs.declared.job.Job.{Job}
use Rattle.itip_office.specs.declared.job.Work.{Work}
use Rattle.itip_office.specs.Scripts.{work_of, onto_jobs, onto_others, jobs_from, others_from}

-- the jobs and the others so far, which those of the remaining errands complete
pub record AreSoFar (window : Window) (errands left : List Errand) (jobs : List Job) (others : List (ℕ × Refusal)) : Type 0 where
  pub jobs_are : jobs ++ jobs_from window (length jobs + length others) left ≡ jobs_from window 0 errands
  pub others_are : others ++ others_from window (length jobs + length others) left ≡ others_from window 0 errands

pub none_so_far : (window : Window) (errands left : List Errand) (jobs : List Job) (others : List (ℕ × Refusal)) → left ≡ errands →
    jobs ≡ [] → others ≡ [] → AreSoFar window errands left jobs others
none_so_far window errands left jobs others left_is none_jobs none_others =
    rw (left_is, none_jobs, none_others) (record { jobs_are = refl; others_are = refl })

jobs_apart : (n : ℕ) (w : Option Work) (jobs : List Job) → onto_jobs n w jobs ≡ onto_jobs n w [] ++ jobs
jobs_apart n None jobs = refl
jobs_apart n (Some w) jobs = refl

others_apart : (n : ℕ) (w : Option Work) (others : List (ℕ × Refusal)) → onto_others n w others ≡ onto_others n w [] ++ others
others_apart n None others = refl
others_apart n (Some w) others = refl

one_of_both : (n : ℕ) (w : Option Work) → length (onto_jobs n w []) + length (onto_others n w []) ≡ 1
one_of_both n None = refl
one_of_both n (Some w) = refl

pub so_far_more : (window : Window) (errands left rest : List Errand) (errand : Errand) (jobs more_jobs : List Job)
    (others more_others : List (ℕ × Refusal)) (w : Option Work) → AreSoFar window errands left jobs others
    → left ≡ errand ∷ rest → w ≡ work_of window errand → more_jobs ≡ jobs ++ onto_jobs (length jobs + length others) w [] →
    more_others ≡ others ++ onto_others (length jobs + length others) w []
    → AreSoFar window errands rest more_jobs more_others
so_far_more window errands left rest errand jobs more_jobs others more_others w so_far first work_is jobs_more others_more =
    let n = length jobs + length others in
    let one = one_of_both n w in
    let counted : length more_jobs + length more_others ≡ n + 1 =
    (let j = ap length jobs_more ∙ length-append jobs (onto_jobs n w []) in
    let o = ap length others_more ∙ length-append others (onto_others n w []) in
    omega (arith, one, j, o)) in
    record {
      jobs_are = ap (λ (m : ℕ). more_jobs ++ jobs_from window m rest) counted
          ∙ ap (λ (js : List Job). js ++ jobs_from window (n + 1) rest) jobs_more
          ∙ append_assoc jobs (onto_jobs n w []) (jobs_from window (n + 1) rest)
          ∙ ap (λ (js : List Job). jobs ++ js) (sym (jobs_apart n w (jobs_from window (n + 1) rest)) ∙
          ap (λ (o : Option Work). onto_jobs n o (jobs_from window (n + 1) rest)) work_is)
          ∙ ap (λ (es : List Errand). jobs ++ jobs_from window n es) (sym first) ∙ so_far.jobs_are;
      others_are = ap (λ (m : ℕ). more_others ++ others_from window m rest) counted
          ∙ ap (λ (os : List (ℕ × Refusal)). os ++ others_from window (n + 1) rest) others_more
          ∙ append_assoc others (onto_others n w []) (others_from window (n + 1) rest)
          ∙ ap (λ (os : List (ℕ × Refusal)). others ++ os)
          (sym (others_apart n w (others_from window (n + 1) rest)) ∙
          ap (λ (o : Option Work). onto_others n o (others_from window (n + 1) rest)) work_is)
          ∙ ap (λ (es : List Errand). others ++ others_from window n es) (sym first) ∙ so_far.others_are;
    }

-- no errand is left
module _ (window : Window) (errands left : List Errand) (jobs : List Job) (others : List (ℕ × Refusal))
    (so_far : AreSoFar window errands left jobs others) (none : left ≡ []) where
  pub all_jobs : jobs ≡ jobs_from window 0 errands
  all_jobs = sym (append-nil jobs) ∙ ap (λ (es : List Errand). jobs ++ jobs_from window (length jobs + length others) es) (sym none) ∙
      so_far.jobs_are

  pub all_others : others ≡ others_from window 0 errands
  all_others = sym (append-nil others) ∙ ap (λ (es : List Errand). others ++ others_from window (length jobs + length others) es)
      (sym none) ∙ so_far.others_are
