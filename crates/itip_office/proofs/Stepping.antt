-- What a worker does with a job, and what it had seen for it.
use Rattle.std.proofs.Common.{◌≡◌, ℕ, List, sym, subst}
use Rattle.itip_items.specs.declared.item.Item.{Item}
use Rattle.itip_office.specs.declared.job.Job.{Job}
use Rattle.itip_office.specs.declared.job.Work.{Work}
use Rattle.itip_office.specs.declared.job.Work.TheVariants.{Text}
use Rattle.itip_office.specs.declared.outcome.Outcome.{Outcome}
use Rattle.itip_office.specs.declared.job_loop.Step.{Step}
use Rattle.itip_office.specs.declared.job_loop.Step.TheVariants.{Answers, HandsOn}
use Rattle.itip_office.specs.Texts.{Merges}
use Rattle.itip_office.specs.LooksAndCarries.{LooksAt, IsAnswered, IsBrought}
use Rattle.itip_office.specs.Steps.{IsStepOf, HasSeen}

module _ (desks : ℕ) (IsSeen : ℕ → List (List Item) → Type 0) where
  -- a text shows nothing and brings nothing
  pub seen_of_text : (work : Work) (desk : ℕ) (bytes : List ℕ) (step : Step) → work ≡ Text desk bytes → HasSeen desks IsSeen work step
  seen_of_text work desk bytes (Answers outcome) is = subst (λ (w : Work). LooksAt desks IsSeen w outcome) (sym is) tt
  seen_of_text work desk bytes (HandsOn at batch) is = subst (λ (w : Work). IsBrought IsSeen w batch) (sym is) tt

  pub answered_by : (job : Job) (outcome : Outcome) (step : Step) → step ≡ Answers outcome → IsStepOf desks job.work step →
      HasSeen desks IsSeen job.work step → IsAnswered desks IsSeen (job, outcome)
  answered_by job outcome step is answers seen = record {
    alone = subst (λ (s : Step). IsStepOf desks job.work s) is answers;
    looks = subst (λ (s : Step). HasSeen desks IsSeen job.work s) is seen;
  }

  pub merges_by : (work : Work) (desk : ℕ) (batch : List Item) (step : Step) → step ≡ HandsOn desk batch → IsStepOf desks work step →
      Merges work batch
  merges_by work desk batch step is hands_on =
      let h : IsStepOf desks work (HandsOn desk batch) = subst (λ (s : Step). IsStepOf desks work s) is hands_on in h.3

  pub brought_by : (work : Work) (desk : ℕ) (batch : List Item) (step : Step) → step ≡ HandsOn desk batch → HasSeen desks IsSeen work step →
      IsBrought IsSeen work batch
  brought_by work desk batch step is seen = subst (λ (s : Step). HasSeen desks IsSeen work s) is seen
