-- An office from the answers of its threads to its end.
use Rattle.std.proofs.Common.{◌≡◌, ℕ, List, length, All, sym, subst}
use Rattle.std.specs.Prelude.{IsPermutation}
use Rattle.std.proofs.lemmas.List.Sorted.{All-permutation, Contains-permutation, IsPermutation-sym}
use Rattle.itip_items.specs.declared.item.Item.{Item}
use Rattle.itip_state.specs.Kept.{AreKept}
use Rattle.itip_desk.specs.Desk.{Shown}
use Rattle.itip_office.specs.declared.job.Job.{Job}
use Rattle.itip_office.specs.declared.outcome.Outcome.{Outcome}
use Rattle.itip_office.specs.Answers.{Answer, IsOutcome}
use Rattle.itip_office.specs.Published.{HasShown}
use Rattle.itip_office.specs.Ended.{Tells, AreRepliesFrom, IsSomeDesk, HasEnded}
use Rattle.itip_office.proofs.Taking.{taken_among}
use Rattle.itip_office.proofs.Publishing.{shown_permuted}

tells_permuted : (desks : ℕ) (given answers : List Answer) (set : List Item) → IsPermutation given answers → Tells desks given set →
    Tells desks answers set
tells_permuted desks given answers set order tells = record {
  each = All-permutation (λ (a : Answer). IsOutcome desks a.0.work a.1) given answers order tells.each;
  taken = λ item. (
    λ h. taken_among given answers (λ a in_given. Contains-permutation given answers a order in_given) item ((tells.taken item).0 h),
    λ taken. (tells.taken item).1
        (taken_among answers given (λ a h. Contains-permutation answers given a (IsPermutation-sym given answers order) h) item taken),
  );
}

pub has_ended : (desks : ℕ) (jobs sorted : List Job) (given : List Answer) (replies : List (ℕ × Outcome)) (set : List Item)
    (ended : List Shown) → IsPermutation jobs sorted
    → AreRepliesFrom given sorted replies → Tells desks given set → HasShown desks given → length ended ≡ desks →
    All IsSomeDesk ended → All (λ (d : Shown). AreKept d.kept set) ended → HasEnded desks jobs replies ended
has_ended desks jobs sorted given replies set ended order are tells shown count each kept = record {
  answers = are.answers;
  are_replies = record {
    jobs_are = subst (λ (l : List Job). IsPermutation jobs l) (sym are.jobs_are) order;
    ascend = are.ascend;
    replies_are = are.replies_are;
  };
  set = set;
  tells = tells_permuted desks given are.answers set are.given_are tells;
  shown = shown_permuted desks given are.answers are.given_are shown;
  count = count;
  each = each;
  kept = kept;
}
