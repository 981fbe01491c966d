use Rattle.std.proofs.Common.{ℕ, List, Option, sym, subst}
use Rattle.itip_words.specs.Asking.{IsRead, AreThreadsOf}
use Rattle.itip_words.proofs.filter.intake_of.Goals as goal

pub returns-in_default-clause-asked : goal.returns-in_default-clause-asked
returns-in_default-clause-asked c =
    λ intake is. c.in_default.ensures.asked intake.threads
    (subst (λ (o : Option (List ℕ)). IsRead AreThreadsOf o intake.threads) (sym c.value_of-text.ensures) is.threads)

pub returns-clause-asked : goal.returns-clause-asked
returns-clause-asked c = record {
  sources = c.in_ok-sources.ensures;
  threads = subst (λ (o : Option (List ℕ)). IsRead AreThreadsOf o c.in-Some.threads) c.value_of-text.ensures c.in-Some.ensures.asked;
  progress = c.is_set-progress.ensures;
  why = c.is_set-why.ensures;
}
