use Rattle.std.proofs.Common.{◌≡◌, ◌↔◌, ℕ, List, Option, Some, None, subst, IsTrue, true, false}
use Rattle.itip_items.specs.declared.item.Item.{Item}
use Rattle.itip_recur.specs.declared.series.Series.{Series}
use Rattle.itip_view.specs.OccurringWhole.{AreOccurring, IsOccurringWhole}
use Rattle.itip_view.specs.InQuestion.{OccursAt}
use Rattle.itip_view.specs.declared.occurring_whole.OccurringWhole.{OccurringWhole}
use Rattle.itip_view.proofs.occurring_whole.occurs_at.Goals as goal

-- an answer that nothing occurs
never : (P : Type 0) → (P → ⊥) → IsTrue false ↔ P
never P not = (λ t. let x : false ≡ true = t in absurd (cc), λ p. absurd (not p))

pub returns-in_default : goal.returns-in_default
returns-in_default c = λ heard uid is. never (OccursAt heard uid c.args.at.now) (λ o. let none : IsOccurringWhole heard uid None =
    subst (λ (w : Option OccurringWhole). IsOccurringWhole heard uid w) c.in_default.is is in none o.item o.live)

pub returns-in-Some-occurring : goal.returns-in-Some-occurring
returns-in-Some-occurring c = λ heard uid is.
    let known : IsOccurringWhole heard uid (Some c.in-Some.whole) =
    subst (λ (w : Option OccurringWhole). IsOccurringWhole heard uid w) c.in-Some.is is in
    let are : AreOccurring heard uid (Some c.in-Some-occurring.occurring) =
    subst (λ (o : Option Series). AreOccurring heard uid o) c.in-Some-occurring.is known.1 in
    let same = are c.args.at.now in
    let so = c.has.ensures in
    (λ t. same.0 (so.0 t), λ o. so.1 (same.1 o))

pub returns-in-None : goal.returns-in-None
returns-in-None c = λ heard uid is.
    let known : IsOccurringWhole heard uid (Some c.in-Some.whole) =
    subst (λ (w : Option OccurringWhole). IsOccurringWhole heard uid w) c.in-Some.is is in
    let none : AreOccurring heard uid None = subst (λ (o : Option Series). AreOccurring heard uid o) c.in-None.is known.1 in
    never (OccursAt heard uid c.args.at.now) (none c.args.at.now)
