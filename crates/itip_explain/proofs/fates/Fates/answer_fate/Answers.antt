use Rattle.std.proofs.Common.{◌≡◌, List, ℕ, subst, refl, inl, inr, Option, Some, None, Bor}
use Rattle.std.specs.Prelude.{MatchOption}
use Rattle.std.specs.Option.{option_copied}
use Rattle.itip_moment.specs.declared.moment.Moment.{Moment}
use Rattle.itip_items.specs.declared.item.Item.{Item}
use Rattle.itip_view.specs.InQuestion.{IsInQuestion, NoneInQuestion}
use Rattle.itip_explain.specs.Knowing.{heard_by}
use Rattle.itip_explain.proofs.Becoming.{question_up, no_question_up}
use Rattle.itip_explain.proofs.fates.Fates.answer_fate.Goals as goal

-- what is found to be in question, or that nothing is
abbrev IsItemInQuestion : List Item → List ℕ → Option Moment → Option (Bor Item) → Type 0
IsItemInQuestion items uid id found = MatchOption (option_copied found) (NoneInQuestion items uid id) (IsInQuestion items uid id)

at_id : (items : List Item) (uid : List ℕ) (id other : Option Moment) (found answer : Option (Bor Item)) → id ≡ other → found ≡ answer →
    IsItemInQuestion items uid id found → IsItemInQuestion items uid other answer
at_id items uid id other found answer p q is =
    subst (λ (m : Option Moment). IsItemInQuestion items uid m answer) p (subst (IsItemInQuestion items uid id) q is)

pub fate_under-requires-clause-in_question : goal.fate_under-requires-clause-in_question
fate_under-requires-clause-in_question c =
    let part = c.args.self.now.question in
    question_up (heard_by c.args.self.now) part.items part.uid c.requires.about c.requires.kept c.args.id.now c.in-Some.governing.now
    (at_id part.items part.uid (option_copied c.as_ref.result) c.args.id.now c.governing.result (Some c.in-Some.governing)
    c.as_ref.ensures.value c.in-Some.is c.governing.ensures)

pub returns-in-Some : goal.returns-in-Some
returns-in-Some c =
    let part = c.args.self.now.question in
    inr (record {
      governing = c.in-Some.governing.now;
      in_question = question_up (heard_by c.args.self.now) part.items part.uid c.requires.about c.requires.kept c.args.id.now
          c.in-Some.governing.now
          (at_id part.items part.uid (option_copied c.as_ref.result) c.args.id.now c.governing.result (Some c.in-Some.governing)
          c.as_ref.ensures.value c.in-Some.is c.governing.ensures);
      under = c.fate_under.ensures;
    })

pub returns-in-None : goal.returns-in-None
returns-in-None c =
    let part = c.args.self.now.question in
    inl (
      no_question_up (heard_by c.args.self.now) part.items part.uid c.requires.about c.requires.kept c.args.id.now
          (at_id part.items part.uid (option_copied c.as_ref.result) c.args.id.now c.governing.result None
          c.as_ref.ensures.value c.in-None.is c.governing.ensures),
      refl,
    )
