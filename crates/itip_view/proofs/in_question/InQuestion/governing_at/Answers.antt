use Rattle.std.proofs.Common.{◌≡◌, ◌∙◌, sym, subst, List, ℕ, Option, Some, true, false, rules}
use Rattle.std.specs.Prelude.{MatchOption}
use Rattle.std.specs.Option.{option_copied}
use Rattle.itip_moment.specs.declared.moment.Moment.{Moment}
use Rattle.itip_items.specs.declared.item.Item.{Item}
use Rattle.itip_state.specs.OfUid.{UidPart}
use Rattle.itip_view.specs.InQuestion.{IsInQuestion, NoneInQuestion}
use Rattle.itip_view.specs.OccurringWhole.{IsOccurringWhole}
use Rattle.itip_view.specs.Standing.{Stands, NoneStands, GovernsBetween}
use Rattle.itip_view.proofs.Asking.{question_standing, question_nowhere, question_between}
use Rattle.itip_view.proofs.in_question.InQuestion.governing_at.Goals as goal

pub returns-in-Some : goal.returns-in-Some
returns-in-Some c =
    let items : List Item = c.args.self.now.items in
    let uid : List ℕ = c.args.self.now.uid in
    let at : Moment = c.args.at.now in
    let stands : Stands items uid at c.in-Some.instance.now =
    subst (λ (p : UidPart). Stands p.items p.uid at c.in-Some.instance.now) c.self.view_is c.in-Some.ensures in
    subst (λ (found : Option Item). MatchOption found (NoneInQuestion items uid (Some at)) (IsInQuestion items uid (Some at)))
    (sym c.if_live.ensures) (question_standing items uid at c.in-Some.instance.now stands)

pub returns-then-not-occurs_at : goal.returns-then-not-occurs_at
returns-then-not-occurs_at c =
    let items : List Item = c.args.self.now.items in
    let uid : List ℕ = c.args.self.now.uid in
    let at : Moment = c.args.at.now in
    let off : c.occurs_at.result ≡ false = search rules in
    let none : NoneStands items uid at = subst (λ (p : UidPart). NoneStands p.items p.uid at) c.self.view_is c.in_default.ensures in
    let whole : IsOccurringWhole items uid c.self.inside.whole =
    subst (λ (p : UidPart). IsOccurringWhole p.items p.uid c.self.inside.whole) c.self.view_is c.self.invariant.0 in
    question_nowhere items uid at none (λ o. let x : true ≡ false =
    sym ((c.occurs_at.ensures items uid whole).1 o) ∙ off in cc)

pub returns : goal.returns
returns c =
    let items : List Item = c.args.self.now.items in
    let uid : List ℕ = c.args.self.now.uid in
    let at : Moment = c.args.at.now in
    let on : c.occurs_at.result ≡ true = search rules in
    let none : NoneStands items uid at = subst (λ (p : UidPart). NoneStands p.items p.uid at) c.self.view_is c.in_default.ensures in
    let whole : IsOccurringWhole items uid c.self.inside.whole =
    subst (λ (p : UidPart). IsOccurringWhole p.items p.uid c.self.inside.whole) c.self.view_is c.self.invariant.0 in
    question_between items uid at none ((c.occurs_at.ensures items uid whole).0 on) (option_copied c.governing_between.result)
    (subst (λ (p : UidPart). MatchOption (option_copied c.governing_between.result) ((g : Item) → ¬ GovernsBetween p.items p.uid at g)
    (GovernsBetween p.items p.uid at)) c.self.view_is c.governing_between.ensures)
