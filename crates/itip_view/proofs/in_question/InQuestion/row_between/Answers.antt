use Rattle.std.proofs.Common.{◌≡◌, ◌∙◌, sym, subst, List, ℕ, Option, Some, None, Bor, true, false, rules}
use Rattle.std.specs.Prelude.{MatchOption}
use Rattle.itip_moment.specs.declared.moment.Moment.{Moment}
use Rattle.itip_items.specs.declared.item.Item.{Item}
use Rattle.itip_state.specs.OfUid.{UidPart}
use Rattle.itip_view.specs.OccurringWhole.{IsOccurringWhole}
use Rattle.itip_view.specs.Standing.{Rules, NoneRules}
use Rattle.itip_view.specs.declared.keyed_item.KeyedItem.{KeyedItem}
use Rattle.itip_view.specs.declared.occurring_whole.OccurringWhole.{OccurringWhole}
use Rattle.itip_view.proofs.Asking.{question_nowhere, none_occurs}
use Rattle.itip_view.proofs.in_question.InQuestion.row_between.Goals as goal

-- what the ranges say of a moment is said of the items
ruling_in : (part other : UidPart) (at : Moment) (found : Option (Bor KeyedItem)) → part ≡ other →
    MatchOption found (NoneRules part.items part.uid at) (λ range. (id : Moment) × Rules part.items part.uid at id range.now.item.now)
    → MatchOption found (NoneRules other.items other.uid at) (λ range. (id : Moment) × Rules other.items other.uid at id range.now.item.now)
ruling_in part other at found same =
    subst (λ (p : UidPart). MatchOption found (NoneRules p.items p.uid at) (λ range. (id : Moment) ×
    Rules p.items p.uid at id range.now.item.now)) same

pub returns-in_default : goal.returns-in_default
returns-in_default c =
    let items : List Item = c.args.self.now.items in
    let uid : List ℕ = c.args.self.now.uid in
    let whole : IsOccurringWhole items uid None = subst (λ (w : Option OccurringWhole). IsOccurringWhole items uid w) c.in_default.is
    (subst (λ (p : UidPart). IsOccurringWhole p.items p.uid c.self.inside.whole) c.self.view_is c.self.invariant.0) in
    question_nowhere items uid c.args.at.now c.requires (none_occurs items uid whole c.args.at.now)

pub returns-then-not-occurs_at : goal.returns-then-not-occurs_at
returns-then-not-occurs_at c =
    let items : List Item = c.args.self.now.items in
    let uid : List ℕ = c.args.self.now.uid in
    let off : c.occurs_at.result ≡ false = search rules in
    let whole : IsOccurringWhole items uid c.self.inside.whole =
    subst (λ (p : UidPart). IsOccurringWhole p.items p.uid c.self.inside.whole) c.self.view_is c.self.invariant.0 in
    question_nowhere items uid c.args.at.now c.requires (λ o. let x : true ≡ false =
    sym ((c.occurs_at.ensures items uid whole).1 o) ∙ off in cc)

pub range_row-requires-clause-occurs : goal.range_row-requires-clause-occurs
range_row-requires-clause-occurs c =
    let items : List Item = c.args.self.now.items in
    let uid : List ℕ = c.args.self.now.uid in
    let on : c.occurs_at.result ≡ true = search rules in
    (c.occurs_at.ensures items uid
    (subst (λ (p : UidPart). IsOccurringWhole p.items p.uid c.self.inside.whole) c.self.view_is c.self.invariant.0)).0 on

pub range_row-requires-clause-rules : goal.range_row-requires-clause-rules
range_row-requires-clause-rules c =
    ruling_in c.self.inside.ranges c.args.self.now c.args.at.now (Some c.in-Some-ruling.range) (c.self.invariant.1 ∙ c.self.view_is)
    c.in-Some-ruling.ensures

pub occurrence_row-requires-clause-occurs : goal.occurrence_row-requires-clause-occurs
occurrence_row-requires-clause-occurs c =
    let items : List Item = c.args.self.now.items in
    let uid : List ℕ = c.args.self.now.uid in
    let on : c.occurs_at.result ≡ true = search rules in
    (c.occurs_at.ensures items uid
    (subst (λ (p : UidPart). IsOccurringWhole p.items p.uid c.self.inside.whole) c.self.view_is c.self.invariant.0)).0 on

pub occurrence_row-requires-clause-none_rules : goal.occurrence_row-requires-clause-none_rules
occurrence_row-requires-clause-none_rules c =
    ruling_in c.self.inside.ranges c.args.self.now c.args.at.now None (c.self.invariant.1 ∙ c.self.view_is) c.in-None.ensures
