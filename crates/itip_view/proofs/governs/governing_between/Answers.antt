use Rattle.std.proofs.Common.{sym, subst, List, ℕ, Option}
use Rattle.std.specs.Prelude.{MatchOption}
use Rattle.std.specs.Option.{option_copied}
use Rattle.itip_moment.specs.declared.moment.Moment.{Moment}
use Rattle.itip_items.specs.declared.item.Item.{Item}
use Rattle.itip_state.specs.OfUid.{UidPart}
use Rattle.itip_view.specs.Standing.{GovernsBetween, Rules, NoneRules}
use Rattle.itip_view.proofs.Governed.{governs_ruled, governs_unruled}
use Rattle.itip_view.proofs.governs.governing_between.Goals as goal

-- the item that governs the moment, or that none does
abbrev IsGoverning : List Item → List ℕ → Moment → Option Item → Type 0
IsGoverning items uid at found = MatchOption found ((g : Item) → ¬ GovernsBetween items uid at g) (GovernsBetween items uid at)

pub returns-in-Some : goal.returns-in-Some
returns-in-Some c =
    let items : List Item = c.args.items.now.items in
    let uid : List ℕ = c.args.items.now.uid in
    let at : Moment = c.args.at.now in
    let ruling : (id : Moment) × Rules items uid at id c.in-Some.range.now.item.now =
    subst (λ (p : UidPart). (id : Moment) × Rules p.items p.uid at id c.in-Some.range.now.item.now) c.requires c.in-Some.ensures in
    subst (IsGoverning items uid at) (sym c.if_live.ensures) (governs_ruled items uid at ruling.0 c.in-Some.range.now.item.now ruling.1)

pub returns-in-None : goal.returns-in-None
returns-in-None c =
    let items : List Item = c.args.items.now.items in
    let uid : List ℕ = c.args.items.now.uid in
    let at : Moment = c.args.at.now in
    subst (IsGoverning items uid at) (sym c.if_live-in-None.ensures)
    (governs_unruled items uid at (option_copied c.series.result) c.series.ensures
    (subst (λ (p : UidPart). NoneRules p.items p.uid at) c.requires c.in-None.ensures))
