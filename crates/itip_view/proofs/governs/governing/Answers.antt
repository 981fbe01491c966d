use Rattle.std.proofs.Common.{sym, subst, List, ℕ, Option, Some, None}
use Rattle.std.specs.Prelude.{MatchOption}
use Rattle.std.specs.Option.{option_copied}
use Rattle.itip_moment.specs.declared.moment.Moment.{Moment}
use Rattle.itip_items.specs.declared.item.Item.{Item}
use Rattle.itip_view.specs.Standing.{Governs}
use Rattle.itip_view.proofs.Governed.{live_series, governs_standing, governs_between}
use Rattle.itip_view.proofs.governs.governing.Goals as goal

-- the item that governs, or that none does
abbrev IsGoverning : List Item → List ℕ → Option Moment → Option Item → Type 0
IsGoverning items uid id found = MatchOption found ((g : Item) → ¬ Governs items uid id g) (Governs items uid id)

pub returns-in_default : goal.returns-in_default
returns-in_default c =
    let items : List Item = c.args.items.now.items in
    let uid : List ℕ = c.args.items.now.uid in
    subst (λ (id : Option Moment). IsGoverning items uid id (option_copied c.if_live.result)) (sym c.in_default.is)
    (subst (IsGoverning items uid None) (sym c.if_live.ensures) (live_series items uid (option_copied c.series.result) c.series.ensures))

pub returns-in-Some-standing_item : goal.returns-in-Some-standing_item
returns-in-Some-standing_item c =
    let items : List Item = c.args.items.now.items in
    let uid : List ℕ = c.args.items.now.uid in
    subst (λ (id : Option Moment). IsGoverning items uid id (option_copied c.if_live-in-Some-standing_item.result)) (sym c.in-Some.is)
    (subst (IsGoverning items uid (Some c.in-Some.at)) (sym c.if_live-in-Some-standing_item.ensures)
    (governs_standing items uid c.in-Some.at c.in-Some-standing_item.instance.now c.in-Some-standing_item.ensures))

pub returns-in-None : goal.returns-in-None
returns-in-None c =
    let items : List Item = c.args.items.now.items in
    let uid : List ℕ = c.args.items.now.uid in
    subst (λ (id : Option Moment). IsGoverning items uid id (option_copied c.governing_between.result)) (sym c.in-Some.is)
    (governs_between items uid c.in-Some.at c.in-None.ensures (option_copied c.governing_between.result) c.governing_between.ensures)
