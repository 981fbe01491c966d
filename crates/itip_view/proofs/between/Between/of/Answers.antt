use Rattle.std.proofs.Common.{◌≡◌, ◌∙◌, ◌<◌, subst, sym, eqb-true, List, ℕ, length, arith}
use Rattle.std.specs.List.{Contains}
use Rattle.itip_moment.specs.declared.moment.Moment.{Moment}
use Rattle.itip_items.specs.declared.item.Item.{Item}
use Rattle.itip_view.specs.RowsOfUid.{IsWhole}
use Rattle.itip_view.specs.Standing.{IsLiveSeries}
use Rattle.itip_view.proofs.between.Between.of.Goals as goal

pub returns-in_default : goal.returns-in_default
returns-in_default c =
    λ window are at occurs. subst (IsWhole c.args.items.now.items c.args.items.now.uid) c.in_default.is c.requires occurs.item occurs.live

pub returns-then-is_empty : goal.returns-then-is_empty
returns-then-is_empty c = λ window are at occurs.
    let moments : List Moment = c.args.occurrences.now in
    let there : Contains moments at = (are at).1 occurs in
    let below : there.0 < length moments = there.1 in
    let none : length moments ≡ 0 = eqb-true _ _ (sym c.is_empty.ensures ∙ c.if-is_empty.true) in
    absurd (omega (arith, below, none))

pub returns : goal.returns
returns c =
    let items : List Item = c.args.items.now.items in
    let uid : List ℕ = c.args.items.now.uid in
    λ window are. (
      subst (IsLiveSeries items uid) (sym c.in_ok-series.ensures) (subst (IsWhole items uid) c.in-Some.is c.requires).0,
      c.in_ok-ranges.ensures,
    )
