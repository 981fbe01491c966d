use Rattle.std.proofs.Common.{List, sym, subst, Option}
use Rattle.std.specs.Prelude.{MatchOption}
use Rattle.std.specs.Option.{option_copied}
use Rattle.itip_items.specs.declared.item.Item.{Item}
use Rattle.itip_view.specs.Standing.{IsLiveSeries}
use Rattle.itip_view.proofs.Governed.{live_series}
use Rattle.itip_report.proofs.sent_again.resent_items.Goals as goal

pub returns-in_default : goal.returns-in_default
returns-in_default c =
    let items : List Item = c.args.items.now.items in
    let found : MatchOption (option_copied c.if_live.result) ((i : Item) → ¬ IsLiveSeries items c.args.items.now.uid i)
    (IsLiveSeries items c.args.items.now.uid) =
    subst (λ (o : Option Item). MatchOption o ((i : Item) → ¬ IsLiveSeries items c.args.items.now.uid i)
    (IsLiveSeries items c.args.items.now.uid)) (sym c.if_live.ensures)
    (live_series items c.args.items.now.uid (option_copied c.series.result) c.series.ensures) in
    rw c.in_default.is at found

pub returns : goal.returns
returns c =
    let items : List Item = c.args.items.now.items in
    let found : MatchOption (option_copied c.if_live.result) ((i : Item) → ¬ IsLiveSeries items c.args.items.now.uid i)
    (IsLiveSeries items c.args.items.now.uid) =
    subst (λ (o : Option Item). MatchOption o ((i : Item) → ¬ IsLiveSeries items c.args.items.now.uid i)
    (IsLiveSeries items c.args.items.now.uid)) (sym c.if_live.ensures)
    (live_series items c.args.items.now.uid (option_copied c.series.result) c.series.ensures) in
    record { live = rw c.in-Some.is at found; standing = c.in_ok-overrides.ensures }
