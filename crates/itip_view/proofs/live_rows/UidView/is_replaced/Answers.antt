use Rattle.std.proofs.Common.{◌≡◌, sym, subst, List, ℕ, Bool, Option, Some, None, Bor}
use Rattle.std.specs.Prelude.{MatchOption}
use Rattle.std.specs.Bool.{MatchBool}
use Rattle.std.specs.Option.{option_copied, is_some}
use Rattle.itip_moment.specs.declared.moment.Moment.{Moment}
use Rattle.itip_items.specs.declared.item.Item.{Item}
use Rattle.itip_view.specs.Rows.{NoneStandsAtStart}
use Rattle.itip_view.specs.Standing.{Stands, NoneStands}
use Rattle.itip_view.proofs.live_rows.UidView.is_replaced.Goals as goal

replaced : (items : List Item) (uid : List ℕ) (start : Moment) (o : Option (Bor Item)) (r : Bool) → r ≡ is_some o →
    MatchOption (option_copied o) (NoneStands items uid start) (Stands items uid start)
    → MatchBool r (NoneStands items uid start → ⊥) (NoneStands items uid start)
replaced items uid start None r e h = subst (λ b. MatchBool b (NoneStands items uid start → ⊥) (NoneStands items uid start)) (sym e) h
replaced items uid start (Some i) r e h =
    subst (λ b. MatchBool b (NoneStands items uid start → ⊥) (NoneStands items uid start)) (sym e) (λ none. none i.now h)

pub returns-in-Some : goal.returns-in-Some
returns-in-Some c =
    let items : List Item = c.args.self.now.items.now.items in
    let uid : List ℕ = c.args.self.now.items.now.uid in
    subst (λ (s : Option Moment). MatchBool c.is_some.result (NoneStandsAtStart items uid s → ⊥) (NoneStandsAtStart items uid s))
    (sym c.in-Some.is)
    (replaced items uid c.in-Some.start c.standing_item.result c.is_some.result c.is_some.ensures c.standing_item.ensures)
