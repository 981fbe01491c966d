use Rattle.std.proofs.Common.{◌<◌, ℕ, List, Option, option_map, length, arith}
use Rattle.itip_view.specs.Rows.{row_limit}
use Rattle.itip_view.specs.Showing.{ShowsNamed, AreRowsWhere, IsOf}
use Rattle.itip_view.specs.Wanting.{Wants}
use Rattle.itip_view.specs.declared.row.Row.{Row}
use Rattle.itip_view.proofs.SameAsked.{rows_alike, of_alike, over_limit}
use Rattle.itip_view.proofs.state_rows.rows_of.Goals as goal

pub returns-then-len-gt-ROW_LIMIT-clause-many : goal.returns-then-len-gt-ROW_LIMIT-clause-many
returns-then-len-gt-ROW_LIMIT-clause-many c = λ _.
    let uid : List ℕ = c.args.uid.now in
    let shown : Option (List ℕ) = option_map (λ a. a.now) c.args.shown in
    let rows : List Row = c.in_ok-rows.rows.items in
    let showing : AreRowsWhere (IsOf uid (ShowsNamed shown)) c.args.state.now c.args.window rows =
    rows_alike (IsOf uid (Wants c.showing.result)) (IsOf uid (ShowsNamed shown))
    (of_alike (Wants c.showing.result) (ShowsNamed shown) c.showing.ensures uid) c.args.state.now c.args.window rows c.in_ok-rows.ensures in
    let over : row_limit < length rows = grind arith in
    over_limit (IsOf uid (ShowsNamed shown)) c.args.state.now c.args.window rows showing over

pub returns-clause-rows : goal.returns-clause-rows
returns-clause-rows c =
    let uid : List ℕ = c.args.uid.now in
    let shown : Option (List ℕ) = option_map (λ a. a.now) c.args.shown in
    rows_alike (IsOf uid (Wants c.showing.result)) (IsOf uid (ShowsNamed shown))
    (of_alike (Wants c.showing.result) (ShowsNamed shown) c.showing.ensures uid) c.args.state.now c.args.window c.in_ok-rows.rows.items
    c.in_ok-rows.ensures
