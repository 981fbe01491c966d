use Rattle.std.proofs.Common.{◌≡◌, List, ℕ, subst, sym, rules}
use Rattle.std.specs.List.{filter}
use Rattle.std.proofs.lemmas.Fn.{filter_same}
use Rattle.itip_view.specs.RowsOfUid.{AreRowsOf}
use Rattle.itip_view.specs.Showing.{AreRowsWhere, IsOf}
use Rattle.itip_view.specs.Wanted.{wants}
use Rattle.itip_view.specs.Wanting.{Wants}
use Rattle.itip_view.specs.declared.row.Row.{Row}
use Rattle.itip_view.specs.declared.wanted.Wanted.{Wanted}
use Rattle.itip_view.proofs.Showing.{rows_passing}
use Rattle.itip_view.proofs.Wanting.{wants_decides}
use Rattle.itip_view.proofs.wanted_rows.shown_rows.Goals as goal

pub returns : goal.returns
returns c =
    let uid : List ℕ = c.args.uid.now in
    let wanted : Wanted = c.args.wanted.now in
    let rows : List Row = c.in_ok-rows.rows.items in
    let all : AreRowsOf c.in_ok-items.items.items c.args.window uid rows =
    subst (λ (u : List ℕ). AreRowsOf c.in_ok-items.items.items c.args.window u rows) c.in_ok-items.ensures.uid c.in_ok-rows.ensures in
    let passed : c.retain.new.self.items ≡ filter (wants wanted) rows =
    filter_same _ (wants wanted) _
    (λ row b f' k. (subst (λ (r : Row). b ≡ wants wanted r) k.shows (search rules), search rules)) _ _ c.retain.ensures.filtered in
    subst (λ (rs : List Row). AreRowsWhere (IsOf uid (Wants wanted)) c.args.state.now c.args.window rs) (sym passed)
    (rows_passing c.args.state.now c.args.window uid (Wants wanted) (wants wanted) (wants_decides wanted) c.in_ok-items.items.items rows
    c.in_ok-items.ensures.items all)
