use Rattle.std.proofs.Common.{◌≡◌, ◌+◌, ◌<◌, ◌++◌, ◌∷◌, [], ◌∙◌, ℕ, List, length, map, take}
use Rattle.std.proofs.Common.{get_or, sym, ap, subst}
use Rattle.std.specs.List.{Contains}
use Rattle.std.specs.Ordering.{nat_cmp}
use Rattle.std.specs.Cmp.Lexicographic.{slice_cmp}
use Rattle.std.specs.declared.cmp.Ordering.TheVariants.{Less}
use Rattle.std.proofs.lemmas.List.{length-map, take_more}
use Rattle.std.proofs.Math.ListN.{get_or-map}
use Rattle.itip_view.specs.Showing.{AreRowsWhere, IsAmong}
use Rattle.itip_view.specs.Wanting.{Wants}
use Rattle.itip_view.specs.declared.row.Row.{Row}
use Rattle.itip_view.specs.declared.wanted.Wanted.{Wanted}
use Rattle.itip_view.proofs.Collecting.{earlier_before}
use Rattle.itip_view.proofs.Gathering.{gather_more}
use Rattle.itip_view.proofs.uid_order.rows_by_uid.Goals as goal

pub loop-uid-preserved : goal.loop-uid-preserved
loop-uid-preserved c =
    let uids : List (List ℕ) = map (λ uid. uid.now) c.args.uids.now in
    let i : ℕ = c.loop-uid.uid-index in
    let uid : List ℕ = c.uid-item.result.now in
    let wanted : Wanted = c.args.wanted.now in
    let below : i < length uids = rw (length-map c.args.uids.now (λ uid. uid.now)) c.loop-uid-test.true in
    let here : uid ≡ get_or uids i uid = ap (λ uid. uid.now) c.uid-item.is ∙
    sym (get_or-map (λ uid. uid.now) c.args.uids.now i c.uid-item.result) in
    let later : (u : List ℕ) → Contains (take i uids) u → slice_cmp nat_cmp u uid ≡ Less =
    earlier_before (λ (a b : List ℕ). slice_cmp nat_cmp a b ≡ Less) uids i uid c.requires below here in
    let done : take (i + 1) uids ≡ take i uids ++ uid ∷ [] = take_more uids i uid below ∙
    ap (λ (u : List ℕ). take i uids ++ u ∷ []) (sym here) in
    subst (λ (rs : List Row). AreRowsWhere (IsAmong (take (i + 1) uids) (Wants wanted)) c.args.state.now c.args.window rs)
    (sym c.in_ok-append.ensures.items)
    (subst (λ (us : List (List ℕ)). AreRowsWhere (IsAmong us (Wants wanted)) c.args.state.now c.args.window (c.loop-uid.rows.items ++
    c.in_ok-more.more.items)) (sym done)
    (gather_more c.args.state.now c.args.window (Wants wanted) (take i uids) c.loop-uid.rows.items c.loop-uid.invariant uid
    c.in_ok-more.more.items later c.in_ok-more.ensures))
