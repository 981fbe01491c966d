use Rattle.std.proofs.Common.{◌≡◌, ◌+◌, ◌<◌, ◌++◌, ◌∷◌, [], ◌∙◌, ℕ, List, length, map, take, take_all, get_or, sym, ap, subst}
use Rattle.std.specs.List.{Contains}
use Rattle.std.specs.Ordering.{nat_cmp}
use Rattle.std.specs.Cmp.Lexicographic.{slice_cmp}
use Rattle.std.specs.declared.cmp.Ordering.TheVariants.{Less}
use Rattle.std.proofs.lemmas.List.{length-map, take_more}
use Rattle.std.proofs.Math.ListN.{get_or-map}
use Rattle.itip_items.specs.declared.item.Item.{Item}
use Rattle.itip_state.specs.Kept.{AreUidsOf}
use Rattle.itip_view.proofs.Collecting.{earlier_before}
use Rattle.itip_report.proofs.Gathering.{ReportedOf, gather_more, all_gathered}
use Rattle.itip_report.proofs.Mapped.{map_both}
use Rattle.itip_report.proofs.reported.all_reported.Goals as goal

pub loop-uid-preserved : goal.loop-uid-preserved
loop-uid-preserved c =
    let uids : List (List ℕ) = map (λ uid. uid.now) c.deref-uid-items.result.now in
    let i : ℕ = c.loop-uid.uid-index in
    let uid : List ℕ = c.uid-item.result.now in
    let part : List Item = c.in_ok-of_uid.of_uid.items in
    let items : List Item = map (λ item. item.now) c.loop-uid.items.items in
    let more : List Item = map (λ item. item.now) c.in_ok-more.more.items in
    let of : AreUidsOf uids c.args.state.now =
    subst (λ us. AreUidsOf (map (λ uid. uid.now) us) c.args.state.now) (sym c.deref-uid-items.ensures.value) c.in_ok-uids.ensures.uids
    in
    let below : i < length uids = rw (length-map c.deref-uid-items.result.now (λ uid. uid.now)) c.loop-uid-test.true in
    let here : uid ≡ get_or uids i uid = ap (λ uid. uid.now) c.uid-item.is ∙
    sym (get_or-map (λ uid. uid.now) c.deref-uid-items.result.now i c.uid-item.result) in
    let later : (u : List ℕ) → Contains (take i uids) u → slice_cmp nat_cmp u uid ≡ Less =
    earlier_before (λ (a b : List ℕ). slice_cmp nat_cmp a b ≡ Less) uids i uid of.ascend below here in
    let done : take (i + 1) uids ≡ take i uids ++ uid ∷ [] = take_more uids i uid below ∙
    ap (λ (u : List ℕ). take i uids ++ u ∷ []) (sym here) in
    let both : map (λ item. item.now) c.append.new.self.items ≡ items ++ more =
    ap (map (λ item. item.now)) c.in_ok-append.ensures.items ∙ map_both (λ item. item.now) c.loop-uid.items.items c.in_ok-more.more.items in
    subst (λ (xs : List Item). ReportedOf c.args.report c.args.state.now (take (i + 1) uids) xs) (sym both)
    (subst (λ (us : List (List ℕ)). ReportedOf c.args.report c.args.state.now us (items ++ more)) (sym done)
    (gather_more c.args.report c.args.state.now (take i uids) items c.loop-uid.invariant uid part more later c.in_ok-of_uid.ensures.items
    c.in_ok-more.ensures))

pub returns : goal.returns
returns c =
    let uids : List (List ℕ) = map (λ uid. uid.now) c.deref-uid-items.result.now in
    let of : AreUidsOf uids c.args.state.now =
    subst (λ us. AreUidsOf (map (λ uid. uid.now) us) c.args.state.now) (sym c.deref-uid-items.ensures.value) c.in_ok-uids.ensures.uids
    in
    let all : take c.loop-uid.uid-index uids ≡ uids =
    take_all c.loop-uid.uid-index uids (rw (length-map c.deref-uid-items.result.now (λ uid. uid.now)) c.loop-uid-test.false) in
    all_gathered c.args.report c.args.state.now uids (map (λ item. item.now) c.loop-uid.items.items) of
    (subst (λ (us : List (List ℕ)). ReportedOf c.args.report c.args.state.now us (map (λ item. item.now) c.loop-uid.items.items)) all
    c.loop-uid.invariant)
