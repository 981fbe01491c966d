use Rattle.std.proofs.Common.{◌≡◌, ◌∙◌, ℕ, List, map, drop, sym, ap, subst}
use Rattle.std.specs.Ordering.{nat_cmp}
use Rattle.std.specs.Cmp.Lexicographic.{slice_cmp}
use Rattle.std.specs.declared.cmp.Ordering.TheVariants.{Less}
use Rattle.std.proofs.lemmas.List.{take_rest}
use Rattle.itip_state.proofs.Ascending.{pairs_ascend}
use Rattle.itip_state.specs.Kept.{AscendTexts}
use Rattle.itip_view.specs.declared.by_uid.RowsByUid.{RowsByUid}
use Rattle.itip_view.proofs.Left.{map_dropped, pairs_dropped}
use Rattle.itip_view.proofs.by_uid.RowsByUid.left.Goals as goal

pub returns : goal.returns
returns c =
    let asked : RowsByUid = c.args.self.now in
    let all : List (List ℕ) = map (λ uid. uid.now) asked.uids.items in
    let uids : map (λ uid. uid.now) (drop asked.done c.as_slice-all.result.now) ≡ drop asked.done all =
    map_dropped (λ uid. uid.now) asked.done c.as_slice-all.result.now ∙
    ap (λ us. drop asked.done (map (λ uid. uid.now) us)) c.as_slice-all.ensures.value in
    let ascend : AscendTexts (drop asked.done all) =
    pairs_dropped (λ (a b : List ℕ). slice_cmp nat_cmp a b ≡ Less) asked.done all (pairs_ascend (slice_cmp nat_cmp) all asked.ascend) in
    rw take_rest (record { uids = uids; ascend = subst AscendTexts (sym uids) ascend })
