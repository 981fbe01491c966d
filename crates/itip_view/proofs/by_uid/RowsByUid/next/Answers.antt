use Rattle.std.proofs.Common.{◌≡◌, ◌≤◌, ◌<◌, ◌+◌, ◌++◌, ◌∙◌, ◌∷◌, ℕ, List, length, map, drop, get_or, refl, sym, ap, subst, arith}
use Rattle.std.specs.Ordering.{nat_cmp}
use Rattle.std.specs.Cmp.Lexicographic.{slice_cmp}
use Rattle.std.specs.declared.cmp.Ordering.TheVariants.{Less}
use Rattle.std.proofs.lemmas.List.{drop_all, drop_more, length-map}
use Rattle.std.proofs.Math.ListN.{get_or-map}
use Rattle.std.proofs.Common.{Result, Ok, Err}
use Rattle.std.specs.Prelude.{OnErr}
use Rattle.itip_state.proofs.Ascending.{pairs_ascend}
use Rattle.itip_state.specs.Kept.{AscendTexts}
use Rattle.itip_view.specs.Showing.{AreRowsWhere, IsAmong}
use Rattle.itip_view.specs.Wanting.{Wants}
use Rattle.itip_view.specs.declared.by_uid.RowsByUid.{RowsByUid}
use Rattle.itip_view.specs.declared.row.Row.{Row}
use Rattle.itip_view.proofs.Left.{none_left, pairs_dropped, rows_joined, rows_split}
use Rattle.itip_view.proofs.by_uid.RowsByUid.next.Goals as goal

pub returns-then-self-len-clause-rows : goal.returns-then-self-len-clause-rows
returns-then-self-len-clause-rows c =
    let asked : RowsByUid = c.args.self.now in
    let all : List (List ℕ) = map (λ uid. uid.now) asked.uids.items in
    let long : length all ≡ length asked.uids.items = length-map asked.uids.items (λ uid. uid.now) in
    let over : length all ≤ asked.done = grind (arith, long) in
    record {
      no_uid = drop_all asked.done all over;
      no_row = none_left asked.state.now asked.window (Wants asked.wanted) (drop asked.done all) (drop_all asked.done all over);
      same = refl;
    }

pub returns-clause-rows : goal.returns-clause-rows
returns-clause-rows c =
    let asked : RowsByUid = c.args.self.now in
    let all : List (List ℕ) = map (λ uid. uid.now) asked.uids.items in
    let i : ℕ = asked.done in
    let uid : List ℕ = c.index-uid.result.now.now in
    let P : Row → Type 0 = Wants asked.wanted in
    let rows : List Row = c.in_ok-rows.rows.items in
    let long : length all ≡ length asked.uids.items = length-map asked.uids.items (λ uid. uid.now) in
    let below : i < length all = grind (arith, long) in
    let here : get_or all i uid ≡ uid = get_or-map (λ uid. uid.now) asked.uids.items i c.index-uid.result.now ∙
    ap (λ uid. uid.now) (sym c.index-uid.ensures) in
    let split : drop i all ≡ uid ∷ drop (i + 1) all = drop_more all i uid below ∙ ap (λ (u : List ℕ). u ∷ drop (i + 1) all) here in
    let ascend : AscendTexts (uid ∷ drop (i + 1) all) =
    subst AscendTexts split
    (pairs_dropped (λ (a b : List ℕ). slice_cmp nat_cmp a b ≡ Less) i all (pairs_ascend (slice_cmp nat_cmp) all asked.ascend)) in
    record {
      uid = uid;
      uids_are = split;
      state_is = refl;
      window_is = refl;
      wanted_is = refl;
      are_rows = c.in_ok-rows.ensures;
      joins = λ rest are. subst (λ (us : List (List ℕ)). AreRowsWhere (IsAmong us P) asked.state.now asked.window (rows ++ rest))
          (sym split) (rows_joined asked.state.now asked.window P uid (drop (i + 1) all) ascend rows c.in_ok-rows.ensures rest are);
      splits = λ every are. rows_split asked.state.now asked.window P uid (drop (i + 1) all) ascend rows c.in_ok-rows.ensures every
          (subst (λ (us : List (List ℕ)). AreRowsWhere (IsAmong us P) asked.state.now asked.window every) split are);
    }

pub returns-clause-fewer : goal.returns-clause-fewer
returns-clause-fewer c =
    let asked : RowsByUid = c.args.self.now in
    let all : List (List ℕ) = map (λ uid. uid.now) asked.uids.items in
    let uid : List ℕ = c.index-uid.result.now.now in
    let long : length all ≡ length asked.uids.items = length-map asked.uids.items (λ uid. uid.now) in
    let below : asked.done < length all = grind (arith, long) in
    let one : length (drop asked.done all) ≡ length (get_or all asked.done uid ∷ drop (asked.done + 1) all) =
    ap length (drop_more all asked.done uid below) in
    omega (arith, one)

on_err : {X E : Type 0} (r : Result X E) {P : Type 0} → P → OnErr r P
on_err (Ok x) p = tt
on_err (Err e) p = p

pub returns-in_err-rows-clause-err : goal.returns-in_err-rows-clause-err
returns-in_err-rows-clause-err c = on_err c.from_residual.result (refl, λ rows. (λ left. left, λ left. left))
