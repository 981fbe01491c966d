use Rattle.std.proofs.Common.{◌≡◌, ◌∙◌, ap, sym, map, length, arith}
use Rattle.std.specs.Ordering.{nat_cmp}
use Rattle.std.specs.Cmp.Lexicographic.{slice_cmp, pointwise, nat_list_eq_equiv, nat_list_cmp_total, texts_ties}
use Rattle.std.specs.Prelude.{nat_eq}
use Rattle.std.proofs.lemmas.List.Filters.{dedup_is}
use Rattle.std.proofs.lemmas.List.Kept.{IsStrictlySortedBy-dedup, Contains-dedup, Contains-from_dedup}
use Rattle.std.proofs.lemmas.List.Sorted.{Contains-permutation, IsPermutation-sym, IsPermutation-map}
use Rattle.std.proofs.lemmas.Map.Lookups.{exact_bytes}
use Rattle.std.proofs.lemmas.Map.Views.{tells_apart}
use Rattle.itip_state.proofs.Ascending.{pairs_ascend}
use Rattle.itip_state.proofs.Once.{dedup_map, sorted_map}
use Rattle.itip_state.proofs.Nothing.{not_ok}
use Rattle.itip_view.proofs.uid_order.sorted_uids.Goals as goal

pub returns-clause-ascend : goal.returns-clause-ascend
returns-clause-ascend c =
    let is = dedup_is _ _ _ c.dedup.ensures.filtered in
    let sort = c.in_ok-sort.ensures in
    rw (ap (map (λ uid. uid.now)) is ∙ dedup_map (λ uid. uid.now) (pointwise nat_eq) c.sort.new.self.items)
    (pairs_ascend (slice_cmp nat_cmp) _ (IsStrictlySortedBy-dedup nat_list_cmp_total texts_ties (map (λ uid. uid.now) c.sort.new.self.items)
    (sorted_map (λ uid. uid.now) (slice_cmp nat_cmp) c.sort.new.self.items sort.sorted)))

pub returns-clause-same : goal.returns-clause-same
returns-clause-same c = λ uid.
    let is = dedup_is _ _ _ c.dedup.ensures.filtered in
    let once = ap (map (λ uid. uid.now)) is ∙ dedup_map (λ uid. uid.now) (pointwise nat_eq) c.sort.new.self.items in
    let moved = IsPermutation-map (λ uid. uid.now) _ _ c.in_ok-sort.ensures.permutation in (
      (λ (h : _). Contains-permutation _ _ uid (IsPermutation-sym _ _ moved) (Contains-from_dedup _ _ uid (rw once at h))),
      (λ (h : _). rw once (Contains-dedup nat_list_eq_equiv (λ x y e. tells_apart exact_bytes x y (sym (texts_ties x y) ∙ e)) _ uid
          (Contains-permutation _ _ uid moved h))),
    )

pub returns-in_err-sort-clause-succeeds : goal.returns-in_err-sort-clause-succeeds
returns-in_err-sort-clause-succeeds c = λ none.
    let empty : length c.args.uids.items ≡ 0 = ap length none in
    not_ok (c.in_err-sort.ensures.succeeds (omega (arith, empty, c.args.uids.ok)))
