use Rattle.std.proofs.Common.{◌≡◌, length, refl, ap, arith}
use Rattle.std.specs.Cmp.{eq_by_cmp_equiv}
use Rattle.std.proofs.lemmas.List.Filters.{dedup_is}
use Rattle.std.proofs.lemmas.List.Kept.{IsStrictlySortedBy-dedup, Contains-dedup, Contains-from_dedup}
use Rattle.std.proofs.lemmas.List.Sorted.{Contains-permutation, IsPermutation-sym}
use Rattle.std.proofs.lemmas.Map.Lookups.{exact_bytes, CmpEqualImpliesEq}
use Rattle.std.proofs.lemmas.Map.Views.{tells_apart}
use Rattle.itip_items.specs.OctetOrder.{octets_cmp, octets_total}
use Rattle.itip_items.proofs.SameItem.{same_item}
use Rattle.itip_state.proofs.Nothing.{not_ok}
use Rattle.itip_state.proofs.Ascending.{pairs_ascend}
use Rattle.itip_state.proofs.shared.by_octets.Goals as goal

exact : CmpEqualImpliesEq octets_cmp
exact i j tied = same_item i j (exact_bytes i.bytes j.bytes tied)

pub returns-clause-items : goal.returns-clause-items
returns-clause-items c =
    let is = dedup_is _ _ _ c.dedup.ensures.filtered in
    let sort = c.in_ok-sort.ensures in
    let moved = sort.permutation in
    record {
      ascend = rw is (pairs_ascend octets_cmp _ (IsStrictlySortedBy-dedup octets_total (λ x y. refl) _ sort.sorted));
      same = λ item. (
        (λ (h : _). Contains-permutation _ _ item (IsPermutation-sym _ _ moved) (Contains-from_dedup _ _ item (rw is at h))),
        (λ (h : _). rw is (Contains-dedup (eq_by_cmp_equiv octets_total) (tells_apart exact) _ item
            (Contains-permutation _ _ item moved h))),
      );
    }

pub returns-in_err-sort-clause-succeeds : goal.returns-in_err-sort-clause-succeeds
returns-in_err-sort-clause-succeeds c = λ none.
    let empty : length c.args.items.items ≡ 0 = ap length none in
    not_ok (c.in_err-sort.ensures.succeeds (omega (arith, empty, c.args.items.ok)))
