use Rattle.std.specs.Cmp.{eq_by_cmp_equiv}
use Rattle.std.proofs.lemmas.List.Filters.{dedup_is}
use Rattle.std.proofs.lemmas.List.Kept.{IsStrictlySortedBy-dedup, Contains-dedup, Contains-from_dedup}
use Rattle.std.proofs.lemmas.List.Sorted.{Contains-permutation, IsPermutation-sym}
use Rattle.std.proofs.lemmas.Map.Views.{tells_apart}
use Rattle.std.proofs.Common.{refl}
use Rattle.itip_moment.specs.OrderLaws.{moment_total}
use Rattle.itip_moment.proofs.Same.{moment_equal}
use Rattle.itip_view.proofs.whole.sorted_moments.Goals as goal

pub returns : goal.returns
returns c =
    let is = dedup_is _ _ _ c.dedup.ensures.filtered in
    let sort = c.in_ok-sort.ensures in
    let moved = sort.permutation in
    record {
      ascend = rw is (IsStrictlySortedBy-dedup moment_total (λ x y. refl) _ sort.sorted);
      same = λ at. (
        (λ (h : _). Contains-permutation _ _ at (IsPermutation-sym _ _ moved) (Contains-from_dedup _ _ at (rw is at h))),
        (λ (h : _). rw is (Contains-dedup (eq_by_cmp_equiv moment_total) (tells_apart moment_equal) _ at
            (Contains-permutation _ _ at moved h))),
      );
    }
