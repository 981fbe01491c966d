use Rattle.std.specs.Cmp.{eq_by_cmp_equiv}
use Rattle.std.proofs.lemmas.List.Filters.{dedup_is}
use Rattle.std.proofs.lemmas.List.Kept.{IsStrictlySortedBy-dedup, Contains-dedup, Contains-from_dedup}
use Rattle.std.proofs.lemmas.List.Sorted.{Contains-permutation, IsPermutation-sym}
use Rattle.std.proofs.lemmas.Map.Views.{tells_apart}
use Rattle.std.proofs.Common.{refl}
use Rattle.itip_moment.specs.OrderLaws.{moment_total}
use Rattle.itip_moment.proofs.Same.{moment_equal}
use Rattle.itip_recur.proofs.ascending.Ascending.of_moments.Goals as goal

pub returns : goal.returns
returns c =
    let is = dedup_is _ _ _ c.dedup.ensures.filtered in
    let moved = c.in_ok-sort.ensures.permutation in
    λ m. (
      λ h. Contains-permutation _ _ m (IsPermutation-sym _ _ moved) (Contains-from_dedup _ _ m (rw is at h)),
      λ h. rw is (Contains-dedup (eq_by_cmp_equiv moment_total) (tells_apart moment_equal) _ m (Contains-permutation _ _ m moved h)),
    )

pub invariant_of-result : goal.invariant_of-result
invariant_of-result c =
    let is = dedup_is _ _ _ c.dedup.ensures.filtered in
    record { ascending = rw is (IsStrictlySortedBy-dedup moment_total (λ x y. refl) _ c.in_ok-sort.ensures.sorted) }
