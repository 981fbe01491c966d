use Rattle.std.proofs.Common.{◌≡◌, rules}
use Rattle.std.specs.Ordering.{is_lt}
use Rattle.std.proofs.lemmas.Fn.{always_returns_same}
use Rattle.std.proofs.lemmas.List.Sorted.{ranks_by, IsPermutation-map, IsPermutation-sym, Contains-permutation}
use Rattle.itip_report.specs.Lines.{place_cmp}
use Rattle.itip_report.proofs.Placing.{place_total, places_ascend}
use Rattle.itip_report.proofs.places.by_place.Goals as goal

pub returns-clause-ascend : goal.returns-clause-ascend
returns-clause-ascend c =
    places_ascend (λ item. item.now) c.args.items.items c.sort_by.new.self.items c.requires c.in_ok-sort_by.ensures.permutation
    (c.in_ok-sort_by.ensures.sorted (λ a b. is_lt (place_cmp a.now.key b.now.key)) (ranks_by place_total (λ a. a.now.key))
    (always_returns_same _ (λ a r. is_lt r ≡ is_lt (place_cmp a.0.now.now.key a.1.0.now.now.key)) _ (λ a r f' k. search rules)))

pub returns-clause-same : goal.returns-clause-same
returns-clause-same c = λ item.
    let moved = IsPermutation-map (λ i. i.now) _ _ c.in_ok-sort_by.ensures.permutation in (
      Contains-permutation _ _ item (IsPermutation-sym _ _ moved),
      Contains-permutation _ _ item moved,
    )
