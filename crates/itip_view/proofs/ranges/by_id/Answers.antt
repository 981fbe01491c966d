use Rattle.std.proofs.Common.{◌≡◌, rules}
use Rattle.std.specs.Ordering.{is_lt}
use Rattle.std.proofs.lemmas.Fn.{always_returns_same}
use Rattle.std.proofs.lemmas.List.Sorted.{ranks_by}
use Rattle.itip_view.specs.Ruling.{range_cmp}
use Rattle.itip_view.proofs.RangeOrder.{range_total}
use Rattle.itip_view.proofs.Ranging.{in_order}
use Rattle.itip_view.proofs.ranges.by_id.Goals as goal

pub returns : goal.returns
returns c = λ part are. in_order part c.args.found.items c.sort_by.new.self.items are c.in_ok-sort_by.ensures.permutation
    (c.in_ok-sort_by.ensures.sorted (λ a b. is_lt (range_cmp a.id.now b.id.now)) (ranks_by range_total (λ a. a.id.now))
    (always_returns_same _ (λ a r. is_lt r ≡ is_lt (range_cmp a.0.now.id.now a.1.0.now.id.now)) _ (λ a r f' k. search rules)))
