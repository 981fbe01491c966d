use Rattle.std.proofs.Common.{◌≡◌, rules}
use Rattle.std.specs.Ordering.{is_lt}
use Rattle.std.proofs.lemmas.Fn.{always_returns_same}
use Rattle.std.proofs.lemmas.List.Sorted.{ranks_by}
use Rattle.itip_explain.specs.Asking.{pair_of, pair_cmp}
use Rattle.itip_explain.proofs.Askings.{pair_total}
use Rattle.itip_explain.proofs.asked.in_order.Goals as goal

pub returns-clause-up : goal.returns-clause-up
returns-clause-up c =
    c.in_ok-sort_by.ensures.sorted (λ a b. is_lt (pair_cmp (pair_of a) (pair_of b))) (ranks_by pair_total pair_of)
    (always_returns_same _ (λ a r. is_lt r ≡ is_lt (pair_cmp (pair_of a.0.now) (pair_of a.1.0.now))) _ (λ a r f' k. search rules))
