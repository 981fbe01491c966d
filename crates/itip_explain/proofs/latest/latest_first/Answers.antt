use Rattle.std.proofs.Common.{◌≡◌, rules}
use Rattle.std.specs.Ordering.{is_lt}
use Rattle.std.proofs.lemmas.Fn.{always_returns_same}
use Rattle.std.proofs.lemmas.List.Sorted.{ranks_by}
use Rattle.itip_explain.specs.Latest.{is_before}
use Rattle.itip_explain.proofs.Firsts.{told_total}
use Rattle.itip_explain.proofs.latest.latest_first.Goals as goal

pub returns : goal.returns
returns c = record {
  moved = c.in_ok-sort_by.ensures.permutation;
  up = c.in_ok-sort_by.ensures.sorted is_before (ranks_by told_total (λ one. one.now))
      (always_returns_same _ (λ a r. is_lt r ≡ is_before a.0.now a.1.0.now) _ (λ a r f' k. search rules));
  stable = c.in_ok-sort_by.ensures.stable is_before (ranks_by told_total (λ one. one.now))
      (always_returns_same _ (λ a r. is_lt r ≡ is_before a.0.now a.1.0.now) _ (λ a r f' k. search rules));
}
