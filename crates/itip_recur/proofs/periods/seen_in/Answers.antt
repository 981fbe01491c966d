use Rattle.std.proofs.Common.{◌≡◌, ℕ, suc, ◌+◌, arith, FitsSigned, w32, to_z, to_z-of_z, pos, ◌+ℤ◌, ◌≤ℤ◌, subst}
use Rattle.jiff_core.proofs.SignedLemmas.{signed_arith}
use Rattle.itip_recur.specs.Walk.{IsNextDay, IsNoDay}
use Rattle.itip_recur.specs.Counting.{Walked}
use Rattle.itip_recur.proofs.periods.seen_in.Goals as goal

pub loop-found-preserved : goal.loop-found-preserved
loop-found-preserved c =
    let rule = c.args.walk.now.rule.now in
    let start = c.args.walk.now.start.number in
    let from : FitsSigned w32 c.args.from = c.ranges.from in
    let end : FitsSigned w32 c.args.end = c.ranges.end in
    let at : IsNextDay rule start (to_z w32 c.loop-found.day-bits) c.args.end c.in-Some.found = simp to_z-of_z at c.in-Some.ensures in
    let low = at.not_before in
    let high = at.before_end in
    let found : FitsSigned w32 c.in-Some.found = omega (arith, signed_arith) in
    let more : FitsSigned w32 (c.in-Some.found +ℤ pos 1) = omega (arith, signed_arith) in
    let few : (c.args.from +ℤ pos c.loop-found.seen) ≤ℤ to_z w32 c.loop-found.day-bits = simp to_z-of_z at c.loop-found.invariant.few in
    let rest : (k : ℕ) → Walked rule start (to_z w32 c.loop-found.day-bits) k c.args.end →
    Walked rule start c.args.from (c.loop-found.seen + k) c.args.end = simp to_z-of_z at c.loop-found.invariant.rest in
    simp to_z-of_z (record {
      in_years = (omega (arith, signed_arith), omega (arith, signed_arith));
      before_end = omega (arith, signed_arith, high);
      few = omega (arith, signed_arith, few, low);
      rest = λ k w.
          let all = rest (suc k) (c.in-Some.found, at, w) in
          let same : c.loop-found.seen + suc k ≡ c.loop-found.seen + 1 + k = omega arith in
          subst (λ (n : ℕ). Walked rule start c.args.from n c.args.end) same all;
    })

pub returns : goal.returns
returns c =
    let rule = c.args.walk.now.rule.now in
    let start = c.args.walk.now.start.number in
    let from : FitsSigned w32 c.args.from = c.ranges.from in
    let end : FitsSigned w32 c.args.end = c.ranges.end in
    let none : IsNoDay rule start (to_z w32 c.loop-found.day-bits) c.args.end = simp to_z-of_z at c.in_default.ensures in
    let before : to_z w32 c.loop-found.day-bits ≤ℤ c.args.end = simp to_z-of_z at c.loop-found.invariant.before_end in
    let rest : (k : ℕ) → Walked rule start (to_z w32 c.loop-found.day-bits) k c.args.end →
    Walked rule start c.args.from (c.loop-found.seen + k) c.args.end = simp to_z-of_z at c.loop-found.invariant.rest in
    let same : c.loop-found.seen + 0 ≡ c.loop-found.seen = omega arith in
    subst (λ (n : ℕ). Walked rule start c.args.from n c.args.end) same (rest 0 (before, none))
