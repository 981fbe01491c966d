-- Days of a pattern that come again some days later are walked through alike.
use Rattle.std.proofs.Common.{◌≡◌, ℕ, zero, suc, sym, subst, arith, ℤ, pos, ◌+ℤ◌, ◌-ℤ◌, ◌<ℤ◌, ◌≤ℤ◌}
use Rattle.jiff_core.proofs.SignedLemmas.{signed_arith}
use Rattle.itip_recur.specs.declared.rule.Rule.{Rule}
use Rattle.itip_recur.specs.SelectedDays.{InPattern}
use Rattle.itip_recur.specs.Walk.{IsNoDay, IsNextDay}
use Rattle.itip_recur.specs.Counting.{Walked}

-- each day from `low` on and before `high` is in the pattern exactly when the day `shift` days later is
pub record ComesAgain (rule : Rule) (start low high shift : ℤ) : Type 0 where
  pub later : (x : ℤ) → low ≤ℤ x → x <ℤ high → InPattern rule start x → InPattern rule start (x +ℤ shift)
  pub earlier : (x : ℤ) → low ≤ℤ x → x <ℤ high → InPattern rule start (x +ℤ shift) → InPattern rule start x

module _ (rule : Rule) (start low high shift : ℤ) (again : ComesAgain rule start low high shift) where
  none_moved : (a b : ℤ) → low ≤ℤ a → b ≤ℤ high → IsNoDay rule start a b → IsNoDay rule start (a +ℤ shift) (b +ℤ shift)
  none_moved a b above below none = λ x ge lt p.
      let back : (x -ℤ shift) +ℤ shift ≡ x = omega (arith, signed_arith) in
      none (x -ℤ shift) (omega (arith, signed_arith)) (omega (arith, signed_arith))
      (again.earlier (x -ℤ shift) (omega (arith, signed_arith)) (omega (arith, signed_arith)) (subst (InPattern rule start) (sym back) p))

  next_moved : (a found : ℤ) → low ≤ℤ a → IsNextDay rule start a high found →
      IsNextDay rule start (a +ℤ shift) (high +ℤ shift) (found +ℤ shift)
  next_moved a found above next =
      let ge = next.not_before in
      let lt = next.before_end in
      record {
        not_before = omega (arith, signed_arith);
        before_end = omega (arith, signed_arith);
        in_pattern = again.later found (omega (arith, signed_arith)) lt next.in_pattern;
        first = none_moved a found above (omega (arith, signed_arith)) next.first;
      }

  pub walk_moved : (count : ℕ) (a : ℤ) → low ≤ℤ a → Walked rule start a count high → Walked rule start (a +ℤ shift) count (high +ℤ shift)
  walk_moved zero a above (le, none) = (omega (arith, signed_arith), none_moved a high above (omega (arith, signed_arith)) none)
  walk_moved (suc count) a above (found, next, rest) =
      let ge = next.not_before in
      let after : (found +ℤ pos 1) +ℤ shift ≡ (found +ℤ shift) +ℤ pos 1 = omega (arith, signed_arith) in (
        found +ℤ shift,
        next_moved a found above next,
        subst (λ (z : ℤ). Walked rule start z count (high +ℤ shift)) after
            (walk_moved count (found +ℤ pos 1) (omega (arith, signed_arith)) rest),
      )
