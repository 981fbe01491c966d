-- A walk over the days of a rule passes over no day of the pattern.
use Rattle.std.proofs.Common.{◌≡◌, ℤ, pos, ◌+ℤ◌, ◌≤ℤ◌, subst, arith}
use Rattle.std.proofs.lemmas.Int.{by_lt_z}
use Rattle.jiff_core.proofs.SignedLemmas.{signed_arith}
use Rattle.itip_recur.specs.declared.rule.Rule.{Rule}
use Rattle.itip_recur.specs.SelectedDays.{InPattern}
use Rattle.itip_recur.specs.Walk.{IsNoDay}

pub IsNoDay-none : (rule : Rule) (start from : ℤ) → IsNoDay rule start from from
IsNoDay-none rule start from = λ x low high in_pattern. omega (arith, signed_arith)

pub IsNoDay-skipped : (rule : Rule) (start from day next : ℤ) → IsNoDay rule start from day → IsNoDay rule start day next →
    IsNoDay rule start from next
IsNoDay-skipped rule start from day next none skipped =
    λ x low high in_pattern. by_lt_z x day (λ lt. none x low lt in_pattern) (λ ge. skipped x ge high in_pattern)

pub IsNoDay-more : (rule : Rule) (start from day : ℤ) → IsNoDay rule start from day → (InPattern rule start day → ⊥) →
    IsNoDay rule start from (day +ℤ pos 1)
IsNoDay-more rule start from day none here =
    λ x low high in_pattern.
    by_lt_z x day (λ lt. none x low lt in_pattern)
    (λ ge. let same : x ≡ day = omega (arith, signed_arith) in here (subst (InPattern rule start) same in_pattern))

pub IsNoDay-up_to : (rule : Rule) (start from day end : ℤ) → IsNoDay rule start from day → end ≤ℤ day → IsNoDay rule start from end
IsNoDay-up_to rule start from day end none le = λ x low high in_pattern. none x low (omega (arith, signed_arith)) in_pattern
