use Rattle.std.proofs.Common.{inl, inr, refl, arith}
use Rattle.std.specs.Int.{w128}
use Rattle.std.proofs.lemmas.Bool.{cases_eq, eq-eqb, ne_eqb}
use Rattle.std.proofs.lemmas.Nat.Bits.{bit_at_set_same, bit_at_set_other}
use Rattle.itip_recur.proofs.sets.with_number.Goals as goal

pub returns-then-number-lt128 : goal.returns-then-number-lt128
returns-then-number-lt128 c n small =
    let set = c.args.set in
    let own = c.args.number in
    elim (cases_eq n own) [
      | inl same ↦ rw (same, bit_at_set_same w128 set own (omega arith), eq-eqb own own refl) (grind arith)
      | inr differ ↦ rw (bit_at_set_other w128 set own (omega arith) n differ, ne_eqb n own differ) (grind arith)
    ]

pub returns-else-number-lt128 : goal.returns-else-number-lt128
returns-else-number-lt128 c n small = rw (ne_eqb n c.args.number (λ e. omega (arith, e))) (grind arith)
