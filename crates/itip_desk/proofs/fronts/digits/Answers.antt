use Rattle.std.proofs.Common.{◌≡◌, ◌∙◌, ◌+◌, ap, sym, ℕ, length, arith}
use Rattle.itip_desk.proofs.FileNumbers.{digits_at, each_more, all_digits}
use Rattle.itip_desk.proofs.fronts.digits.Goals as goal

pub loop-octet-preserved : goal.loop-octet-preserved
loop-octet-preserved c = record {
  count = ap (λ (n : ℕ). n + 1) c.loop-octet.invariant.count;
  each = each_more c.args.octets.now c.loop-octet.octet-index c.loop-octet.invariant.each (sym c.if-not-is_ascii_digit.ensures.value);
}

pub returns-then-not-is_ascii_digit-clause-exact : goal.returns-then-not-is_ascii_digit-clause-exact
returns-then-not-is_ascii_digit-clause-exact c =
    c.loop-octet.invariant.count
    ∙ digits_at c.args.octets.now c.loop-octet.octet-index c.loop-octet-test.true c.loop-octet.invariant.each
    (sym c.if-not-is_ascii_digit.ensures.value)

pub returns-after-loop-octet-clause-exact : goal.returns-after-loop-octet-clause-exact
returns-after-loop-octet-clause-exact c =
    let all : c.loop-octet.octet-index ≡ length c.args.octets.now = omega (arith, c.loop-octet-test.false) in
    c.loop-octet.invariant.count ∙ all ∙ all_digits c.args.octets.now (λ k below. c.loop-octet.invariant.each k (omega (arith, below, all)))
