use Rattle.std.proofs.Common.{◌≡◌, ◌+◌, ◌%◌, ◌*◌, ◌/◌, ◌^◌, ◌<◌, sym, ◌∙◌, arith}
use Rattle.std.specs.Int.{bit_at}
use Rattle.std.proofs.lemmas.Bool.{eq-eqb, eqb-true}
use Rattle.std.proofs.lemmas.Nat.{shr_le}
use Rattle.itip_recur.proofs.WeekMasks.{ahead, by_zeros}
use Rattle.itip_recur.proofs.walk.wait_in_week.Goals as goal

pub returns : goal.returns
returns c =
    let w = c.args.week in
    let d = c.args.weekday in
    let n = 129 * w / 2 ^ d in
    let small : n < 2 ^ 16 = omega (arith, shr_le (129 * w) d, c.requires.week_in) in
    let z = by_zeros n small in
    record {
      bound = z.bound;
      found = λ lt. eq-eqb _ 1 (sym (ahead w d _ c.requires.week_in c.requires.weekday_in lt) ∙ z.found lt);
      none = λ k k_in before on.
          let bit : bit_at w ((d + k) % 7) ≡ 1 = eqb-true _ 1 on in
          omega (arith, bit, ahead w d k c.requires.week_in c.requires.weekday_in k_in, z.none k before);
    }
