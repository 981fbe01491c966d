use Rattle.std.proofs.Common.{◌∙◌, ◌+◌, ◌≤◌, ℕ, List, length, take_all, ap, subst}
use Rattle.itip_desk.specs.Numbers.{text_number}
use Rattle.itip_desk.proofs.Numbering.{number_more}
use Rattle.itip_desk.proofs.number.uid_number.Goals as goal

pub loop-octet-preserved : goal.loop-octet-preserved
loop-octet-preserved c = record {
  number = c.number_with-number.ensures.number ∙ number_more c.as_bytes-octet-items.result.now c.args.uid.now
      c.as_bytes-octet-items.ensures.value c.loop-octet.octet-index c.loop-octet.number _ c.loop-octet-test.true
      c.loop-octet.invariant.number;
  small = c.number_with-number.ensures.small;
}

pub returns : goal.returns
returns c = ap (λ (n : ℕ). n + 1) (c.loop-octet.invariant.number ∙ ap text_number (take_all c.loop-octet.octet-index c.args.uid.now
    (subst (λ (xs : List ℕ). length xs ≤ c.loop-octet.octet-index) c.as_bytes-octet-items.ensures.value c.loop-octet-test.false)))
