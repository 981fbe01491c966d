use Rattle.itip_lines.proofs.SameLine.{same_line, lawful_copy}
use Rattle.itip_lines.proofs.line.LineClone.clone.Goals as goal

pub returns : goal.returns
returns c = record {
  cases = same_line _ _ c.in_ok-name.ensures.cases c.in_ok-params.ensures.cases c.in_ok-value.ensures.cases;
}

pub invariant_of-result : goal.invariant_of-result
invariant_of-result c =
    record {
      lawful = lawful_copy c.args.self.now _ _ _ c.in_ok-name.ensures.cases c.in_ok-params.ensures.cases c.in_ok-value.ensures.cases;
    }
