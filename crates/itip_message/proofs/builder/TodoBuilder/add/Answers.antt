use Rattle.std.proofs.Common.{◌≡◌, ◌∙◌, ◌+◌, ◌++◌, ◌∷◌, [], ℕ, List, ap, length, arith}
use Rattle.itip_lines.specs.Reading.{line_at}
use Rattle.itip_lines.specs.declared.line.NumberedLine.{NumberedLine}
use Rattle.itip_message.proofs.builder.TodoBuilder.add.Goals as goal

pub returns-clause-added : goal.returns-clause-added
returns-clause-added c =
    let old : List NumberedLine = c.self.inside.lines.items in
    let number : c.len-number.result + 1 ≡ length old + 1 = omega (arith, c.len-number.ensures, c.self.inside.lines.ok.0) in
    record {
      line = c.in_ok-line.line;
      is = c.in_ok-line.ensures.found;
      whole = c.in_ok-push.ensures.items ∙ ap (λ (n : ℕ). old ++ line_at n c.in_ok-line.line ∷ []) number
          ∙ ap (λ (ls : List NumberedLine). ls ++ line_at (length ls + 1) c.in_ok-line.line ∷ []) c.self.view_is;
    }
