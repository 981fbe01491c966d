use Rattle.std.proofs.Common.{sym, ap, length, subst, arith}
use Rattle.std.specs.Iterator.{YieldsFirstRef}
use Rattle.itip_lines.specs.TextsLeft.{texts_left}
use Rattle.itip_lines.proofs.text_list.TextsIterator.next.Goals as goal

pub returns-in_err-text-clause-steps : goal.returns-in_err-text-clause-steps
returns-in_err-text-clause-steps c =
    subst (λ r. YieldsFirstRef texts_left c.args.self.now r c.args.self.now) (sym c.from_residual.ensures)
    (c.in_err-text.ensures, c.in_err-text.ensures)

pub returns-clause-steps : goal.returns-clause-steps
returns-clause-steps c = c.in_ok-text.ensures

pub returns-clause-goes : goal.returns-clause-goes
returns-clause-goes c = record { on = λ _. (tt, tt, omega (arith, ap length c.in_ok-text.ensures)); keeps = tt; rests = λ _. tt }
