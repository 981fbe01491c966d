use Rattle.std.proofs.Common.{ℕ, ap, take, drop, ◌∙◌}
use Rattle.std.proofs.lemmas.List.{take_rest}
use Rattle.itip_desk.proofs.fronts.split_digits.Goals as goal

pub returns-clause-digits : goal.returns-clause-digits
returns-clause-digits c = ap (λ (n : ℕ). take n c.args.octets.now) c.digits-end.ensures.exact

pub returns-clause-after : goal.returns-clause-after
returns-clause-after c = take_rest c.args.octets.now _ ∙ ap (λ (n : ℕ). drop n c.args.octets.now) c.digits-end.ensures.exact
