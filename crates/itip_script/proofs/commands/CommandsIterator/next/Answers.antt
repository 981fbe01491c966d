use Rattle.std.proofs.Common.{sym, ◌∙◌, ap, length, rules}
use Rattle.itip_script.specs.Orders.{order_of}
use Rattle.itip_script.specs.Script.{orders_of}
use Rattle.itip_script.proofs.Stretches.{orders_of_stray, orders_of_blank, orders_of_blank_first}
use Rattle.itip_script.proofs.commands.CommandsIterator.next.Goals as goal

pub returns-then-not-before-clause-steps : goal.returns-then-not-before-clause-steps
returns-then-not-before-clause-steps c =
    let before = c.leading_stretch-before in
    orders_of_stray c.args.self.now.rest.now before.result.after.now (sym before.ensures.blank ∙ c.if-not-before.true) before.ensures.after

pub returns-then-not-before-clause-goes : goal.returns-then-not-before-clause-goes
returns-then-not-before-clause-goes c =
    let before = c.leading_stretch-before in
    let shorter = ap length (orders_of_stray c.args.self.now.rest.now before.result.after.now (sym before.ensures.blank ∙
    c.if-not-before.true) before.ensures.after) in
    search rules

pub returns-in_err-line-clause-steps : goal.returns-in_err-line-clause-steps
returns-in_err-line-clause-steps c =
    let before = c.leading_stretch-before in
    let none = ap orders_of c.in_err-line.ensures in
    let all = orders_of_blank c.args.self.now.rest.now before.result.after.now (sym before.ensures.blank ∙ c.if-not-before.false)
    before.ensures.after in
    rw c.from_residual.ensures (all ∙ none, none)

pub returns-clause-steps : goal.returns-clause-steps
returns-clause-steps c =
    let before = c.leading_stretch-before in
    orders_of_blank_first c.args.self.now.rest.now before.result.after.now c.in_ok-line.line.now c.in_ok-line.after.now
    c.command_at.result.1.now
    (order_of c.command_at.result.0) (sym before.ensures.blank ∙ c.if-not-before.false) before.ensures.after c.in_ok-line.ensures.lines
    c.command_at.ensures

pub returns-clause-goes : goal.returns-clause-goes
returns-clause-goes c =
    let before = c.leading_stretch-before in
    let shorter = ap length (orders_of_blank_first c.args.self.now.rest.now before.result.after.now c.in_ok-line.line.now
    c.in_ok-line.after.now c.command_at.result.1.now
    (order_of c.command_at.result.0) (sym before.ensures.blank ∙ c.if-not-before.false) before.ensures.after c.in_ok-line.ensures.lines
    c.command_at.ensures) in
    search rules
