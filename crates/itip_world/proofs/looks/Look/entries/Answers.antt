use Rattle.std.proofs.Common.{ℕ, subst, sym}
use Rattle.itip_world.specs.Running.{counted}
use Rattle.itip_world.specs.Looking.{Looks}
use Rattle.itip_world.specs.Looking.Looks.{counts_kept, counts_no_desk}
use Rattle.itip_script.specs.Orders.{counts}
use Rattle.itip_world.proofs.looks.Look.entries.Goals as goal

pub returns-in-Some : goal.returns-in-Some
returns-in-Some c =
    subst (λ (n : ℕ). Looks c.args.self.now.window c.args.self.now.desks.now (counts c.args.desk) (counted c.args.desk n))
    (sym c.entries.ensures.number)
    (counts_kept c.args.desk c.in-Some.asked.now c.in-Some.ensures c.entries.ensures.once)

pub returns-in-None : goal.returns-in-None
returns-in-None c = counts_no_desk c.args.desk c.in-None.ensures
