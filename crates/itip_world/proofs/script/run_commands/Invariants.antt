use Rattle.std.proofs.Common.{◌≡◌, ℕ, map}
use Rattle.itip_world.specs.Worlds.{no_past, IsWorldOf}
use Rattle.itip_script.specs.Orders.{order_of}
use Rattle.itip_script.specs.Script.{orders_of}
use Rattle.itip_script.specs.Left.{orders_left}
use Rattle.itip_world.specs.Running.{RunsSoFar}
use Rattle.itip_world.proofs.script.run_commands.Given as goal

abbrev pub invariant-loop-command : goal.invariant-loop-command
invariant-loop-command g l =
    ((desks : ℕ) → IsWorldOf (no_past desks) l.fn.asked.world →
    RunsSoFar l.fn.asked.window desks (g.W.Write.contents l.fn.writer) (g.W.Write.contents l.writer) (orders_of l.script)
    (map order_of l.yielded)
    (orders_left l.command-iterator) l.asked.world l.kept.items l.is_refused)
    × (l.asked.window ≡ l.fn.asked.window)
