use Rattle.itip_world.specs.Worlds.{histories_from, AreDesksOf}
use Rattle.itip_world.proofs.world.World.start_at.Given as goal

abbrev pub invariant-loop : goal.invariant-loop
invariant-loop l = AreDesksOf (histories_from l.counter l.tick) l.all.items
