use Rattle.std.proofs.Common.{◌≤◌, ◌≡◌, length, take}
use Rattle.std.specs.Prelude.{vec_len, vec_capacity}
use Rattle.itip_world.specs.Worlds.{no_past, IsWorldAfter}
use Rattle.itip_world.proofs.run.run_world.Given as goal

-- the world after the events so far, and an outcome of each, with room for those of the others
abbrev pub invariant-loop-done : goal.invariant-loop-done
invariant-loop-done l =
    IsWorldAfter (no_past l.desks) (take l.done l.events) l.world l.outcomes.items × (vec_len l.outcomes ≡ l.done) ×
    (length l.events ≤ vec_capacity l.outcomes)
