use Rattle.std.proofs.Common.{List, [], ℕ, sym, subst}
use Rattle.itip_desk.specs.Desk.{Shown}
use Rattle.itip_world.specs.Worlds.{no_past, AreDesksOf, ArePacketTexts}
use Rattle.itip_world.proofs.world.World.empty.Goals as goal

pub invariant_of-result : goal.invariant_of-result
invariant_of-result c = (
  no_past 0,
  record {
    desks_are = subst (λ (ds : List Shown). AreDesksOf [] ds) (sym c.new.ensures.items) tt;
    packets_are = subst (λ (ts : List (List ℕ)). ArePacketTexts [] ts) (sym c.new-2.ensures.items) tt;
  },
)
