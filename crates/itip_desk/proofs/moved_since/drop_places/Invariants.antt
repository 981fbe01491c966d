use Rattle.std.proofs.Common.{◌≡◌, ◌⊎◌, ℕ, List, take, None}
use Rattle.std.specs.BTreeMap.{IsOrdered}
use Rattle.itip_desk.specs.MovedSince.{tick_at, AreTicks, HavePlaces}
use Rattle.itip_desk.proofs.Ticking.{uid_cmp, PlacesLeft}
use Rattle.itip_desk.proofs.moved_since.drop_places.Given as goal

abbrev pub invariant-loop-uid : goal.invariant-loop-uid
invariant-loop-uid l = record {
  ordered : IsOrdered uid_cmp l.ticks;
  fewer : (uid : List ℕ) → (tick_at l.ticks.entries uid ≡ tick_at l.fn.ticks.entries uid) ⊎ (tick_at l.ticks.entries uid ≡ None);
  left : (was : List (List ℕ × ℕ)) → AreTicks was → HavePlaces l.uids was l.fn.ticks.entries →
      PlacesLeft l.uids (take l.uid-index l.uids) was l.ticks.entries;
}
