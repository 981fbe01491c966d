use Rattle.std.proofs.Common.{◌≡◌, ◌≤◌, ℕ, List, take, true}
use Rattle.std.specs.Prelude.{is_some}
use Rattle.std.specs.BTreeMap.{IsOrdered}
use Rattle.std.specs.List.{Contains}
use Rattle.std.specs.List.Sorted.{IsNonDecreasingBy}
use Rattle.itip_desk.specs.MovedSince.{is_listed, tick_at, move_tick, HavePlaces}
use Rattle.itip_desk.proofs.Ticking.{uid_cmp}
use Rattle.itip_desk.proofs.moved_since.put_moves.Given as goal

abbrev pub invariant-loop-uid : goal.invariant-loop-uid
invariant-loop-uid l = record {
  by_tick : IsNonDecreasingBy move_tick l.order.items;
  most : (move : ℕ × List ℕ) → Contains l.order.items move → move.0 ≤ l.tick;
  all : (uid : List ℕ) → is_listed (take l.uid-index l.uids) uid ≡ true → Contains l.order.items (l.tick, uid);
  keeps : (move : ℕ × List ℕ) → Contains l.fn.order.items move → Contains l.order.items move;
  ordered : IsOrdered uid_cmp l.ticks;
  places : HavePlaces l.uids l.fn.ticks.entries l.ticks.entries;
  placed : (uid : List ℕ) → is_listed (take l.uid-index l.uids) uid ≡ true → is_some (tick_at l.ticks.entries uid) ≡ true;
}
