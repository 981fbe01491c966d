use Rattle.std.proofs.Common.{◌≡◌, ℕ, List, Some}
use Rattle.std.specs.List.{Contains}
use Rattle.itip_join.proofs.Walk.{IsWalk}
use Rattle.itip_desk.specs.MovedSince.{tick_at}
use Rattle.itip_desk.proofs.Ticking.{uid_cmp}
use Rattle.itip_desk.proofs.moved_since.moves_by_tick.Given as goal

abbrev pub invariant-loop-uid : goal.invariant-loop-uid
invariant-loop-uid l = IsWalk uid_cmp (tick_at l.ticks.entries)
    (λ (q : List ℕ). (tick : ℕ) → tick_at l.ticks.entries q ≡ Some tick → Contains l.order.items (tick, q)) (λ q. Unit {0}) l.uid-iterator
