use Rattle.std.proofs.Common.{map, take}
use Rattle.itip_state.proofs.Giving.{GivenFor, GivenBelow}
use Rattle.itip_state.proofs.state.State.giving_way.Given as goal

abbrev pub invariant-loop-item : goal.invariant-loop-item
invariant-loop-item l = GivenFor l.self (map (λ item. item.now) (take l.item-index l.news)) l.items.items l.greatest

abbrev pub invariant-loop-uid : goal.invariant-loop-uid
invariant-loop-uid l = GivenBelow l.self (map (λ item. item.now) l.news) l.items.items l.initial.uid-iterator l.uid-iterator
