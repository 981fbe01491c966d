use Rattle.std.proofs.Common.{map, take}
use Rattle.itip_state.specs.Kept.{ArePartOf}
use Rattle.itip_state.specs.Held.{items_of}
use Rattle.itip_state.proofs.state.State.shared_of.Given as goal

abbrev pub invariant-loop-uid : goal.invariant-loop-uid
invariant-loop-uid l = ArePartOf l.items.items (items_of l.self-inside.held) (map (λ uid. uid.now) (take l.uid-index l.uids))
