use Rattle.std.proofs.Common.{◌≡◌, ◌++◌, map}
use Rattle.std.specs.Map.{keys_of}
use Rattle.itip_state.proofs.held.Held.uids.Given as goal

abbrev pub invariant-loop-uid : goal.invariant-loop-uid
invariant-loop-uid l = map (λ uid. uid.now) l.uids.items ++ keys_of l.uid-iterator ≡ keys_of l.self
