use Rattle.std.proofs.Common.{subst}
use Rattle.itip_state.specs.Kept.{HasEachOnce}
use Rattle.itip_state.specs.Order.{IsState}
use Rattle.itip_state.proofs.Maps.{held_state}
use Rattle.itip_state.proofs.Ordered.{held_once}
use Rattle.itip_state.proofs.state.State.lawful.Goals as goal

pub returns-clause-state : goal.returns-clause-state
returns-clause-state c = subst IsState c.self.view_is (held_state c.self.inside.held c.self.invariant)

pub returns-clause-once : goal.returns-clause-once
returns-clause-once c = subst HasEachOnce c.self.view_is (held_once c.self.inside.held c.self.invariant)
