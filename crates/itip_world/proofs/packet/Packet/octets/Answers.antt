use Rattle.std.proofs.Common.{◌∙◌}
use Rattle.itip_desk.proofs.ReadDeltas.{empty_batch}
use Rattle.itip_world.proofs.packet.Packet.octets.Goals as goal

pub returns-clause-succeeds : goal.returns-clause-succeeds
returns-clause-succeeds c = λ none.
    c.write_delta.ensures.succeeds (empty_batch c.self.inside.batch c.self.invariant (c.self.view_is ∙ none))
