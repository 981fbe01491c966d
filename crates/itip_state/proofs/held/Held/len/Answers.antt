use Rattle.std.proofs.Common.{◌∙◌, length, ap, sym}
use Rattle.itip_state.specs.UidStates.{uid_state}
use Rattle.itip_state.proofs.Seeing.{states_long}
use Rattle.itip_state.proofs.held.Held.len.Goals as goal

pub returns : goal.returns
returns c = c.len.ensures ∙ sym (states_long uid_state c.self.inside.map.map) ∙ ap length c.self.view_is
