use Rattle.std.proofs.Common.{◌∙◌, sym, subst}
use Rattle.itip_lines.specs.Joining.{AreJoined, texts_in}
use Rattle.itip_lines.proofs.text_list.TextList.exact.Goals as goal

pub from_octets-requires : goal.from_octets-requires
from_octets-requires c = subst AreJoined (sym c.into_vec.ensures) c.self.invariant

pub returns : goal.returns
returns c =
    c.from_octets.ensures (texts_in c.self.inside.octets) c.self.invariant.each (c.into_vec.ensures ∙ c.self.invariant.octets_are)
    ∙ c.self.view_is
