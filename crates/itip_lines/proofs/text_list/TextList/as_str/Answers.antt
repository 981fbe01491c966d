use Rattle.std.proofs.Common.{◌∙◌, sym, ap, subst}
use Rattle.std.specs.Str.{IsUtf8}
use Rattle.itip_lines.specs.Joining.{texts_in}
use Rattle.itip_lines.proofs.Joined.{joined_utf8}
use Rattle.itip_lines.proofs.text_list.TextList.as_str.Goals as goal

pub from_utf8_unchecked-requires : goal.from_utf8_unchecked-requires
from_utf8_unchecked-requires c =
    subst IsUtf8 (sym (c.as_slice.ensures ∙ c.self.invariant.octets_are))
    (joined_utf8 (texts_in c.self.inside.octets) c.self.invariant.each)

pub returns : goal.returns
returns c = ap texts_in (c.from_utf8_unchecked.ensures ∙ c.as_slice.ensures) ∙ c.self.view_is
