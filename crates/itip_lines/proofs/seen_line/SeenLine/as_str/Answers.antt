use Rattle.std.proofs.Common.{◌∙◌, sym, ap, subst}
use Rattle.std.specs.Str.{IsUtf8}
use Rattle.itip_lines.specs.Writing.{unfolded_text}
use Rattle.itip_lines.proofs.LinePlaces.{text_of}
use Rattle.itip_lines.proofs.Roundtrip.{utf8_line}
use Rattle.itip_lines.proofs.seen_line.SeenLine.as_str.Goals as goal

pub from_utf8_unchecked-requires : goal.from_utf8_unchecked-requires
from_utf8_unchecked-requires c =
    subst IsUtf8 (sym (c.as_slice.ensures ∙ text_of _ c.self.inside.stands.is_line ∙ ap unfolded_text c.self.view_is))
    (utf8_line c.args.self.now)

pub returns : goal.returns
returns c = c.from_utf8_unchecked.ensures ∙ c.as_slice.ensures ∙ text_of _ c.self.inside.stands.is_line ∙ ap unfolded_text c.self.view_is
