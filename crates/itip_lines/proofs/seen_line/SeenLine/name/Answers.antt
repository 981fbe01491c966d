use Rattle.std.proofs.Common.{sym, subst}
use Rattle.std.specs.Str.{IsUtf8}
use Rattle.itip_lines.proofs.Roundtrip.{name_spells}
use Rattle.itip_lines.proofs.Utf8Parts.{utf8_name}
use Rattle.itip_lines.proofs.seen_line.SeenLine.name.Goals as goal

pub from_utf8_unchecked-requires : goal.from_utf8_unchecked-requires
from_utf8_unchecked-requires c =
    subst IsUtf8 (sym c.parts.ensures.name)
    (utf8_name c.args.self.now.name (name_spells c.args.self.now.name c.args.self.now.lawful.named).octets)
