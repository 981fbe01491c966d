use Rattle.std.proofs.Common.{sym, subst}
use Rattle.std.specs.Str.{IsUtf8}
use Rattle.itip_lines.proofs.Roundtrip.{utf8_params}
use Rattle.itip_lines.proofs.seen_line.SeenLine.params.Goals as goal

pub from_utf8_unchecked-requires : goal.from_utf8_unchecked-requires
from_utf8_unchecked-requires c =
    subst IsUtf8 (sym c.parts.ensures.params) (utf8_params c.args.self.now.params c.args.self.now.lawful.each_param)

pub returns-clause-lawful : goal.returns-clause-lawful
returns-clause-lawful c = c.args.self.now.lawful.each_param
