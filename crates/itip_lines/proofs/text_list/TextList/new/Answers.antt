use Rattle.std.proofs.Common.{[]}
use Rattle.itip_lines.proofs.Joined.{are_joined}
use Rattle.itip_lines.proofs.text_list.TextList.new.Goals as goal

pub from_octets-requires : goal.from_octets-requires
from_octets-requires c = are_joined _ [] tt c.new.ensures.items

pub returns : goal.returns
returns c = c.from_octets.ensures [] tt c.new.ensures.items
