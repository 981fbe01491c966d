use Rattle.std.proofs.Common.{length}
use Rattle.itip_inbox.proofs.leb128.+first_number.Given as goal

abbrev pub decreases-first_number : goal.decreases-first_number
decreases-first_number l = length l.octets.now
