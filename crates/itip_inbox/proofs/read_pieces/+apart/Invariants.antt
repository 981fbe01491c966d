use Prim.Native.Nat.{◌+◌, ◌*◌}
use Rattle.itip_inbox.proofs.read_pieces.+apart.Given as goal

abbrev pub decreases-read_apart : goal.decreases-read_apart
decreases-read_apart g l = 2 * l.threads

abbrev pub decreases-left : goal.decreases-left
decreases-left g l = 2 * l.before + 1

abbrev pub decreases-right : goal.decreases-right
decreases-right g l = 2 * l.after + 1
