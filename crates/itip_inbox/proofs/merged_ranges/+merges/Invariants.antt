use Prim.Native.Nat.{◌+◌, ◌*◌}
use Rattle.itip_inbox.proofs.merged_ranges.+merges.Given as goal

abbrev pub decreases-merged : goal.decreases-merged
decreases-merged g l = 2 * l.threads

abbrev pub decreases-left : goal.decreases-left
decreases-left g l = 2 * l.half + 1

abbrev pub decreases-right : goal.decreases-right
decreases-right g l = 2 * l.rest + 1
