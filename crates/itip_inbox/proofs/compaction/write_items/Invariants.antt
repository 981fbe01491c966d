use Rattle.std.proofs.Common.{take}
use Rattle.itip_inbox.specs.Compaction.{WritesSoFar}
use Rattle.itip_inbox.proofs.compaction.write_items.Given as goal

abbrev pub invariant-loop-item : goal.invariant-loop-item
invariant-loop-item g l =
    WritesSoFar (g.W.Write.contents l.fn.writer) (g.W.Write.contents l.writer) (take l.item-index l.items) l.kept.items
