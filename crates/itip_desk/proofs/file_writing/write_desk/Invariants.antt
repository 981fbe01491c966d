use Rattle.itip_desk.specs.DeskFile.{head_of}
use Rattle.itip_desk.proofs.FileWriting.{WritesSoFar}
use Rattle.itip_desk.proofs.file_writing.write_desk.Given as goal

abbrev pub invariant-loop-item : goal.invariant-loop-item
invariant-loop-item g l =
    WritesSoFar l.desk.changed (head_of l.desk.tick l.item-items) l.head l.item-items l.item-index (g.W.Write.contents l.fn.writer)
    (g.W.Write.contents l.writer) l.kept.items
