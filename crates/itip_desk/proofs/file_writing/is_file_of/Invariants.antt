use Rattle.itip_desk.specs.DeskFile.{head_of}
use Rattle.itip_desk.proofs.FileWriting.{Completes}
use Rattle.itip_desk.proofs.file_writing.is_file_of.Given as goal

abbrev pub invariant-loop-item : goal.invariant-loop-item
invariant-loop-item l =
    Completes l.desk.changed (head_of l.desk.tick l.item-items) l.head l.item-items l.item-index l.octets l.rest
