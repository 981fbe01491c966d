use Rattle.std.proofs.Common.{length}
use Rattle.itip_desk.specs.FileReading.{FileSoFar, TellsTick}
use Rattle.itip_desk.proofs.file_reading.read_parts.Given as goal

abbrev pub invariant-loop-message : goal.invariant-loop-message
invariant-loop-message l = record {
  so_far : FileSoFar l.octets l.rest l.parts.tick l.parts.items.items l.parts.moves.items;
  tick : TellsTick l.octets l.parts.tick;
}

abbrev pub decreases-loop-message : goal.decreases-loop-message
decreases-loop-message l = length l.rest
