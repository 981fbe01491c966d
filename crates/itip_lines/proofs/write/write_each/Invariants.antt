use Rattle.std.proofs.Common.{take}
use Rattle.itip_lines.specs.Room.{KeepsRoom}
use Rattle.itip_lines.specs.Writing.{Writes, Extends}
use Rattle.itip_lines.proofs.write.write_each.Given as goal

abbrev pub invariant-loop-octet : goal.invariant-loop-octet
invariant-loop-octet l = record {
  wrote : Writes l.fn.out.items l.fn.used (take l.octet-index l.octets) l.out.items l.used;
  extends : Extends l.fn.out.items l.out.items;
  keeps : KeepsRoom l.fn.out l.out;
}
