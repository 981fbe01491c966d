use Rattle.std.proofs.Common.{◌≡◌, ◌<◌, take}
use Rattle.itip_desk.specs.Numbers.{text_number}
use Rattle.itip_desk.proofs.number.uid_number.Given as goal

abbrev pub invariant-loop-octet : goal.invariant-loop-octet
invariant-loop-octet l = record {
  number : l.number ≡ text_number (take l.octet-index l.uid);
  small : l.number < 4294967291;
}
