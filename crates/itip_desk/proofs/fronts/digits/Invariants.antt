use Rattle.std.proofs.Common.{◌≡◌, ◌<◌, ℕ, true, get_or}
use Rattle.itip_desk.specs.DeskFile.{is_digit}
use Rattle.itip_desk.proofs.fronts.digits.Given as goal

abbrev pub invariant-loop-octet : goal.invariant-loop-octet
invariant-loop-octet l = record {
  count : l.end ≡ l.octet-index;
  each : (k : ℕ) → k < l.octet-index → is_digit (get_or l.octets k 0) ≡ true;
}
