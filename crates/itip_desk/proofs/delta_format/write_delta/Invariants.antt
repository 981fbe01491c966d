use Rattle.std.proofs.Common.{◌≡◌, ◌++◌, drop}
use Rattle.itip_desk.specs.DeltaFormat.{delta_octets}
use Rattle.itip_desk.proofs.delta_format.write_delta.Given as goal

-- what is written and what is left are the bytes of all
abbrev pub invariant-loop-item : goal.invariant-loop-item
invariant-loop-item l = l.octets.items ++ delta_octets (drop l.item-index l.item-items) ≡ delta_octets l.item-items
