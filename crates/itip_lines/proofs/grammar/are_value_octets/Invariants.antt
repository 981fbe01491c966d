use Rattle.std.proofs.Common.{◌≡◌, ◌&&◌, drop}
use Rattle.std.specs.List.{list_all}
use Rattle.itip_lines.specs.Octets.{is_value_octet}
use Rattle.itip_lines.proofs.grammar.are_value_octets.Given as goal

abbrev pub invariant-loop-octet : goal.invariant-loop-octet
invariant-loop-octet l = (l.all && list_all is_value_octet (drop l.octet-index l.octets)) ≡ list_all is_value_octet l.octets
