use Rattle.std.proofs.Common.{◌≡◌, ◌++◌, take}
use Rattle.std.specs.List.{flat_map}
use Rattle.itip_page.specs.Escaped.{octet_markup}
use Rattle.itip_page.proofs.escape.put_octets.Given as goal

abbrev pub invariant-loop-octet : goal.invariant-loop-octet
invariant-loop-octet l = l.out.items ≡ l.initial.out.items ++ flat_map octet_markup (take l.octet-index l.octets)
