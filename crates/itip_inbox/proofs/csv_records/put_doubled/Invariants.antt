use Rattle.std.proofs.Common.{◌≡◌, ◌++◌, take}
use Rattle.std.specs.List.{flat_map}
use Rattle.itip_inbox.specs.Csv.{doubled}
use Rattle.itip_inbox.proofs.csv_records.put_doubled.Given as goal

abbrev pub invariant-loop-octet : goal.invariant-loop-octet
invariant-loop-octet l = l.out.items ≡ l.initial.out.items ++ flat_map doubled (take l.octet-index l.octets)
