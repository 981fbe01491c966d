use Rattle.std.proofs.Common.{◌≡◌, ◌++◌}
use Rattle.std.specs.List.{filter}
use Rattle.std.specs.Vec.Iter.{into_iter_items}
use Rattle.itip_streams.specs.Folders.{is_ics}
use Rattle.itip_streams.proofs.folders.only_ics.Given as goal

abbrev pub invariant-loop-name : goal.invariant-loop-name
invariant-loop-name l = l.found.items ++ filter is_ics (into_iter_items l.name-iterator) ≡ filter is_ics l.fn.names.items
