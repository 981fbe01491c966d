use Rattle.std.proofs.Common.{◌≡◌, map, take}
use Rattle.itip_streams.specs.Sources.{awaits, file_name}
use Rattle.itip_streams.proofs.source.sources_of.Given as goal

abbrev pub invariant-loop-name : goal.invariant-loop-name
invariant-loop-name g l = map (λ source. awaits source.held) l.sources.items ≡ map file_name (take l.name-index l.names)
