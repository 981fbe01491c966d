use Rattle.std.proofs.Common.{◌≡◌, map, take}
use Rattle.std.specs.Arc.{arc_value}
use Rattle.itip_todo.specs.Places.{property_at}
use Rattle.itip_todo.proofs.collected.shared.Given as goal

-- the properties of the places so far
abbrev pub invariant-loop-place : goal.invariant-loop-place
invariant-loop-place l = l.properties.items ≡ map (property_at (arc_value l.text)) (take l.place-index l.places)
