use Rattle.std.proofs.Common.{◌≡◌, ◌++◌, take}
use Rattle.itip_desk.specs.FileReading.{moves_at}
use Rattle.itip_desk.proofs.file_reading.push_moves.Given as goal

abbrev pub invariant-loop-item : goal.invariant-loop-item
invariant-loop-item l = l.moves.items ≡ l.fn.moves.items ++ moves_at l.moved (take l.item-index l.items)
