use Rattle.std.proofs.Common.{◌≡◌, length}
use Rattle.itip_words.specs.Streams.{names_of}
use Rattle.itip_app.specs.Streamed.{AreBegun}
use Rattle.itip_app.proofs.stream.begun.Given as goal

abbrev pub invariant-loop-number : goal.invariant-loop-number
invariant-loop-number g l = record {
  count : length l.desks.items ≡ l.number;
  begun : AreBegun (g.F.Folder.holds l.folder) (names_of l.asked.loads.items) 0 l.desks.items;
}
