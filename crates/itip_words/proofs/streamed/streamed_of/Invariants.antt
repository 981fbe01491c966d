use Rattle.std.proofs.Common.{take}
use Rattle.itip_words.specs.Streams.{AreLoads, names_of}
use Rattle.itip_words.proofs.Loading.{AreRead}
use Rattle.itip_words.proofs.streamed.streamed_of.Given as goal

abbrev pub invariant-loop-text : goal.invariant-loop-text
invariant-loop-text l = record {
  read : AreRead (take l.text-index l.text-items) l.loads.items;
  are : AreLoads l.scripted.desks (names_of l.loads.items);
}
