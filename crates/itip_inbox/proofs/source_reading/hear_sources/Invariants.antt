use Rattle.std.proofs.Common.{◌≡◌, ◌+◌, ℕ, List, length}
use Rattle.std.specs.Option.{option_copied}
use Rattle.std.specs.Vec.Iter.{into_iter_items}
use Rattle.itip_inbox.specs.Inbox.{AreInputs}
use Rattle.itip_inbox.specs.Streaming.{HasSome, HearsInTurn}
use Rattle.itip_inbox.proofs.source_reading.hear_sources.Given as goal

abbrev pub invariant-loop-source : goal.invariant-loop-source
invariant-loop-source g l = record {
  hears : (inputs : List (List ℕ)) → AreInputs g.R.Read.remaining l.fn.sources.items inputs →
      HearsInTurn g.R.Read.remaining (option_copied l.about) inputs (into_iter_items l.source-iterator) l.inbox;
  some : HasSome (option_copied l.about) l.inbox;
  count : l.inbox.source + length (into_iter_items l.source-iterator) ≡ length l.fn.sources.items;
  fresh : l.inbox.messages ≡ 0;
}
