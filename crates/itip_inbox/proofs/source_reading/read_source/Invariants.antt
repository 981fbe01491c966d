use Rattle.std.proofs.Common.{◌≡◌, List}
use Rattle.std.specs.Option.{option_copied}
use Rattle.itip_inbox.specs.Inbox.{Placed}
use Rattle.itip_inbox.specs.Streaming.{HasGot, ReadsSoFar}
use Rattle.itip_inbox.proofs.source_reading.read_source.Given as goal

abbrev pub invariant-loop : goal.invariant-loop
invariant-loop g l = record {
  reads : (before : List Placed) → HasGot (option_copied l.about) before l.fn.inbox →
      ReadsSoFar (option_copied l.about) before l.fn.inbox l.inbox (g.R.Read.remaining l.fn.reader) (g.R.Read.remaining l.reader)
      l.held;
  source : l.inbox.source ≡ l.fn.inbox.source;
}
