use Rattle.std.proofs.Common.{◌≡◌, ℕ, List, ◌++◌, length}
use Rattle.std.specs.Option.{option_copied}
use Rattle.itip_message.specs.Scanned.{messages_of}
use Rattle.itip_inbox.specs.Inbox.{placed_from}
use Rattle.itip_inbox.specs.Streaming.{Tells}
use Rattle.itip_inbox.proofs.texts.read_octets.Given as goal

abbrev pub invariant-loop-text : goal.invariant-loop-text
invariant-loop-text l = record {
  texts : List (List ℕ);
  cut : messages_of l.octets ≡ texts ++ messages_of l.rest;
  tells : Tells (option_copied l.about) l.kept (placed_from l.source 1 texts) l.heard;
}

abbrev pub decreases-loop-text : goal.decreases-loop-text
decreases-loop-text l = length l.rest
