use Rattle.std.proofs.Common.{◌≡◌, ◌<◌, take}
use Rattle.itip_inbox.specs.ShardOf.{number_of}
use Rattle.itip_inbox.proofs.shard.number_of.Given as goal

abbrev pub invariant-loop-octet : goal.invariant-loop-octet
invariant-loop-octet l = record { number : l.number ≡ number_of (take l.octet-index l.octets); small : l.number < 4294967296 }
