use Rattle.std.proofs.Common.{◌≡◌, ◌<◌, [], zero, length}
use Rattle.itip_inbox.specs.Shards.{kept_in}
use Rattle.itip_inbox.proofs.shards.Shards.empty.Given as goal

abbrev pub invariant-loop : goal.invariant-loop
invariant-loop l = record { none : kept_in l.shards.items ≡ []; some : zero < length l.shards.items }
