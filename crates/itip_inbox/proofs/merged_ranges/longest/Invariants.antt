use Rattle.std.proofs.Common.{length}
use Rattle.std.specs.List.{IsFirstMaxByKey}
use Rattle.itip_inbox.proofs.merged_ranges.longest.Given as goal

abbrev pub invariant-loop-place : goal.invariant-loop-place
invariant-loop-place l = IsFirstMaxByKey (λ list. length list.items) l.lists l.place l.longest
