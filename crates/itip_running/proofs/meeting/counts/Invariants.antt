use Rattle.std.proofs.Common.{◌≡◌, length, map, take, All}
use mathlib.Core.List.{IsPrefix}
use Rattle.itip_running.specs.ContractViews.{publishes_seen, seen}
use Rattle.itip_running.proofs.meeting.counts.Given as goal

abbrev pub invariant-loop-pass : goal.invariant-loop-pass
invariant-loop-pass l = (l.all.items ≡ map (λ p. length (seen p)) (take l.pass-index l.passes)) ×
    All (λ p. IsPrefix (publishes_seen p) l.front.seen.log) (take l.pass-index l.passes)
