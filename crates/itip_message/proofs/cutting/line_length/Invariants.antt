use Rattle.std.proofs.Common.{◌≡◌, ◌+◌, ◌≤◌, length}
use Rattle.itip_message.specs.Scanned.{line_length}
use Rattle.itip_message.proofs.cutting.line_length.Given as goal

abbrev pub invariant-loop-after : goal.invariant-loop-after
invariant-loop-after l = record {
  exact : line_length l.bytes + length l.rest ≡ length l.bytes + line_length l.rest;
  within : length l.rest ≤ length l.bytes;
}

abbrev pub decreases-loop-after : goal.decreases-loop-after
decreases-loop-after l = length l.rest
