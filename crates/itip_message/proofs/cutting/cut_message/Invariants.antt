use Rattle.std.proofs.Common.{◌≡◌, ◌≤◌, [], length}
use Rattle.itip_message.specs.Passing.{StaysPassing}
use Rattle.itip_message.proofs.cutting.cut_message.Given as goal

abbrev pub invariant-loop-line : goal.invariant-loop-line
invariant-loop-line l = record {
  passes : StaysPassing l.bytes l.rest l.all_empty;
  within : length l.rest ≤ length l.bytes;
  some : l.rest ≡ [] → l.bytes ≡ [];
}

abbrev pub decreases-loop-line : goal.decreases-loop-line
decreases-loop-line l = length l.rest
