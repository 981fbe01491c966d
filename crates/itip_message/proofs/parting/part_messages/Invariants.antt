use Rattle.std.proofs.Common.{◌≤◌, length}
use Rattle.itip_message.specs.Parting.{IsAtLine}
use Rattle.itip_message.proofs.parting.part_messages.Given as goal

abbrev pub invariant-loop-line : goal.invariant-loop-line
invariant-loop-line l = record { at : IsAtLine l.bytes l.rest; within : length l.rest ≤ length l.bytes }

abbrev pub decreases-loop-line : goal.decreases-loop-line
decreases-loop-line l = length l.rest
