use Rattle.std.proofs.Common.{◌≡◌, ◌++◌, map}
use Rattle.itip_inbox.specs.Placing.{later_refusal}
use Rattle.itip_inbox.proofs.texts.refusals_behind.Given as goal

abbrev pub invariant-loop-refused : goal.invariant-loop-refused
invariant-loop-refused l = l.later ++ map (later_refusal l.count) l.refused-iterator ≡ map (later_refusal l.count) l.fn.refusals
