use Rattle.itip_inbox.specs.Ranges.{AreCut}
use Rattle.itip_inbox.proofs.merged_ranges.cut.Given as goal

abbrev pub invariant-loop-list : goal.invariant-loop-list
invariant-loop-list l = AreCut l.pivot l.yielded l.fronts.items l.backs.items
