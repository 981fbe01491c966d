use Rattle.std.proofs.Common.{◌≡◌, ◌++◌}
use Rattle.itip_inbox.specs.Ranges.{items_in}
use Rattle.itip_inbox.proofs.merged_ranges.in_one.Given as goal

abbrev pub invariant-loop-list : goal.invariant-loop-list
invariant-loop-list l = l.items.items ≡ l.initial.items.items ++ items_in l.yielded
