use Rattle.std.proofs.Common.{ℕ, List, drop}
use Rattle.std.specs.BTreeMap.{get}
use Rattle.std.specs.Cmp.Lexicographic.{slice_cmp}
use Rattle.std.specs.Ordering.{nat_cmp}
use Rattle.itip_items.proofs.SeriesSequences.{Completes}
use Rattle.itip_items.proofs.sequences.series_sequences.Given as goal

abbrev pub invariant-loop-todo : goal.invariant-loop-todo
invariant-loop-todo l = Completes l.method l.all (drop l.todo-index l.all) (λ (uid : List ℕ). get (slice_cmp nat_cmp) l.greatest uid)
