use Rattle.std.proofs.Common.{◌≡◌, length, Some, All}
use Rattle.left_right.specs.Sides.{view}
use Rattle.itip_running.specs.Pair.{name_of}
use Rattle.itip_running.specs.ContractViews.{publishes_seen, pass_pair}
use Rattle.itip_running.proofs.start.seats.Given as goal

abbrev pub invariant-loop : goal.invariant-loop
invariant-loop l = (view l.writer.desk.place ≡ name_of l.last.seen.book) × (l.writer.desk.shown ≡ l.initial.writer.desk.shown) ×
    (l.writer.log ≡ l.initial.writer.log) × (l.writer.behind ≡ l.initial.writer.behind)
    × (length l.all.items ≡ l.counter) × All (λ p. (publishes_seen p ≡ l.last.seen.log) × (pass_pair p ≡ Some l.last.seen.book)) l.all.items
