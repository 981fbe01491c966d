use Rattle.std.proofs.Common.{map}
use Rattle.std.specs.BTreeSet.{keys_between}
use Rattle.std.specs.declared.ops.Bound.TheVariants.{Included, Excluded}
use Rattle.itip_desk.specs.Entries.{day_cmp}
use Rattle.itip_desk.specs.declared.entry.DayEntry.{DayEntry}
use Rattle.itip_desk.proofs.Finding.{FoundUpTo}
use Rattle.itip_desk.proofs.found.find_between.Given as goal

abbrev pub invariant-loop-entry : goal.invariant-loop-entry
invariant-loop-entry l = FoundUpTo (λ (e : DayEntry). e.owner.item) (λ item. Unit {0})
    (keys_between day_cmp (Included l.fn.from) (Excluded l.fn.to) l.days)
    (map (λ u. u.now) l.fn.uids.items) (map (λ u. u.now) l.uids.items) l.entry-iterator
