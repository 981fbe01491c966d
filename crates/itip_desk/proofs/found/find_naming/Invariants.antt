use Rattle.std.proofs.Common.{map}
use Rattle.std.specs.BTreeSet.{keys_between}
use Rattle.std.specs.declared.ops.Bound.TheVariants.{Included, Excluded}
use Rattle.itip_desk.specs.Entries.{name_cmp}
use Rattle.itip_desk.specs.Found.{NamesLine}
use Rattle.itip_desk.specs.declared.entry.NameEntry.{NameEntry}
use Rattle.itip_desk.proofs.Finding.{FoundUpTo}
use Rattle.itip_desk.proofs.found.find_naming.Given as goal

abbrev pub invariant-loop-entry : goal.invariant-loop-entry
invariant-loop-entry l = FoundUpTo (λ (e : NameEntry). e.item) (NamesLine l.address)
    (keys_between name_cmp (Included l.fn.from) (Excluded l.fn.to) l.names)
    (map (λ u. u.now) l.fn.uids.items) (map (λ u. u.now) l.uids.items) l.entry-iterator
