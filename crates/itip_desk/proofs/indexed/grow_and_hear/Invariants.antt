use Rattle.std.proofs.Common.{◌≡◌, map, take, true}
use Rattle.itip_desk.specs.Entries.{IndexEntry, IsNoted}
use Rattle.itip_desk.specs.Index.{has, HasGrown}
use Rattle.itip_desk.proofs.indexed.grow_and_hear.Given as goal

abbrev pub invariant-loop-item : goal.invariant-loop-item
invariant-loop-item l = record {
  grown : HasGrown (take l.item-index (map (λ item. item.now) l.found)) l.fn.index l.index;
  all : (e : IndexEntry) → IsNoted (take l.item-index (map (λ item. item.now) l.found)) e → has l.index e ≡ true;
}
