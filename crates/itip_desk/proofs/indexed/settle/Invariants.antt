use Rattle.std.proofs.Common.{◌≡◌, ◌++◌, List, map}
use Rattle.std.specs.Vec.Iter.{into_iter_items}
use Rattle.itip_items.specs.declared.item.Item.{Item}
use Rattle.itip_desk.specs.Index.{HasSettled}
use Rattle.itip_desk.proofs.indexed.settle.Given as goal

abbrev pub invariant-loop-change : goal.invariant-loop-change
invariant-loop-change l = record {
  done : List Item;
  whole : map (λ c. c.item) l.fn.changes.items ≡ done ++ map (λ c. c.item) (into_iter_items l.change-iterator);
  settled : HasSettled l.state done l.fn.index l.index;
}
