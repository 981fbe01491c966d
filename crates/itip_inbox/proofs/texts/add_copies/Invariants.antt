use Rattle.std.proofs.Common.{◌≡◌, ◌++◌, map, take}
use Rattle.itip_inbox.proofs.texts.add_copies.Given as goal

abbrev pub invariant-loop-item : goal.invariant-loop-item
invariant-loop-item l = l.copies.items ≡ l.fn.copies.items ++ map (λ item. item.now) (take l.item-index l.items)
