use Rattle.std.proofs.Common.{map, take}
use Rattle.itip_explain.specs.Asking.{AreAskings, IsAskedBy}
use Rattle.itip_explain.proofs.asked.askings.Given as goal

abbrev pub invariant-loop-item : goal.invariant-loop-item
invariant-loop-item l = AreAskings (IsAskedBy (take l.item-index (map (λ item. item.now) l.items))) l.found.items
