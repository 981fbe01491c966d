use Rattle.std.proofs.Common.{map, take}
use Rattle.itip_state.specs.Told.{AreNews}
use Rattle.itip_inbox.proofs.shards.Shards.news.Given as goal

abbrev pub invariant-loop-item : goal.invariant-loop-item
invariant-loop-item l = AreNews l.self (take l.item-index l.items) (map (λ item. item.now) l.news.items)
