use Rattle.std.proofs.Common.{◌≡◌, map, take}
use Rattle.itip_items.specs.KeyParts.{uid_of}
use Rattle.itip_state.proofs.shared.uids.Given as goal

abbrev pub invariant-loop-item : goal.invariant-loop-item
invariant-loop-item l = map (λ uid. uid.now) l.uids.items ≡ map (λ item. uid_of item.now.key) (take l.item-index l.items)
