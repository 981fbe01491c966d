use Rattle.std.proofs.Common.{◌≡◌, ◌∙◌, ◌+◌, ◌<◌, ap, zero, List, [], ◌∷◌, ◌++◌, arith, length}
use Rattle.std.proofs.lemmas.List.{length-append}
use Rattle.itip_items.specs.declared.item.Item.{Item}
use Rattle.itip_inbox.specs.Shards.{kept_in}
use Rattle.itip_inbox.specs.declared.shard.Shard.{Shard}
use Rattle.itip_inbox.proofs.Sharding.{kept_both, none_sharded}
use Rattle.itip_inbox.proofs.shards.Shards.empty.Goals as goal

-- one shard more that keeps nothing
none_more : (shards now : List Shard) (one : Shard) → kept_in shards ≡ [] → one.state ≡ [] → now ≡ shards ++ one ∷ [] → kept_in now ≡ []
none_more shards now one none empty is =
    ap kept_in is ∙ kept_both shards (one ∷ []) ∙ ap (λ (t : List Item). t ++ kept_in (one ∷ [])) none ∙
    ap (λ (t : List Item). t ++ []) empty

some_more : (shards now : List Shard) (one : Shard) → now ≡ shards ++ one ∷ [] → zero < length now
some_more shards now one is =
    let long : length now ≡ length shards + 1 = ap length is ∙ length-append shards (one ∷ []) in omega (arith, long)

pub loop-init : goal.loop-init
loop-init c = record {
  none = none_more c.new-shards.result.items c.push.new.self.items c.empty.result (ap kept_in c.new-shards.ensures.items) c.empty.ensures
      c.in_ok-push.ensures.items;
  some = some_more c.new-shards.result.items c.push.new.self.items c.empty.result c.in_ok-push.ensures.items;
}

pub loop-preserved : goal.loop-preserved
loop-preserved c = record {
  none = none_more c.loop.shards.items c.push-in-loop.new.self.items c.empty-in-loop.result c.loop.invariant.none c.empty-in-loop.ensures
      c.in_ok-push-2.ensures.items;
  some = some_more c.loop.shards.items c.push-in-loop.new.self.items c.empty-in-loop.result c.in_ok-push-2.ensures.items;
}

pub invariant_of-result : goal.invariant_of-result
invariant_of-result c = none_sharded c.loop.shards.items c.loop.invariant.some c.loop.invariant.none
