use Rattle.std.proofs.Common.{◌≡◌, ◌∙◌, ◌<◌, ap, arith, ℕ, List, ◌++◌, length, subst, sym, slice_index_or, take, drop, false}
use Rattle.std.specs.List.{list_any}
use Rattle.itip_items.specs.declared.item.Item.{Item}
use Rattle.itip_state.specs.Kept.{AreKept}
use Rattle.itip_inbox.specs.Shards.{kept_in, AreSharded, HearsShard}
use Rattle.itip_inbox.specs.declared.shard.Shard.{Shard}
use Rattle.itip_inbox.proofs.Sharding.{shards_hear, stay_sharded, none_refused, back_whole}
use Rattle.itip_inbox.proofs.shards.Shards.hear.Goals as goal
use Rattle.itip_inbox.proofs.shards.Shards.hear.Goals.{After-for_each_mut}

-- each shard heard the items of its UIDs
each : (g : _) (c : After-for_each_mut g) (n : ℕ) (d : Shard) → n < length c.self.inside.shards.items →
    HearsShard (length c.self.inside.shards.items) n c.args.items.now (slice_index_or c.self.inside.shards.items n d)
    (slice_index_or c.for_each_mut.new.s n d)
each g c n d below =
    let olds : List Shard = c.self.inside.shards.items in
    let same : c.as_mut_slice.result.now ≡ olds = c.as_mut_slice.ensures.value in
    let many : c.len-count.result ≡ length olds = omega (arith, c.len-count.ensures, c.self.inside.shards.ok.0) in
    let at = (c.for_each_mut.ensures n d (subst (λ (xs : List Shard). n < length xs) (sym same) below)).1 in
    subst (λ (k : ℕ). HearsShard k n c.args.items.now (slice_index_or olds n d) (slice_index_or c.for_each_mut.new.s n d)) many
    (subst (λ (new : Shard). HearsShard c.len-count.result n c.args.items.now (slice_index_or olds n d) new) at.left
    (subst (λ (old : Shard). HearsShard c.len-count.result n c.args.items.now old at.after_call.now)
    (at.argument_is ∙ ap (λ (xs : List Shard). slice_index_or xs n d) same) at.call))

-- they are as many as before
as_many : (g : _) (c : After-for_each_mut g) → length c.for_each_mut.new.s ≡ length c.self.inside.shards.items
as_many g c = omega (arith, c.for_each_mut.auto.s, ap length c.as_mut_slice.ensures.value)

-- and together they are what the vector has
whole : (g : _) (c : After-for_each_mut g) → take c.self.inside.shards.len (c.for_each_mut.new.s ++ drop (length c.for_each_mut.new.s)
    c.self.inside.shards.items) ≡ c.for_each_mut.new.s
whole g c = back_whole c.for_each_mut.new.s c.self.inside.shards.items c.self.inside.shards.len (omega (arith, c.self.inside.shards.ok.0))
    (as_many g c)

pub invariant_of-self : goal.invariant_of-self
invariant_of-self g c =
    let at = (goal.at.invariant_of-self g c).After-for_each_mut in
    subst AreSharded (sym (whole g at))
    (stay_sharded c.self.inside.shards.items c.for_each_mut.new.s c.args.items.now c.self.invariant (as_many g at) (each g at))

pub invariant_of-self-2 : goal.invariant_of-self-2
invariant_of-self-2 g c =
    let at = (goal.at.invariant_of-self-2 g c).After-for_each_mut in
    subst AreSharded (sym (whole g at))
    (stay_sharded c.self.inside.shards.items c.for_each_mut.new.s c.args.items.now c.self.invariant (as_many g at) (each g at))

pub returns : goal.returns
returns g c =
    let at = (goal.at.returns g c).After-for_each_mut in
    let none : list_any (λ (s : Shard). s.is_refused) c.for_each_mut.new.s ≡ false =
    ap (list_any (λ (s : Shard). s.is_refused)) (sym (whole g at)) ∙
    sym (ap (list_any (λ (s : Shard). s.is_refused)) c.as_slice.ensures.value) ∙ sym c.is_one_refused.ensures ∙
    c.if-is_one_refused.false in
    subst (λ (xs : List Shard). AreKept (kept_in xs) (c.args.self.now ++ c.args.items.now)) (sym (whole g at))
    (subst (λ (all : List Item). AreKept (kept_in c.for_each_mut.new.s) (all ++ c.args.items.now)) c.self.view_is
    (shards_hear c.self.inside.shards.items c.for_each_mut.new.s c.args.items.now c.self.invariant (as_many g at) (each g at)
    (λ n d below. none_refused c.for_each_mut.new.s none n d (subst (λ (k : ℕ). n < k) (sym (as_many g at)) below))))
