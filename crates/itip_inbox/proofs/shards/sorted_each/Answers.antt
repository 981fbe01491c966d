use Rattle.std.proofs.Common.{◌≤◌, ◌∙◌, ◌<◌, rules, subst, sym, List, length, arith, take_all, ℕ}
use Rattle.std.proofs.lemmas.Iterator.Adapters.{YieldsList-from_vec}
use Rattle.std.proofs.lemmas.Iterator.Consumers.{YieldsList-turn, YieldsList-end}
use Rattle.std.proofs.lemmas.List.{length_push}
use Rattle.std.proofs.lemmas.List.Elements.{All-push}
use Rattle.std.proofs.lemmas.Result.{IfOk-at_ok}
use Rattle.std.specs.List.{HoldsAt}
use Rattle.std.specs.Global.{Vec}
use Rattle.itip_items.specs.declared.item.Item.{Item}
use Rattle.itip_inbox.specs.declared.shard.Shard.{Shard}
use Rattle.itip_state.specs.Kept.{IsItemsOf, SameItems}
use Rattle.itip_desk.specs.Octets.{AscendOctets}
use Rattle.itip_inbox.specs.Ranges.{items_in}
use Rattle.itip_inbox.specs.Shards.{kept_in}
use Rattle.itip_inbox.proofs.Sharding.{sorted_ascends, sorted_more}
use Rattle.itip_inbox.proofs.shards.sorted_each.Goals as goal

pub loop-list-preserved : goal.loop-list-preserved
loop-list-preserved g c =
    let sorted = c.in_ok-sorted.sorted in
    let turn = YieldsList-turn (YieldsList-from_vec {s = c.into_iter-list-iterator.result} sorted.items (search rules) (search rules))
    c.loop-list.yielded c.loop-list.list-iterator c.loop-list.yielded_by c.next.result c.next.new.self c.in-Some.list c.in-Some.is
    c.next.ensures.steps in
    let shards : List Shard = c.args.shards.now in
    let lists : List (Vec Item) = c.loop-list.lists.items in
    let list : Vec Item = c.in_ok-list.field-0 in
    let n : ℕ = length c.loop-list.yielded in
    let below : n < length shards = omega (arith, turn.0, c.in_ok-sorted.ensures.len, sorted.ok.0) in
    let own = IfOk-at_ok (λ (items : Vec Item). HoldsAt (λ (shard : Shard). IsItemsOf items.items shard.state) shards n)
    (sym turn.1 ∙ c.in_ok-list.was) (c.in_ok-sorted.ensures.each n c.in-Some.list below).1.met in
    rw c.in_ok-push.ensures.items (record {
      ascend = All-push (λ (items : Vec Item). AscendOctets items.items) lists list c.loop-list.invariant.ascend
          (sorted_ascends shards list n below own);
      same = rw (length_push c.loop-list.yielded c.in-Some.list) (sorted_more shards list n below own lists c.loop-list.invariant.same);
    })

pub returns-clause-same : goal.returns-clause-same
returns-clause-same g c =
    let sorted = c.in_ok-sorted.sorted in
    let shards : List Shard = c.args.shards.now in
    let before = c.loop-list.yielded in
    let end = YieldsList-end (YieldsList-from_vec {s = c.into_iter-list-iterator.result} sorted.items (search rules) (search rules))
    before c.loop-list.list-iterator c.loop-list.yielded_by c.next.result c.next.new.self c.in-None.is c.next.ensures.steps in
    let past : length shards ≤ length before = omega (arith, end.1, c.in_ok-sorted.ensures.len, sorted.ok.0) in
    subst (λ (some : List Shard). SameItems (items_in c.loop-list.lists.items) (kept_in some)) (take_all (length before) shards past)
    c.loop-list.invariant.same
