use Rattle.std.proofs.Common.{◌≡◌, ◌<◌, List, length, get_or, sym, ap, subst, Bor, rules, arith}
use Rattle.std.proofs.lemmas.Fn.{always_returns_same}
use Rattle.itip_items.specs.declared.key.Key.{Key}
use Rattle.itip_explain.specs.Latest.{AreLatestFirst}
use Rattle.itip_explain.specs.Told.{IsBestTold}
use Rattle.itip_explain.specs.declared.told.ToldItem.{ToldItem}
use Rattle.itip_explain.proofs.Firsts.{is_below, parted, inside, told_there, one_of_key}
use Rattle.itip_explain.proofs.latest.Latest.of_key.Goals as goal

pub index-requires : goal.index-requires
index-requires c =
    let key : Key = c.args.item.now.key in
    let order = c.requires.order in
    let items : List (Bor ToldItem) = c.deref.result.now in
    let ordered : AreLatestFirst order.given items = subst (AreLatestFirst order.given) (sym c.deref.ensures.value) order.order in
    let split = c.partition_point-place.ensures.partitioned (is_below order.given items ordered key)
    (always_returns_same _ _ _ (λ a r f k. search rules)) (parted order.given items ordered key) in
    let one = one_of_key c.args.self.now.told.now order.given items order.given_are ordered c.args.item.now c.requires.heard in
    let below : c.partition_point-place.result < length items =
    inside order.given items ordered key c.partition_point-place.result split one.0 one.1 one.2 in
    let same : length items ≡ length c.args.self.now.sorted.items = ap length c.deref.ensures.value in
    omega (arith, below, same, c.args.self.now.sorted.ok.0)

pub returns : goal.returns
returns c =
    let key : Key = c.args.item.now.key in
    let order = c.requires.order in
    let items : List (Bor ToldItem) = c.deref.result.now in
    let ordered : AreLatestFirst order.given items = subst (AreLatestFirst order.given) (sym c.deref.ensures.value) order.order in
    let split = c.partition_point-place.ensures.partitioned (is_below order.given items ordered key)
    (always_returns_same _ _ _ (λ a r f k. search rules)) (parted order.given items ordered key) in
    let one = one_of_key c.args.self.now.told.now order.given items order.given_are ordered c.args.item.now c.requires.heard in
    let first : Bor ToldItem = c.index.result.now in
    let is : first ≡ get_or items c.partition_point-place.result first =
    subst (λ (xs : List (Bor ToldItem)). first ≡ get_or xs c.partition_point-place.result first) (sym c.deref.ensures.value) c.index.ensures
    in
    subst (λ (told : List ToldItem). IsBestTold told key first.now) order.given_are
    (told_there order.given items ordered key c.partition_point-place.result split one.0 one.1 one.2 first is)
