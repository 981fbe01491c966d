-- Revisions that are equal in their order are one item.
use Rattle.std.specs.Ordering.{nat_cmp}
use Rattle.std.proofs.lemmas.Map.Lookups.{CmpEqualImpliesEq, exact_bytes}
use Rattle.itip_moment.specs.Order.{stamp_cmp}
use Rattle.itip_moment.proofs.Same.{then_equal}
use Rattle.itip_items.specs.RevisionOrder.{revision_cmp}
use Rattle.itip_items.proofs.SameItem.{same_item}

pub revision_exact : CmpEqualImpliesEq revision_cmp
revision_exact i j e =
    let first = then_equal (nat_cmp i.eff j.eff) _ e in
    let second = then_equal (stamp_cmp i.stamp j.stamp) _ first.1 in
    same_item i j (exact_bytes i.bytes j.bytes second.1)
