-- The order of revisions is total (our own rule).
use Rattle.std.specs.Cmp.{IsTotalOrder}
use Rattle.std.proofs.lemmas.Cmp.{nat_cmp_total, nat_list_cmp_total, on_total, then_total}
use Rattle.itip_moment.specs.OrderLaws.{stamp_total}
use Rattle.itip_items.specs.RevisionOrder.{revision_cmp}
use Rattle.itip_items.specs.declared.item.Item.{Item}

pub revisions_total : IsTotalOrder revision_cmp
revisions_total = then_total (on_total (λ (i : Item). i.eff) nat_cmp_total)
    (then_total (on_total (λ (i : Item). i.stamp) stamp_total) (on_total (λ (i : Item). i.bytes) nat_list_cmp_total))
