-- The order of items by canonical octets (our own rule): items that are equal in it are the same item.
use Rattle.std.specs.Cmp.{IsTotalOrder}
use Rattle.std.specs.Cmp.Lexicographic.{slice_cmp}
use Rattle.std.specs.Ordering.{nat_cmp}
use Rattle.std.specs.declared.cmp.Ordering.{Ordering}
use Rattle.std.proofs.lemmas.Cmp.{on_total, nat_list_cmp_total}
use Rattle.itip_items.specs.declared.item.Item.{Item}

abbrev pub octets_cmp : Item → Item → Ordering
octets_cmp i j = slice_cmp nat_cmp i.bytes j.bytes

pub octets_total : IsTotalOrder octets_cmp
octets_total = on_total (λ (item : Item). item.bytes) nat_list_cmp_total
