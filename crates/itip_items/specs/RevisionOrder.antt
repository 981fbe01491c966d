-- The order of revisions (RFC 5546 2.1.5; the effective sequence and the third step are our own rule).
use Rattle.std.specs.Prelude.{◌≡◌}
use Rattle.std.specs.Ordering.{nat_cmp, ordering_then}
use Rattle.std.specs.Cmp.Lexicographic.{slice_cmp}
use Rattle.std.specs.declared.cmp.Ordering.{Ordering}
use Rattle.std.specs.declared.cmp.Ordering.TheVariants.{Greater}
use Rattle.itip_moment.specs.Order.{stamp_cmp}
use Rattle.itip_items.specs.declared.item.Item.{Item}

-- by effective sequence, then DTSTAMP, then canonical octets
abbrev pub revision_cmp : Item → Item → Ordering
revision_cmp i j = ordering_then (nat_cmp i.eff j.eff) (ordering_then (stamp_cmp i.stamp j.stamp) (slice_cmp nat_cmp i.bytes j.bytes))

-- the first is a later revision than the second
abbrev pub IsLater : Item → Item → Type 0
IsLater i j = revision_cmp i j ≡ Greater
