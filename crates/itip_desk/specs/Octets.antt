-- Items sorted by canonical bytes, each once (our own rule).
use Rattle.std.specs.Prelude.{◌≡◌, List}
use Rattle.std.specs.List.{AllPairs}
use Rattle.std.specs.Ordering.{nat_cmp}
use Rattle.std.specs.Cmp.Lexicographic.{slice_cmp}
use Rattle.std.specs.declared.cmp.Ordering.TheVariants.{Less}
use Rattle.itip_items.specs.declared.item.Item.{Item}

abbrev pub AscendOctets : List Item → Type 0
AscendOctets = AllPairs (λ (a b : Item). slice_cmp nat_cmp a.bytes b.bytes ≡ Less)
