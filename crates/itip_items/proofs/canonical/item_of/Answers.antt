use Rattle.std.proofs.Common.{refl}
use Rattle.itip_items.proofs.canonical.item_of.Goals as goal

pub invariant_of-result : goal.invariant_of-result
invariant_of-result c = record { canonical = ∣ c.requires ∣₁ }

pub returns : goal.returns
returns c = record {
  key_is = refl;
  kind_is = refl;
  eff_is = refl;
  parts_are = refl;
  own_is = refl;
  stamp_is = refl;
  bytes_are =
      c.requires.bytes_are;
}
