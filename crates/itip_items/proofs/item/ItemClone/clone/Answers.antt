use Rattle.std.proofs.Common.{refl}
use Rattle.itip_items.proofs.item.ItemClone.clone.Goals as goal
use Rattle.itip_items.proofs.SameItem.{same_fields}

pub returns-in-Ok : goal.returns-in-Ok
returns-in-Ok c = record {
  cases =
      same_fields _ c.args.self.now c.in_ok-key.ensures.cases refl refl refl c.in_ok-bytes.ensures.cases c.in-Ok.ensures.cases refl;
}
