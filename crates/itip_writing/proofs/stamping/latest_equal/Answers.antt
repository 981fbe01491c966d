use Rattle.std.proofs.Common.{◌∷◌, [], Option, sym, subst}
use Rattle.std.specs.Option.{option_copied}
use Rattle.itip_moment.specs.declared.stamp.Stamp.{Stamp}
use Rattle.itip_writing.specs.Stamping.{IsEqualRevision, IsLatestOf}
use Rattle.itip_writing.proofs.Latest.{latest_of_kept}
use Rattle.itip_writing.proofs.stamping.latest_equal.Goals as goal

pub returns : goal.returns
returns c =
    subst (λ (s : Option Stamp). IsLatestOf (IsEqualRevision c.args.items.now.items (c.args.key.now ∷ []) c.args.sequence) s)
    (sym c.equal_stamp.ensures)
    (latest_of_kept c.args.items.now.items c.args.key.now c.args.sequence (option_copied c.kept_item.result) c.kept_item.ensures)
