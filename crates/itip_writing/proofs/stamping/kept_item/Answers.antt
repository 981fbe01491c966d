use Rattle.std.specs.Option.{option_copied}
use Rattle.itip_writing.proofs.Latest.{kept_of_best}
use Rattle.itip_writing.proofs.stamping.kept_item.Goals as goal

pub returns : goal.returns
returns c =
    kept_of_best c.args.items.now.items c.args.key.now (option_copied c.best.result) c.as_slice-kept.ensures.part.state c.best.ensures
