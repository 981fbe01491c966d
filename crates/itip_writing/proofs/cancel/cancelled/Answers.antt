use Rattle.std.proofs.Common.{List, Some, ap}
use Rattle.std.specs.Option.{option_copied}
use Rattle.itip_todo.specs.Properties.{Property}
use Rattle.itip_todo.specs.declared.status.Status.TheVariants as status
use Rattle.itip_writing.specs.Cancelling.{notice}
use Rattle.itip_writing.proofs.cancel.cancelled.Goals as goal

pub returns : goal.returns
returns c =
    ap (λ (lines : List Property). notice c.args.uid.now c.args.item.now (option_copied c.args.id) c.args.range (Some status.Cancelled)
    lines c.args.revision.sequence c.args.revision.stamp) c.as_slice.ensures
