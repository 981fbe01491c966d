use Rattle.std.proofs.Common.{◌∙◌}
use Rattle.itip_writing.specs.Cancelling.{cancelled}
use Rattle.itip_writing.proofs.onward.ending.Goals as goal

pub returns : goal.returns
returns c =
    let onward = c.args.onward in
    c.cancelled.ensures
    ∙ (λ i. cancelled onward.uid.now c.args.item.now (c.instance.ensures i) (c.names_range.ensures i) onward.revision.sequence
    onward.revision.stamp)
