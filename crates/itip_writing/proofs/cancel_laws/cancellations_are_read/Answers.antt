use Rattle.itip_writing.proofs.CancelLaws.{cancelled_items, onward_items, removed_items}
use Rattle.itip_writing.proofs.cancel_laws.cancellations_are_read.Goals as goal

pub returns : goal.returns
returns c = record { cancelled = cancelled_items; onward = onward_items; removed = removed_items }
