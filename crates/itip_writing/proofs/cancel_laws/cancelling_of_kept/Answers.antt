use Rattle.itip_writing.proofs.CancelLaws.{cancelling_of_kept, cannot_cancel_of_kept, onward_of_kept, cannot_onward_of_kept}
use Rattle.itip_writing.proofs.CancelLaws.{onward_lacking_of_kept, removing_of_kept, cannot_remove_of_kept, lacking_of_kept}
use Rattle.itip_writing.proofs.cancel_laws.cancelling_of_kept.Goals as goal

pub returns : goal.returns
returns c = record {
  cancelled = cancelling_of_kept;
  uncancelled = cannot_cancel_of_kept;
  onward = onward_of_kept;
  not_onward = cannot_onward_of_kept;
  onward_lacking = onward_lacking_of_kept;
  removed = removing_of_kept;
  unremoved = cannot_remove_of_kept;
  lacking = lacking_of_kept;
}
