use Rattle.itip_view.specs.Wanting.{Wants}
use Rattle.itip_inbox.proofs.PartsByUid.{text_of_blocks, list_merged, compaction_merged}
use Rattle.itip_inbox.proofs.laws.outputs_of_parts.Goals as goal

pub returns-clause-text : goal.returns-clause-text
returns-clause-text c inputs wanted = text_of_blocks (Wants wanted) inputs

pub returns-clause-list : goal.returns-clause-list
returns-clause-list c parts whole are wanted = list_merged parts whole are (Wants wanted)

pub returns-clause-compaction : goal.returns-clause-compaction
returns-clause-compaction c = compaction_merged
