use Rattle.itip_view.specs.Wanting.{Wants}
use Rattle.itip_view.proofs.Cutting.{some_blocks}
use Rattle.itip_view.proofs.Merging.{merged_blocks, too_many_added, too_many_of_part}
use Rattle.itip_view.proofs.laws.lists_of_parts.Goals as goal

pub returns-clause-blocks : goal.returns-clause-blocks
returns-clause-blocks c heard window wanted = some_blocks (Wants wanted) heard window

pub returns-clause-merged : goal.returns-clause-merged
returns-clause-merged c parts whole are window wanted = merged_blocks (Wants wanted) window parts whole are

pub returns-clause-many : goal.returns-clause-many
returns-clause-many c parts whole are window wanted = too_many_added (Wants wanted) window parts whole are

pub returns-clause-part : goal.returns-clause-part
returns-clause-part c parts whole are window wanted = too_many_of_part (Wants wanted) window parts whole are
