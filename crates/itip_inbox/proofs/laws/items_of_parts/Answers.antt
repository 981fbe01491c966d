use Rattle.itip_inbox.proofs.Between.{parted_messages}
use Rattle.itip_inbox.proofs.Gaps.{parts_tell, same_in_gaps}
use Rattle.itip_inbox.proofs.Telling.{same_messages}
use Rattle.itip_inbox.proofs.laws.items_of_parts.Goals as goal

pub returns-clause-messages : goal.returns-clause-messages
returns-clause-messages c = same_messages

pub returns-clause-parted : goal.returns-clause-parted
returns-clause-parted c = parted_messages

pub returns-clause-told : goal.returns-clause-told
returns-clause-told c = λ whole parts item is. parts_tell whole parts is item

pub returns-clause-spaced : goal.returns-clause-spaced
returns-clause-spaced c = same_in_gaps
