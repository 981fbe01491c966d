use Rattle.itip_inbox.proofs.Parts.{parts_compacted, parts_joined, parts_refuse_none, joined_refuse_none}
use Rattle.itip_inbox.proofs.laws.compaction_of_compactions.Goals as goal

pub returns-clause-octets : goal.returns-clause-octets
returns-clause-octets c = parts_compacted

pub returns-clause-joined : goal.returns-clause-joined
returns-clause-joined c = parts_joined

pub returns-clause-refused : goal.returns-clause-refused
returns-clause-refused c = parts_refuse_none

pub returns-clause-joined_refused : goal.returns-clause-joined_refused
returns-clause-joined_refused c = joined_refuse_none
