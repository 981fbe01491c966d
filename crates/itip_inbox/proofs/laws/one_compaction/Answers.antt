use Rattle.itip_inbox.proofs.OneInbox.{compaction_once, refused_once}
use Rattle.itip_inbox.proofs.SomeInbox.{some_compaction}
use Rattle.itip_inbox.proofs.laws.one_compaction.Goals as goal

pub returns-clause-some : goal.returns-clause-some
returns-clause-some c = some_compaction

pub returns-clause-octets : goal.returns-clause-octets
returns-clause-octets c = compaction_once

pub returns-clause-refused : goal.returns-clause-refused
returns-clause-refused c = refused_once
