use Rattle.std.proofs.Common.{sym}
use Rattle.itip_writing.proofs.EndsTold.{none_ends}
use Rattle.itip_writing.proofs.onward.ends_later.Goals as goal

pub ends_from-requires : goal.ends_from-requires
ends_from-requires c = record { among = c.requires; named = sym c.in-Some.ensures }

pub returns-in-None : goal.returns-in-None
returns-in-None c = (
  λ e. absurd cc,
  λ is. absurd (none_ends c.args.items.now.items c.args.items.now.uid c.args.from.now c.args.item.now (sym c.in-None.ensures) is),
)
