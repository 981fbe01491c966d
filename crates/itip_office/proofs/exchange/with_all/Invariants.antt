use Rattle.std.proofs.Common.{take}
use Rattle.itip_office.proofs.Sharing.{Carries}
use Rattle.itip_office.proofs.exchange.with_all.Given as goal

abbrev pub invariant-loop-delta : goal.invariant-loop-delta
invariant-loop-delta l = Carries (take l.delta-index l.deltas) l.fn.desk l.desk
