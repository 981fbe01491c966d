use Rattle.std.proofs.Common.{take}
use Rattle.itip_state.specs.Kept.{AreKept}
use Rattle.itip_explain.specs.Latest.{items_in}
use Rattle.itip_explain.proofs.latest.kept_of.Given as goal

abbrev pub invariant-loop-one : goal.invariant-loop-one
invariant-loop-one l = AreKept l.state (items_in (take l.one-index l.told))
