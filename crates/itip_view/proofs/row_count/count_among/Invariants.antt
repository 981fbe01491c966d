use Rattle.std.proofs.Common.{map, take}
use Rattle.std.specs.Option.{option_copied}
use Rattle.itip_view.specs.Wanting.{Wants}
use Rattle.itip_view.proofs.Tallies.{Tallied}
use Rattle.itip_view.proofs.row_count.count_among.Given as goal

abbrev pub invariant-loop-uid : goal.invariant-loop-uid
invariant-loop-uid l =
    Tallied (Wants l.wanted) l.state l.window (take l.uid-index (map (λ uid. uid.now) l.uids)) (option_copied l.leader) l.most l.number
