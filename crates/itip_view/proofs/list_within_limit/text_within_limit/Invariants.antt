use Rattle.std.proofs.Common.{map, take}
use Rattle.itip_view.specs.Wanting.{Wants}
use Rattle.itip_view.proofs.Texts.{TextSoFar}
use Rattle.itip_view.proofs.list_within_limit.text_within_limit.Given as goal

abbrev pub invariant-loop-uid : goal.invariant-loop-uid
invariant-loop-uid l =
    TextSoFar (Wants l.wanted) l.state l.window (take l.uid-index (map (λ uid. uid.now) l.uids)) l.number l.text.items
