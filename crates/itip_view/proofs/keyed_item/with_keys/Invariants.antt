use Rattle.std.proofs.Common.{◌≡◌, map, take}
use Rattle.itip_view.proofs.keyed_item.with_keys.Given as goal

abbrev pub invariant-loop-line : goal.invariant-loop-line
invariant-loop-line l = map (λ line. line.line.now) l.keyed.items ≡ take l.line-index l.lines
