use Rattle.std.proofs.Common.{◌≡◌, map, take}
use Rattle.itip_explain.proofs.latest.each_of.Given as goal

abbrev pub invariant-loop-one : goal.invariant-loop-one
invariant-loop-one l = map (λ one. one.now) l.given.items ≡ take l.one-index l.told
