use Rattle.std.proofs.Common.{◌==◌, take}
use Rattle.std.specs.List.{list_any}
use Rattle.itip_recur.specs.Sets.{IsSet}
use Rattle.itip_recur.proofs.sets.set_of.Given as goal

abbrev pub invariant-loop-one : goal.invariant-loop-one
invariant-loop-one g l = IsSet (λ n. list_any (λ one. n == g.T.Numbered.own one) (take l.one-index l.list)) l.set
