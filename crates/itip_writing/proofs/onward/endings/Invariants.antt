use Rattle.std.proofs.Common.{◌≡◌, ◌++◌, map, take}
use Rattle.itip_writing.specs.Endings.{ending_of, first_endings}
use Rattle.itip_writing.specs.Sent.{brief_parts}
use Rattle.itip_writing.proofs.onward.endings.Given as goal

-- those at the moment, and those after it so far
abbrev pub invariant-loop-one : goal.invariant-loop-one
invariant-loop-one l = map brief_parts l.all.items ≡
    first_endings l.onward.uid.now l.item l.onward.from.now l.onward.revision.sequence l.onward.revision.stamp
    ++ map (ending_of l.onward.uid.now l.onward.revision.sequence l.onward.revision.stamp)
    (map (λ item. item.now) (take l.one-index l.later))
