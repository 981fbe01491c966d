use Rattle.std.proofs.Common.{◌≡◌, map, drop}
use Rattle.std.specs.List.{find}
use Rattle.itip_recur.specs.RuleText.{has_name}
use Rattle.itip_recur.proofs.parts.part_of.Given as goal

abbrev pub invariant-loop-part : goal.invariant-loop-part
invariant-loop-part l =
    find (has_name l.name) (map (λ e. e.now) l.parts) ≡ find (has_name l.name) (drop l.part-index (map (λ e. e.now) l.parts))
