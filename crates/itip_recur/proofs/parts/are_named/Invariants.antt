use Rattle.std.proofs.Common.{◌≡◌, map, drop}
use Rattle.std.specs.List.{list_all, list_any}
use Rattle.itip_recur.specs.RuleText.{has_name, part_names}
use Rattle.itip_recur.proofs.parts.are_named.Given as goal

abbrev pub invariant-loop-part : goal.invariant-loop-part
invariant-loop-part l =
    list_all (λ part. list_any (λ name. has_name name part) part_names) (map (λ e. e.now) l.parts)
    ≡ list_all (λ part. list_any (λ name. has_name name part) part_names) (drop l.part-index (map (λ e. e.now) l.parts))
