use Rattle.std.proofs.Common.{map}
use Rattle.itip_lines.specs.TextsLeft.{texts_left}
use Rattle.itip_todo.specs.Written.{plain}
use Rattle.itip_todo.specs.declared.property_name.PropertyName.TheVariants as name
use Rattle.itip_todo.proofs.Appending.{Leaves}
use Rattle.itip_todo.proofs.write.write_rule.Given as goal

-- the lines of the values that are left are still to be written
abbrev pub invariant-loop-value : goal.invariant-loop-value
invariant-loop-value l =
    (goal.iterator-loop-value).can_next l.value-iterator ×
    (goal.iterator-loop-value).is_finite l.value-iterator ×
    Leaves (map (plain name.RRule) l.fn.rule) l.fn.out.items l.out.items (map (plain name.RRule) (texts_left l.value-iterator))
