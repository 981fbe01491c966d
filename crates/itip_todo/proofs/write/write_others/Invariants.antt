use Rattle.itip_lines.specs.TextsLeft.{texts_left}
use Rattle.itip_todo.proofs.Appending.{LeavesTexts}
use Rattle.itip_todo.proofs.write.write_others.Given as goal

-- the lines that are left are still to be written
abbrev pub invariant-loop-text : goal.invariant-loop-text
invariant-loop-text l =
    (goal.iterator-loop-text).can_next l.text-iterator ×
    (goal.iterator-loop-text).is_finite l.text-iterator ×
    LeavesTexts l.fn.lines l.fn.out.items l.out.items (texts_left l.text-iterator)
