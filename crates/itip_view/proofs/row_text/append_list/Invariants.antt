use Rattle.std.proofs.Common.{◌≡◌, ◌++◌, take}
use Rattle.itip_view.specs.ListText.{list_text}
use Rattle.itip_view.proofs.row_text.append_list.Given as goal

abbrev pub invariant-loop-row : goal.invariant-loop-row
invariant-loop-row l = l.out.items ≡ l.initial.out.items ++ list_text (take l.row-index l.rows)
