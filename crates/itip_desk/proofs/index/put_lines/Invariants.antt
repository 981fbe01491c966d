use Rattle.std.proofs.Common.{◌≡◌, ◌||◌, take}
use Rattle.itip_desk.specs.Entries.{IndexEntry, line_entries}
use Rattle.itip_desk.specs.Index.{has, is_in}
use Rattle.itip_desk.proofs.index.put_lines.Given as goal

abbrev pub invariant-loop-line : goal.invariant-loop-line
invariant-loop-line l = (e : IndexEntry) →
    has l.index e ≡ (has l.fn.index e || is_in (line_entries l.item (take l.line-index l.item.todo.attendees)) e)
