use Rattle.std.proofs.Common.{◌≡◌, ◌&&◌, not, take}
use Rattle.itip_items.specs.KeyParts.{uid_of}
use Rattle.itip_desk.specs.Entries.{IndexEntry, line_entries}
use Rattle.itip_desk.specs.Index.{has, is_in}
use Rattle.itip_desk.specs.Numbers.{uid_number}
use Rattle.itip_desk.proofs.index.take_lines_out.Given as goal

abbrev pub invariant-loop-line : goal.invariant-loop-line
invariant-loop-line l = record {
  uid : l.entry.uid ≡ uid_number (uid_of l.item.key);
  item : l.entry.item ≡ l.item;
  out : (e : IndexEntry) →
      has l.index e ≡ (has l.fn.index e && not (is_in (line_entries l.item (take l.line-index l.item.todo.attendees)) e));
}
