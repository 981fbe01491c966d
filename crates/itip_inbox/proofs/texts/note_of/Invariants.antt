use Rattle.std.proofs.Common.{◌≡◌, ◌++◌, take}
use Rattle.std.specs.List.{filter}
use Rattle.itip_inbox.specs.Following.{is_about, told_in}
use Rattle.itip_inbox.proofs.texts.note_of.Given as goal

abbrev pub invariant-loop-item : goal.invariant-loop-item
invariant-loop-item l = l.told.items ≡ l.fn.told.items ++ told_in l.place (filter (is_about l.uid) (take l.item-index l.items))
