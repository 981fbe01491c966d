use Rattle.std.proofs.Common.{◌≡◌, take}
use Rattle.itip_lines.specs.Joining.{joined}
use Rattle.itip_lines.proofs.text_list.TextList.copy.Given as goal

-- the texts so far are appended
abbrev pub invariant-loop-text : goal.invariant-loop-text
invariant-loop-text l = l.octets.items ≡ joined (take l.text-index l.texts)
