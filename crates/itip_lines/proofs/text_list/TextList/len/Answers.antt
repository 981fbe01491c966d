use Rattle.std.proofs.Common.{◌∙◌, length, ap}
use Rattle.std.specs.List.{count_by}
use Rattle.itip_lines.specs.Joining.{is_break}
use Rattle.itip_lines.proofs.Joined.{count_breaks}
use Rattle.itip_lines.proofs.text_list.TextList.len.Goals as goal

pub returns : goal.returns
returns c = c.breaks.ensures ∙ ap (count_by is_break) c.as_slice.ensures ∙ count_breaks c.self.inside.octets ∙ ap length c.self.view_is
