use Rattle.std.proofs.Common.{◌∙◌}
use Rattle.itip_lines.proofs.Joined.{found_again}
use Rattle.itip_lines.proofs.text_list.TextList.from_octets.Goals as goal

pub returns : goal.returns
returns c = λ texts each e. found_again c.new.result texts each (c.new.ensures ∙ c.shrink_to_fit.ensures.items ∙ e)
