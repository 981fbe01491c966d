use Rattle.itip_page.proofs.Taken.{by_lines}
use Rattle.itip_page.proofs.laws.values_are_lines.Goals as goal

pub returns : goal.returns
returns c = by_lines
