use Rattle.std.proofs.Common.{[]}
use Rattle.itip_lines.proofs.ParamTexts.{is_params_text}
use Rattle.itip_lines.proofs.params.Params.new.Goals as goal

pub from_text-requires : goal.from_text-requires
from_text-requires c = is_params_text _ [] tt c.new.ensures.items

pub returns : goal.returns
returns c = c.from_text.ensures [] tt c.new.ensures.items
