use Rattle.std.proofs.Common.{arith}
use Rattle.std.proofs.lemmas.Str.Pattern.{split_parts}
use Rattle.itip_lines.proofs.Joined.{cut_is}
use Rattle.itip_lines.proofs.text_list.cut_text.Goals as goal

pub returns : goal.returns
returns c =
    cut_is c.args.text.now c.split_once.result (split_parts 10 c.args.text.now c.split_once.result c.split_once.ensures.cases (omega arith))
