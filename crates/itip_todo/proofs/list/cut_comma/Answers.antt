use Rattle.std.proofs.Common.{arith}
use Rattle.std.proofs.lemmas.Str.Pattern.{split_parts}
use Rattle.itip_todo.proofs.list.cut_comma.Goals as goal

pub returns : goal.returns
returns c = split_parts 44 c.args.text.now c.split_once.result c.split_once.ensures.cases (omega arith)
