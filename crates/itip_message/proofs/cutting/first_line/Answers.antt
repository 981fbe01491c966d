use Rattle.std.proofs.Common.{◌<◌, length, rules}
use Rattle.std.proofs.lemmas.List.{take_rest}
use Rattle.itip_message.proofs.FirstLines.{is_first_line}
use Rattle.itip_message.proofs.cutting.first_line.Goals as goal

pub returns : goal.returns
returns c =
    let some : 0 < length c.args.bytes.now = search rules in
    rw (take_rest, c.line_length-end.ensures.exact) (is_first_line c.args.bytes.now some)
