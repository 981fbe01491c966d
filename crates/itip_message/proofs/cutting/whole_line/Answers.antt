use Rattle.std.proofs.Common.{◌<◌, length, rules}
use Rattle.std.proofs.lemmas.List.{take_rest}
use Rattle.itip_message.proofs.StaysPassing.{line_stays}
use Rattle.itip_message.proofs.Parted.{line_at_end}
use Rattle.itip_message.proofs.cutting.whole_line.Goals as goal

pub returns-then-end-bytes-clause-stays : goal.returns-then-end-bytes-clause-stays
returns-then-end-bytes-clause-stays c = λ more.
    let within : c.line_length-end.result < length c.args.bytes.now = search rules in
    rw (take_rest) (line_stays c.args.bytes.now c.line_length-end.result c.line_length-end.ensures.exact within more)

pub returns-then-end-bytes-clause-ends : goal.returns-then-end-bytes-clause-ends
returns-then-end-bytes-clause-ends c =
    let within : c.line_length-end.result < length c.args.bytes.now = search rules in
    rw (take_rest) (line_at_end c.args.bytes.now c.line_length-end.result c.line_length-end.ensures.exact within)
