use Rattle.std.proofs.Common.{ap, length, length-append, arith}
use Rattle.itip_items.proofs.octets.Octets.len.Goals as goal

pub returns : goal.returns
returns c =
    let whole = ap length c.pieces.ensures in
    let both = length-append c.pieces.result.0.now c.pieces.result.1.now in
    omega (arith, whole, both)
