use Rattle.std.proofs.Common.{arith, FitsSigned, w32, w64, to_z-of_z}
use Rattle.jiff_core.proofs.SignedLemmas.{signed_arith}
use Rattle.itip_moment.proofs.day.date_of.Goals as goal

pub unwrap-requires : goal.unwrap-requires
unwrap-requires c =
    let fits : FitsSigned w32 c.args.day = c.ranges.day in
    let wide : FitsSigned w64 c.args.day = omega (arith, signed_arith) in
    c.from_unix_epoch_day.ensures.succeeds.1 (omega (arith, signed_arith), omega (arith, signed_arith))

pub returns : goal.returns
returns c =
    let fits : FitsSigned w32 c.args.day = c.ranges.day in
    let wide : FitsSigned w64 c.args.day = omega (arith, signed_arith) in
    let value = rw c.unwrap.ensures at c.from_unix_epoch_day.ensures.value in
    simp to_z-of_z at value
