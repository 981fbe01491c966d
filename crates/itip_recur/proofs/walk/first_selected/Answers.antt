use Rattle.std.proofs.Common.{arith, rules, FitsSigned, w32, to_z-of_z}
use Rattle.jiff_core.proofs.SignedLemmas.{signed_arith}
use Rattle.itip_recur.proofs.walk.first_selected.Goals as goal

pub returns-in-Yearly-OfStart : goal.returns-in-Yearly-OfStart
returns-in-Yearly-OfStart c =
    let day : FitsSigned w32 c.args.unit.day = omega (arith, signed_arith, c.requires.from_in) in
    let stop : FitsSigned w32 c.args.stop = c.ranges.stop in
    let found = simp to_z-of_z at c.first_anniversary.ensures in
    search rules
