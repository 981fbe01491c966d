use Rattle.std.proofs.Common.{arith, FitsSigned, w32, to_z-of_z}
use Rattle.jiff_core.proofs.SignedLemmas.{signed_arith}
use Rattle.itip_recur.proofs.Ascents.{not_true, not_both}
use Rattle.itip_recur.proofs.Moments.{moment_day-in_years}
use Rattle.itip_recur.proofs.listing.is_kept.Goals as goal

pub returns-then-is_in : goal.returns-then-is_in
returns-then-is_in c =
    let in_years = moment_day-in_years c.args.moment.now in
    let from : FitsSigned w32 c.args.from = c.ranges.from in
    let to : FitsSigned w32 c.args.to = c.ranges.to in
    let day : FitsSigned w32 c.day.result = omega (arith, signed_arith, c.day.ensures) in
    let inside = simp to_z-of_z at (c.is_in.ensures.0 c.if-is_in.true) in (
      λ left. record {
        stays = λ among. not_both c.is_excluded.result left (c.is_excluded.ensures.1 among);
        not_before = omega (arith, signed_arith, c.day.ensures, inside.0);
        before_end = omega (arith, signed_arith, c.day.ensures, inside.1);
      },
      λ kept. not_true c.is_excluded.result (λ excluded. kept.stays (c.is_excluded.ensures.0 excluded)),
    )
