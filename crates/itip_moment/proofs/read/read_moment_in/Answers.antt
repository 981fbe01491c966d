use Rattle.std.specs.Prelude.{option_copied}
use Rattle.std.proofs.Common.{Some}
use Rattle.itip_moment.specs.Zone.{zone_text}
use Rattle.itip_moment.proofs.MomentLemmas.{no_moment}
use Rattle.itip_moment.proofs.read.read_moment_in.Goals as goal

pub returns-in_default-local-clause-none : goal.returns-in_default-local-clause-none
returns-in_default-local-clause-none c =
    rw (← c.as_bytes-bytes.ensures.value) (no_moment _ (Some (zone_text (option_copied c.args.zone))) c.in_default.ensures.none
    c.in_default-utc.ensures.none c.in_default-local.ensures.none)

pub returns-in_err-clone-in-Some-zone-clause-room : goal.returns-in_err-clone-in-Some-zone-clause-room
returns-in_err-clone-in-Some-zone-clause-room c = λ unzoned. absurd (unzoned (record {
  day = c.in-Some-local.stamp.day;
  second = c.in-Some-local.stamp.second;
  local = rw c.as_bytes-bytes.ensures.value at c.in-Some-local.ensures.found;
  named = rw c.in-Some-zone.is c.in-Some-zone.zone.now.not_empty;
}))
