-- PARTSTAT of an answer is a lawful parameter.
use Rattle.std.proofs.Common.{◌∷◌, [], refl, arith}
use Rattle.std.specs.Prelude.{codes}
use Rattle.itip_lines.specs.Lawful.{IsLawfulParam}
use Rattle.itip_todo.specs.Participation.{partstat_text}
use Rattle.itip_todo.specs.declared.attendee.PartStat.{PartStat}
use Rattle.itip_todo.specs.declared.attendee.PartStat.TheVariants as partstat

pub partstat_param : (status : PartStat) → IsLawfulParam (record { name = codes "PARTSTAT"; values = partstat_text status ∷ [] })
unfolding lib.Utf8.encode
partstat_param partstat.NeedsAction = record {
  named = record { some = omega arith; upper = refl };
  some = omega arith;
  values = (record { octets = refl; utf8 = (codes "NEEDS-ACTION", (refl, refl)) }, tt);
}
partstat_param partstat.Accepted = record {
  named = record { some = omega arith; upper = refl };
  some = omega arith;
  values = (record { octets = refl; utf8 = (codes "ACCEPTED", (refl, refl)) }, tt);
}
partstat_param partstat.Declined = record {
  named = record { some = omega arith; upper = refl };
  some = omega arith;
  values = (record { octets = refl; utf8 = (codes "DECLINED", (refl, refl)) }, tt);
}
partstat_param partstat.Tentative = record {
  named = record { some = omega arith; upper = refl };
  some = omega arith;
  values = (record { octets = refl; utf8 = (codes "TENTATIVE", (refl, refl)) }, tt);
}
partstat_param partstat.Delegated = record {
  named = record { some = omega arith; upper = refl };
  some = omega arith;
  values = (record { octets = refl; utf8 = (codes "DELEGATED", (refl, refl)) }, tt);
}
partstat_param partstat.Completed = record {
  named = record { some = omega arith; upper = refl };
  some = omega arith;
  values = (record { octets = refl; utf8 = (codes "COMPLETED", (refl, refl)) }, tt);
}
partstat_param partstat.InProcess = record {
  named = record { some = omega arith; upper = refl };
  some = omega arith;
  values = (record { octets = refl; utf8 = (codes "IN-PROCESS", (refl, refl)) }, tt);
}
