use Rattle.std.proofs.Common.{refl}
use Rattle.itip_report.proofs.Tallying.{no_tally}
use Rattle.itip_report.proofs.load.Tally.new.Goals as goal

pub returns : goal.returns
returns c = record {
  rows_are = refl;
  counted = no_tally c.new.result.items c.new-2.result c.new.ensures.items c.new-2.ensures.empty;
}
