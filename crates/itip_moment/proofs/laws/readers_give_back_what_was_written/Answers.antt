use Rattle.itip_moment.specs.Written.{stamp_text, moment_text, moment_tzid}
use Rattle.itip_moment.proofs.ValueLaws.{stamp_text-IsStampText, moment_text-MomentText, stamp_found, moment_found}
use Rattle.itip_moment.proofs.laws.readers_give_back_what_was_written.Goals as goal

pub returns : goal.returns
returns c = record {
  stamp = λ r s some none. stamp_found r (stamp_text s) s some none (stamp_text-IsStampText s);
  moment = λ r m some none. moment_found r (moment_text m) (moment_tzid m) m some none (moment_text-MomentText m);
}
