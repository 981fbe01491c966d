use Rattle.itip_moment.proofs.ValueLaws.{date_text-IsDateText, stamp_text-IsStampText, moment_text-MomentText}
use Rattle.itip_moment.proofs.laws.written_texts_are_read_back.Goals as goal

pub returns : goal.returns
returns c = record { date = date_text-IsDateText; stamp = stamp_text-IsStampText; moment = moment_text-MomentText }
