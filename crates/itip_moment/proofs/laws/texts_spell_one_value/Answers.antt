use Rattle.itip_moment.proofs.ValueLaws.{date_text-one, stamp_text-one, moment_text-one}
use Rattle.itip_moment.proofs.laws.texts_spell_one_value.Goals as goal

pub returns : goal.returns
returns c = record { date = date_text-one; stamp = stamp_text-one; moment = moment_text-one }
