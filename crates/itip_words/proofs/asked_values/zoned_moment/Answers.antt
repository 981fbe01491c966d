use Rattle.itip_words.specs.AskedValues.{IsTimeIn, IsZonedName}
use Rattle.itip_words.proofs.MomentNames.{in_zoned, none_more}
use Rattle.itip_words.proofs.asked_values.zoned_moment.Goals as goal

pub returns-in-Some-clause-none : goal.returns-in-Some-clause-none
returns-in-Some-clause-none c =
    none_more (IsTimeIn c.in-Some.zone.now c.in-Some.time.now) (IsZonedName c.args.text.now) c.time_in.result
    (in_zoned c.args.text.now c.in-Some.zone.now c.in-Some.time.now c.in-Some.ensures.0 c.in-Some.ensures.1) c.time_in.ensures.none
