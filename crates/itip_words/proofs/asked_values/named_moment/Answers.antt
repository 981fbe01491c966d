use Rattle.itip_words.specs.AskedValues.{IsZonedName, IsMomentName}
use Rattle.itip_words.proofs.MomentNames.{named_zoned, none_more}
use Rattle.itip_words.proofs.asked_values.named_moment.Goals as goal

pub returns-in-None-clause-none : goal.returns-in-None-clause-none
returns-in-None-clause-none c =
    none_more (IsZonedName c.args.text.now) (IsMomentName c.args.text.now) c.zoned_moment.result
    (named_zoned c.args.text.now (rw c.in-None.is at c.in_ok-moment.ensures.none)) c.zoned_moment.ensures.none
