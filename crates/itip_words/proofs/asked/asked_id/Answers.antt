use Rattle.std.proofs.Common.{ap}
use Rattle.std.specs.Option.{option_copied}
use Rattle.itip_words.specs.AskedValues.{IsMomentName}
use Rattle.itip_words.proofs.Finding.{none_read}
use Rattle.itip_words.proofs.asked.asked_id.Goals as goal

pub returns-in-None : goal.returns-in-None
returns-in-None c =
    none_read IsMomentName (option_copied c.args.word) c.in-Some.text.now (ap option_copied c.in-Some.is)
    (rw c.in-None.is at c.in_ok-id.ensures.none)
