use Rattle.std.proofs.Common.{ap}
use Rattle.std.specs.Option.{option_copied}
use Rattle.itip_words.specs.Asking.{IsPercent}
use Rattle.itip_words.specs.AskedValues.{percent_of}
use Rattle.itip_words.proofs.Finding.{finds_none, none_read, not_read}
use Rattle.itip_words.proofs.asked.asked_percent.Goals as goal

pub returns-in_err-percent : goal.returns-in_err-percent
returns-in_err-percent c =
    finds_none _ c.from_residual.result c.from_residual.ensures
    (none_read IsPercent (option_copied c.args.word) c.in-Some.text.now (ap option_copied c.in-Some.is)
    (not_read percent_of c.in-Some.text.now c.in_err-percent.ensures))
