use Rattle.std.proofs.Common.{ap}
use Rattle.std.specs.Option.{option_copied}
use Rattle.itip_words.specs.Asking.{AreThreadsOf}
use Rattle.itip_words.specs.Words.{threads_of}
use Rattle.itip_words.proofs.Finding.{finds_none, none_read, not_read}
use Rattle.itip_words.proofs.filter.asked_threads.Goals as goal

pub returns-in_err-threads-clause-asked : goal.returns-in_err-threads-clause-asked
returns-in_err-threads-clause-asked c =
    finds_none _ c.from_residual.result c.from_residual.ensures
    (none_read AreThreadsOf (option_copied c.args.word) c.in-Some.text.now (ap option_copied c.in-Some.is)
    (not_read threads_of c.in-Some.text.now c.in_err-threads.ensures))
