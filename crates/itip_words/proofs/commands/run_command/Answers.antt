use Rattle.itip_words.proofs.Programs.{word_first}
use Rattle.itip_words.proofs.commands.run_command.Goals as goal

pub returns : goal.returns
returns c =
    let first = word_first _ _ _ _ c.arg-run.result c.plain_command-run.ensures c.desks_word.ensures c.arg-run.ensures in
    let days_given = c.days-run.ensures _ first in
    let stream_given = c.with_arg-run.ensures _ _ days_given c.stream_word.ensures in
    let load_given = c.with_arg-run-2.ensures _ _ stream_given c.load_word.ensures in
    c.with_arg.ensures _ _ load_given c.why_word.ensures
