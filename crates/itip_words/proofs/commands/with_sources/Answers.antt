use Rattle.itip_words.specs.Program.{compact_word, list_word, report_word, news_word, explain_word}
use Rattle.itip_words.proofs.commands.with_sources.Goals as goal

pub returns : goal.returns
returns c =
    λ app w0.
    let w1 = c.with_word-command.ensures _ compact_word w0 c.compact_command.ensures in
    let w2 = c.with_word-command-2.ensures _ list_word w1 c.list_command.ensures in
    let w3 = c.with_word-command-3.ensures _ report_word w2 c.report_command.ensures in
    let w4 = c.with_word-command-4.ensures _ news_word w3 c.news_command.ensures in
    c.with_word.ensures _ explain_word w4 c.explain_command.ensures
