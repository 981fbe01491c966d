use Rattle.itip_words.proofs.Programs.{word_first}
use Rattle.itip_words.proofs.commands.news_command.Goals as goal

pub returns : goal.returns
returns c =
    let first = word_first _ _ _ _ c.arg-news.result c.plain_command-news.ensures c.than_word.ensures c.arg-news.ensures in
    c.intake_words.ensures _ first
