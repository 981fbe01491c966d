use Rattle.itip_words.specs.Program.{resend_word, request_word, reply_word, refresh_word, cancel_word}
use Rattle.itip_words.proofs.commands.with_messages.Goals as goal

pub returns : goal.returns
returns c =
    λ app w0.
    let w1 = c.with_word-command.ensures _ resend_word w0 c.resend_command.ensures in
    let w2 = c.with_word-command-2.ensures _ request_word w1 c.request_command.ensures in
    let w3 = c.with_word-command-3.ensures _ reply_word w2 c.reply_command.ensures in
    let w4 = c.with_word-command-4.ensures _ refresh_word w3 c.refresh_command.ensures in
    c.with_word.ensures _ cancel_word w4 c.cancel_command.ensures
