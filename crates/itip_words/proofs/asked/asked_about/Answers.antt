use Rattle.std.proofs.Common.{codes}
use Rattle.itip_words.specs.Asking.{AsksMessage}
use Rattle.itip_words.specs.Options.{options_of}
use Rattle.itip_words.proofs.Asking.{named, message_for, ok_some, ok_none}
use Rattle.itip_words.proofs.Finding.{not_named}
use Rattle.itip_words.proofs.Messages.{never_message}
use Rattle.itip_words.proofs.asked.asked_about.Goals as goal

pub returns-then-eq-clause-asked : goal.returns-then-eq-clause-asked
returns-then-eq-clause-asked c =
    ok_some (AsksMessage c.args.word.now (options_of c.args.words.now)) c.reply_of.result
    (message_for (options_of c.args.words.now) (codes "reply") c.args.word.now c.reply_of.result
    (named c.args.word.now (codes "reply") c.eq.result c.eq.ensures c.if-eq.true) c.reply_of.ensures)

pub returns-then-eq-clause-none : goal.returns-then-eq-clause-none
returns-then-eq-clause-none c = λ other not_resend.
    ok_none (AsksMessage c.args.word.now (options_of c.args.words.now)) c.reply_of.result
    (message_for (options_of c.args.words.now) (codes "reply") c.args.word.now c.reply_of.result
    (named c.args.word.now (codes "reply") c.eq.result c.eq.ensures c.if-eq.true) c.reply_of.ensures)

pub returns-then-eq-2-clause-asked : goal.returns-then-eq-2-clause-asked
returns-then-eq-2-clause-asked c =
    ok_some (AsksMessage c.args.word.now (options_of c.args.words.now)) c.refresh_of.result
    (message_for (options_of c.args.words.now) (codes "refresh") c.args.word.now c.refresh_of.result
    (named c.args.word.now (codes "refresh") c.eq-2.result c.eq-2.ensures c.if-eq-2.true) c.refresh_of.ensures)

pub returns-then-eq-2-clause-none : goal.returns-then-eq-2-clause-none
returns-then-eq-2-clause-none c = λ other not_resend.
    ok_none (AsksMessage c.args.word.now (options_of c.args.words.now)) c.refresh_of.result
    (message_for (options_of c.args.words.now) (codes "refresh") c.args.word.now c.refresh_of.result
    (named c.args.word.now (codes "refresh") c.eq-2.result c.eq-2.ensures c.if-eq-2.true) c.refresh_of.ensures)

pub returns-then-eq-3-clause-asked : goal.returns-then-eq-3-clause-asked
returns-then-eq-3-clause-asked c =
    ok_some (AsksMessage c.args.word.now (options_of c.args.words.now)) c.cancel_of.result
    (message_for (options_of c.args.words.now) (codes "cancel") c.args.word.now c.cancel_of.result
    (named c.args.word.now (codes "cancel") c.eq-3.result c.eq-3.ensures c.if-eq-3.true) c.cancel_of.ensures)

pub returns-then-eq-3-clause-none : goal.returns-then-eq-3-clause-none
returns-then-eq-3-clause-none c = λ other not_resend.
    ok_none (AsksMessage c.args.word.now (options_of c.args.words.now)) c.cancel_of.result
    (message_for (options_of c.args.words.now) (codes "cancel") c.args.word.now c.cancel_of.result
    (named c.args.word.now (codes "cancel") c.eq-3.result c.eq-3.ensures c.if-eq-3.true) c.cancel_of.ensures)

pub returns-clause-none : goal.returns-clause-none
returns-clause-none c = λ other not_resend.
    never_message (options_of c.args.words.now) c.args.word.now other not_resend
    (not_named c.args.word.now (codes "reply") c.eq.result c.eq.ensures c.if-eq.false)
    (not_named c.args.word.now (codes "refresh") c.eq-2.result c.eq-2.ensures c.if-eq-2.false)
    (not_named c.args.word.now (codes "cancel") c.eq-3.result c.eq-3.ensures c.if-eq-3.false)
