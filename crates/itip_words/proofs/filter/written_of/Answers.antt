use Rattle.std.proofs.Common.{ℕ, List, codes, sym, subst}
use Rattle.std.specs.Prelude.{IfErr}
use Rattle.std.proofs.lemmas.Result.{IfErr-weaker}
use Rattle.itip_words.specs.Asking.{AsksWritten}
use Rattle.itip_words.specs.Finding.{Never}
use Rattle.itip_words.specs.NoCalls.{IsCause}
use Rattle.itip_words.specs.Options.{options_of}
use Rattle.itip_words.proofs.Asking.{named, written_by, ok_written_by, ok_message}
use Rattle.itip_words.proofs.Finding.{not_named}
use Rattle.itip_words.proofs.NoCalls.{cause_more}
use Rattle.itip_words.proofs.Nothing.{never_written}
use Rattle.itip_words.proofs.filter.written_of.Goals as goal

pub returns-then-eq-clause-found : goal.returns-then-eq-clause-found
returns-then-eq-clause-found c =
    written_by (options_of c.args.words.now) c.args.clock (codes "compact") c.args.word.now c.in_ok-compaction_of.field-0
    (named c.args.word.now (codes "compact") c.eq.result c.eq.ensures c.if-eq.true) (c.in_ok-compaction_of.ensures c.args.clock)

pub returns-then-eq-2-clause-found : goal.returns-then-eq-2-clause-found
returns-then-eq-2-clause-found c =
    ok_written_by (options_of c.args.words.now) c.args.clock (codes "list") c.args.word.now c.list_of.result
    (named c.args.word.now (codes "list") c.eq-2.result c.eq-2.ensures c.if-eq-2.true) c.list_of.ensures.found

pub returns-then-eq-3-clause-found : goal.returns-then-eq-3-clause-found
returns-then-eq-3-clause-found c =
    ok_written_by (options_of c.args.words.now) c.args.clock (codes "report") c.args.word.now c.report_of.result
    (named c.args.word.now (codes "report") c.eq-3.result c.eq-3.ensures c.if-eq-3.true) c.report_of.ensures.found

pub returns-then-eq-4-clause-found : goal.returns-then-eq-4-clause-found
returns-then-eq-4-clause-found c =
    written_by (options_of c.args.words.now) c.args.clock (codes "news") c.args.word.now c.in_ok-news_of.field-0
    (named c.args.word.now (codes "news") c.eq-4.result c.eq-4.ensures c.if-eq-4.true) (c.in_ok-news_of.ensures c.args.clock)

pub returns-then-eq-5-clause-found : goal.returns-then-eq-5-clause-found
returns-then-eq-5-clause-found c =
    written_by (options_of c.args.words.now) c.args.clock (codes "explain") c.args.word.now c.in_ok-explanation_of.field-0
    (named c.args.word.now (codes "explain") c.eq-5.result c.eq-5.ensures c.if-eq-5.true) (c.in_ok-explanation_of.ensures c.args.clock)

pub returns-clause-found : goal.returns-clause-found
returns-clause-found c =
    ok_message (options_of c.args.words.now) c.args.clock c.args.word.now c.message_of.result
    (λ one none. never_written (options_of c.args.words.now) c.args.clock c.args.word.now
    (not_named c.args.word.now (codes "compact") c.eq.result c.eq.ensures c.if-eq.false)
    (not_named c.args.word.now (codes "list") c.eq-2.result c.eq-2.ensures c.if-eq-2.false)
    (not_named c.args.word.now (codes "report") c.eq-3.result c.eq-3.ensures c.if-eq-3.false)
    (not_named c.args.word.now (codes "news") c.eq-4.result c.eq-4.ensures c.if-eq-4.false)
    (not_named c.args.word.now (codes "explain") c.eq-5.result c.eq-5.ensures c.if-eq-5.false) none one) c.message_of.ensures.found
    c.message_of.ensures.none

pub returns-then-eq-2-clause-fault : goal.returns-then-eq-2-clause-fault
returns-then-eq-2-clause-fault c =
    subst (λ (w : List ℕ). IfErr c.list_of.result
    (IsCause (Never (AsksWritten w (options_of c.args.words.now) c.args.clock)) c.args.clock))
    (sym (named c.args.word.now (codes "list") c.eq-2.result c.eq-2.ensures c.if-eq-2.true)) c.list_of.ensures.fault

pub returns-then-eq-3-clause-fault : goal.returns-then-eq-3-clause-fault
returns-then-eq-3-clause-fault c =
    subst (λ (w : List ℕ). IfErr c.report_of.result
    (IsCause (Never (AsksWritten w (options_of c.args.words.now) c.args.clock)) c.args.clock))
    (sym (named c.args.word.now (codes "report") c.eq-3.result c.eq-3.ensures c.if-eq-3.true)) c.report_of.ensures.fault

pub returns-clause-fault : goal.returns-clause-fault
returns-clause-fault c =
    IfErr-weaker c.message_of.result _ _ (λ why is. cause_more _ _ c.args.clock why
    (λ none one. never_written (options_of c.args.words.now) c.args.clock c.args.word.now
    (not_named c.args.word.now (codes "compact") c.eq.result c.eq.ensures c.if-eq.false)
    (not_named c.args.word.now (codes "list") c.eq-2.result c.eq-2.ensures c.if-eq-2.false)
    (not_named c.args.word.now (codes "report") c.eq-3.result c.eq-3.ensures c.if-eq-3.false)
    (not_named c.args.word.now (codes "news") c.eq-4.result c.eq-4.ensures c.if-eq-4.false)
    (not_named c.args.word.now (codes "explain") c.eq-5.result c.eq-5.ensures c.if-eq-5.false) none one) is) c.message_of.ensures.fault
