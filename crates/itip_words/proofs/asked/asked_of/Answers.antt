use Rattle.std.proofs.Common.{◌∙◌, ℕ, List, Option, codes, sym, subst}
use Rattle.itip_words.specs.Asking.{IsRead, AsksMessage}
use Rattle.itip_words.specs.AskedValues.{IsMomentName}
use Rattle.itip_words.specs.Finding.{Never}
use Rattle.itip_words.specs.Options.{options_of}
use Rattle.itip_words.proofs.Asking.{named, message_for, ok_both}
use Rattle.itip_words.proofs.Finding.{not_named}
use Rattle.itip_words.proofs.Messages.{never_unnamed, never_placed}
use Rattle.itip_words.proofs.asked.asked_of.Goals as goal

pub returns-then-eq : goal.returns-then-eq
returns-then-eq c =
    message_for (options_of c.args.words.now) (codes "request") c.args.word.now c.request_of.result
    (named c.args.word.now (codes "request") c.eq.result c.eq.ensures c.if-eq.true) c.request_of.ensures

pub returns-in_default : goal.returns-in_default
returns-in_default c =
    never_unnamed (options_of c.args.words.now) c.args.word.now
    (not_named c.args.word.now (codes "request") c.eq.result c.eq.ensures c.if-eq.false) (sym (c.in_ok-uid.ensures ∙ c.in_default.is))

pub returns-then-eq-2 : goal.returns-then-eq-2
returns-then-eq-2 c =
    (named c.args.word.now (codes "resend") c.eq-2.result c.eq-2.ensures c.if-eq-2.true, c.in_ok-uid.ensures ∙ c.in-Some.is)

pub returns-in_default-2 : goal.returns-in_default-2
returns-in_default-2 c =
    never_placed (options_of c.args.words.now) c.args.word.now
    (not_named c.args.word.now (codes "request") c.eq.result c.eq.ensures c.if-eq.false)
    (not_named c.args.word.now (codes "resend") c.eq-2.result c.eq-2.ensures c.if-eq-2.false)
    (subst (λ (o : Option (List ℕ)). Never (IsRead IsMomentName o)) c.value_of-text.ensures (rw c.in_default-2.is at c.in_ok-id.ensures))

pub asked_about-requires : goal.asked_about-requires
asked_about-requires c = record {
  uid_is = c.in_ok-uid.ensures ∙ c.in-Some.is;
  id_is = subst (λ (o : Option (List ℕ)). IsRead IsMomentName o c.in-Some-2.id) c.value_of-text.ensures
      (rw c.in-Some-2.is at c.in_ok-id.ensures);
}

pub returns : goal.returns
returns c =
    ok_both (AsksMessage c.args.word.now (options_of c.args.words.now)) c.asked_about.result c.asked_about.ensures.asked
    (c.asked_about.ensures.none (not_named c.args.word.now (codes "request") c.eq.result c.eq.ensures c.if-eq.false)
    (not_named c.args.word.now (codes "resend") c.eq-2.result c.eq-2.ensures c.if-eq-2.false))
