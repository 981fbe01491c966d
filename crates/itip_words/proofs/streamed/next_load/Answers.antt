use Rattle.std.proofs.Common.{◌∙◌, sym}
use Rattle.std.proofs.lemmas.Option.{none-some}
use Rattle.itip_words.proofs.Loading.{none_named}
use Rattle.itip_words.proofs.Streaming.{never_past, never_twice}
use Rattle.itip_words.proofs.Windows.{none_is}
use Rattle.itip_words.proofs.streamed.next_load.Goals as goal

pub returns-in_err-desk-clause-none : goal.returns-in_err-desk-clause-none
returns-in_err-desk-clause-none c =
    none_is c.from_residual.result (λ load is. none-some load (c.in_err-desk.ensures ∙ is.named))

pub returns-then-desk-desks-clause-none : goal.returns-then-desk-desks-clause-none
returns-then-desk-desks-clause-none c =
    never_past c.args.text.now c.args.desks c.args.before.now (c.in_ok-desk.desk, c.in_ok-desk.file.now) c.in_ok-desk.ensures
    c.if-desk-desks.true

pub returns-then-is_named-clause-none : goal.returns-then-is_named-clause-none
returns-then-is_named-clause-none c =
    never_twice c.args.text.now c.args.desks c.args.before.now (c.in_ok-desk.desk, c.in_ok-desk.file.now) c.in_ok-desk.ensures
    (sym c.is_named.ensures ∙ c.if-is_named.true)

pub returns-clause-named : goal.returns-clause-named
returns-clause-named c = sym c.in_ok-desk.ensures

pub returns-clause-once : goal.returns-clause-once
returns-clause-once c = none_named c.in_ok-desk.desk c.args.before.now (sym c.is_named.ensures ∙ c.if-is_named.false)
