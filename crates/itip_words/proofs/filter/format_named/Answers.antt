use Rattle.std.proofs.Common.{◌∙◌, codes, ap, sym}
use Rattle.std.proofs.lemmas.Option.{none-some}
use Rattle.itip_words.specs.Days.{numbered}
use Rattle.itip_words.proofs.Finding.{finds_none, not_named}
use Rattle.itip_words.proofs.Nothing.{never_form}
use Rattle.itip_words.proofs.filter.format_named.Goals as goal

pub returns-then-not-is_page : goal.returns-then-not-is_page
returns-then-not-is_page c =
    never_form (numbered c.args.today) c.args.text.now
    (not_named c.args.text.now (codes "text") c.eq.result c.eq.ensures c.if-eq.false)
    (not_named c.args.text.now (codes "csv") c.eq-2.result c.eq-2.ensures c.if-eq-2.false)
    (not_named c.args.text.now (codes "json") c.eq-3.result c.eq-3.ensures c.if-eq-3.false)
    (λ day is today. not_named c.args.text.now (codes "html") c.is_page.result c.is_page.ensures c.if-not-is_page.true is)

pub returns-in_err-day : goal.returns-in_err-day
returns-in_err-day c =
    finds_none _ c.from_residual.result c.from_residual.ensures
    (never_form (numbered c.args.today) c.args.text.now
    (not_named c.args.text.now (codes "text") c.eq.result c.eq.ensures c.if-eq.false)
    (not_named c.args.text.now (codes "csv") c.eq-2.result c.eq-2.ensures c.if-eq-2.false)
    (not_named c.args.text.now (codes "json") c.eq-3.result c.eq-3.ensures c.if-eq-3.false)
    (λ day is today. none-some day.number (ap numbered (sym c.in_err-day.was) ∙ today)))
