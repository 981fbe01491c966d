use Rattle.itip_words.specs.AskedValues.{answer_named}
use Rattle.itip_words.proofs.Finding.{finds_none, finds_by}
use Rattle.itip_words.proofs.Given.{none_given}
use Rattle.itip_words.proofs.asked.asked_answer.Goals as goal

pub returns-in_err-text : goal.returns-in_err-text
returns-in_err-text c =
    finds_none _ c.from_residual.result c.from_residual.ensures (λ status is. none_given _ _ c.in_err-text.ensures is)

pub returns : goal.returns
returns c = finds_by answer_named _ c.in_ok-text.text.now c.answer_named.result c.in_ok-text.ensures c.answer_named.ensures.answer
