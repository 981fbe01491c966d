use Rattle.std.proofs.Common.{◌≡◌, ◌∙◌, ℕ, List, Some, refl, sym, rules}
use Rattle.std.proofs.lemmas.Option.{none-some}
use Rattle.itip_words.specs.Options.{options_of}
use Rattle.itip_words.specs.Words.{AreWorkers, workers_of}
use Rattle.itip_words.proofs.Calling.{never_office}
use Rattle.itip_words.proofs.Finding.{finds_none}
use Rattle.itip_words.proofs.Given.{given, of_given, none_given}
use Rattle.itip_words.proofs.words.office_of.Goals as goal

pub returns-in_err-scripted : goal.returns-in_err-scripted
returns-in_err-scripted c = λ clock.
    finds_none _ c.from_residual.result c.from_residual.ensures
    (never_office (options_of c.args.words.now) clock (λ scripted workers script is. c.in_err-scripted.ensures.none scripted script))

pub returns-in_err-text : goal.returns-in_err-text
returns-in_err-text c = λ clock.
    finds_none _ c.from_residual-in_err-text.result c.from_residual-in_err-text.ensures
    (never_office (options_of c.args.words.now) clock (λ scripted workers script is. none_given _ _ c.in_err-text.ensures is))

pub returns-in_err-workers : goal.returns-in_err-workers
returns-in_err-workers c = λ clock.
    finds_none _ c.from_residual-in_err-workers.result c.from_residual-in_err-workers.ensures
    (never_office (options_of c.args.words.now) clock (λ scripted workers script is. none-some workers (c.in_err-workers.ensures ∙
    of_given _ c.in_ok-text.text.now (λ (t : List ℕ). workers_of t ≡ Some workers) c.in_ok-text.ensures is)))

pub returns : goal.returns
returns c = λ clock.
    let few : AreWorkers c.in_ok-workers.workers = search rules in
    record {
      asked = (
        refl,
        c.in_ok-scripted.ensures.asked,
        given _ c.in_ok-text.text.now (λ (t : List ℕ). workers_of t ≡ Some c.in_ok-workers.workers) c.in_ok-text.ensures
            (sym c.in_ok-workers.ensures),
      );
      possible = (c.in_ok-scripted.ensures.desks, few);
    }
