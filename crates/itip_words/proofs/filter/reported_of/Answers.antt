use Rattle.itip_words.specs.Days.{numbered}
use Rattle.itip_words.specs.Options.{options_of}
use Rattle.itip_words.proofs.Finding.{finds_none}
use Rattle.itip_words.proofs.Nothing.{report_no_window}
use Rattle.itip_words.proofs.filter.reported_of.Goals as goal

pub returns-in_err-name : goal.returns-in_err-name
returns-in_err-name c =
    finds_none _ c.from_residual.result c.from_residual.ensures
    (λ reported is. c.in_err-name.ensures reported.name (record { named = is.name; days = is.days }))

pub returns-in_err-window : goal.returns-in_err-window
returns-in_err-window c =
    finds_none _ c.from_residual-in_err-window.result c.from_residual-in_err-window.ensures
    (report_no_window (options_of c.args.words.now) c.args.clock (numbered c.args.today) c.requires c.in_err-window.ensures)

pub returns : goal.returns
returns c = record {
  today = numbered c.args.today;
  today_is = c.requires;
  name = c.in_ok-name.ensures.named;
  days = c.in_ok-name.ensures.days;
  window = c.in_ok-window.ensures;
}
