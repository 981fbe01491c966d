use Rattle.itip_words.proofs.Windows.{none_is}
use Rattle.itip_words.proofs.words.scripted_of_texts.Goals as goal

pub returns-in_err-window-clause-none : goal.returns-in_err-window-clause-none
returns-in_err-window-clause-none c =
    none_is c.from_residual-in_err-window.result (λ count window is. c.in_err-window.ensures.none window is.days)
