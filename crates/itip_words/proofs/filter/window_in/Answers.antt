use Rattle.std.proofs.Common.{ℕ, List, Option, codes, subst}
use Rattle.std.specs.Option.{option_copied}
use Rattle.itip_words.specs.Days.{numbered, IsAskedWindow}
use Rattle.itip_words.specs.Finding.{Finds}
use Rattle.itip_words.specs.Options.{options_of, value_of}
use Rattle.itip_words.proofs.Finding.{finds_both}
use Rattle.itip_words.proofs.filter.window_in.Goals as goal

pub returns : goal.returns
returns c =
    subst (λ (to : Option (List ℕ)). Finds
    (IsAskedWindow (value_of (codes "from") (options_of c.args.words.now)) to (numbered c.args.today) c.args.is_due)
    c.asked_window.result) c.value_of-to.ensures
    (subst (λ (from : Option (List ℕ)). Finds
    (IsAskedWindow from (option_copied c.value_of-to.result) (numbered c.args.today) c.args.is_due) c.asked_window.result)
    c.value_of-from.ensures (finds_both _ c.asked_window.result c.asked_window.ensures.found c.asked_window.ensures.none))
