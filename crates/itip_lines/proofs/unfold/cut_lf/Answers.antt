use Rattle.std.proofs.Common.{◌∙◌, sym, ap, ◌+◌, ◌∷◌, ◌++◌, take}
use Rattle.std.proofs.lemmas.List.{take_rest}
use Rattle.itip_lines.proofs.Feeds.{no_feed, first_feed}
use Rattle.itip_lines.proofs.unfold.cut_lf.Goals as goal

pub returns-in_err-at : goal.returns-in_err-at
returns-in_err-at c = rw c.from_residual.ensures (no_feed _ c.in_err-at.ensures)

pub returns : goal.returns
returns c =
    let text = c.args.text.now in
    let at = c.in_ok-at.at in
    let found = first_feed text at c.in_ok-at.ensures in
    (found.0, found.1 ∙ ap (λ rest. take at text ++ 10 ∷ rest) (sym (take_rest text (at + 1))))
