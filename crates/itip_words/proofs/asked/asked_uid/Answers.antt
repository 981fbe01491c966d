use Rattle.std.proofs.Common.{◌∙◌, Some, ap, sym}
use Rattle.itip_words.proofs.asked.asked_uid.Goals as goal

pub returns-in_ok-copy-in-Some : goal.returns-in_ok-copy-in-Some
returns-in_ok-copy-in-Some c = sym c.in-Some.ensures ∙ ap Some (sym c.in_ok-copy-in-Some.ensures)
