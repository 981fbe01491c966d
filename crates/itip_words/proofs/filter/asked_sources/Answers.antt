use Rattle.std.proofs.Common.{◌∙◌, ap, List, [], ◌∷◌, ℕ, Option, codes}
use Rattle.std.specs.Prelude.{if◌then◌else◌, unwrap_or}
use Rattle.std.proofs.lemmas.Result.{IfOk-weaker}
use Rattle.itip_words.specs.Asking.{reads_draft}
use Rattle.itip_words.specs.Options.{options_of}
use Rattle.itip_words.proofs.filter.asked_sources.Goals as goal

pub returns-in-Some : goal.returns-in-Some
returns-in-Some c =
    IfOk-weaker c.copies.result _ _ (λ copied is. is ∙ ap (λ (o : Option (List (List ℕ))). unwrap_or o
    (if reads_draft (options_of c.args.words.now) then [] else codes "-" ∷ [])) c.in-Some.ensures)
    c.copies.ensures
