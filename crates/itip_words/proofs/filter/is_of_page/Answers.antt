use Rattle.std.proofs.Common.{◌∙◌, ap, false}
use Rattle.std.specs.Option.{option_map_or}
use Rattle.itip_words.specs.Asking.{is_page}
use Rattle.itip_words.proofs.filter.is_of_page.Goals as goal

pub returns-in-Some : goal.returns-in-Some
returns-in-Some c = c.is_page.ensures ∙ ap (λ o. option_map_or is_page o false) c.in-Some.ensures

pub returns-in-None : goal.returns-in-None
returns-in-None c = ap (λ o. option_map_or is_page o false) c.in-None.ensures
