use Rattle.std.proofs.Common.{rules, tests, refl}
use Rattle.std.proofs.lemmas.Iterator.Consumers.{YieldsList-from_first}
use Rattle.std.proofs.lemmas.Iterator.Search.{any_from_yields_List}
use Rattle.itip_lines.specs.LineTexts.{name_in}
use Rattle.itip_lines.specs.Lookup.{same_text}
use Rattle.itip_lines.specs.TextsLeft.{texts_left}
use Rattle.itip_lines.proofs.line_list.any_named.Goals as goal

pub returns : goal.returns
returns c =
    any_from_yields_List (λ text. same_text (name_in text) c.args.name.now) c.any.new.self _ _ c.any.ensures.ran
    (YieldsList-from_first (λ x. x.now) texts_left {s = c.args.texts} (texts_left c.args.texts) refl) (λ x b q k. search (rules, tests))
