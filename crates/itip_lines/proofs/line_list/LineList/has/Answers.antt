use Rattle.std.proofs.Common.{◌∙◌, ℕ, List, ap}
use Rattle.std.specs.List.{list_any}
use Rattle.itip_lines.specs.LineTexts.{name_in}
use Rattle.itip_lines.specs.Lookup.{same_text}
use Rattle.itip_lines.proofs.LineLists.{has_named}
use Rattle.itip_lines.proofs.line_list.LineList.has.Goals as goal

pub returns : goal.returns
returns c =
    c.any_named.ensures ∙ ap (λ (texts : List (List ℕ)). list_any (λ text. same_text (name_in text) c.args.name.now) texts) c.texts.ensures
    ∙ has_named c.args.name.now c.args.self.now
