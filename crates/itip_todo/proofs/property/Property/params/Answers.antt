use Rattle.std.proofs.Common.{◌∙◌, ℕ, List, sym, ap, subst}
use Rattle.std.specs.List.{AllByRecursion}
use Rattle.std.specs.Prelude.{slice_range}
use Rattle.std.specs.Str.{IsUtf8}
use Rattle.itip_lines.specs.Lawful.{params_text, IsLawfulParam}
use Rattle.itip_lines.proofs.Roundtrip.{utf8_params}
use Rattle.itip_todo.specs.Properties.{Property}
use Rattle.itip_todo.proofs.property.Property.params.Goals as goal

pub from_utf8_unchecked-requires : goal.from_utf8_unchecked-requires
from_utf8_unchecked-requires c =
    subst IsUtf8 (sym (ap (λ (t : List ℕ). slice_range t c.self.inside.place.start c.self.inside.place.colon)
    (c.as_slice-text.ensures ∙ c.deref.ensures)
    ∙ c.self.invariant.params.text_is)) (utf8_params _ c.self.invariant.params.each)

pub returns-clause-text : goal.returns-clause-text
returns-clause-text c =
    c.from_utf8_unchecked.ensures
    ∙ ap (λ (t : List ℕ). slice_range t c.self.inside.place.start c.self.inside.place.colon)
    (c.as_slice-text.ensures ∙ c.deref.ensures)
    ∙ c.self.invariant.params.text_is
    ∙ ap (λ (p : Property). params_text p.params) c.self.view_is

pub returns-clause-lawful : goal.returns-clause-lawful
returns-clause-lawful c = subst (λ (p : Property). AllByRecursion IsLawfulParam p.params) c.self.view_is c.self.invariant.params.each
