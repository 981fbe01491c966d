use Rattle.std.proofs.Common.{◌∙◌, ◌+◌, ℕ, List, sym, ap, subst}
use Rattle.std.specs.Prelude.{slice_range}
use Rattle.std.specs.Str.{IsUtf8}
use Rattle.itip_todo.specs.Properties.{Property}
use Rattle.itip_todo.proofs.property.Property.value.Goals as goal

pub from_utf8_unchecked-requires : goal.from_utf8_unchecked-requires
from_utf8_unchecked-requires c =
    subst (λ (t : List ℕ). IsUtf8 (slice_range t (c.self.inside.place.colon + 1) c.self.inside.place.end))
    (sym (c.as_slice-text.ensures ∙ c.deref.ensures)) c.self.invariant.value

pub returns : goal.returns
returns c =
    c.from_utf8_unchecked.ensures
    ∙ ap (λ (t : List ℕ). slice_range t (c.self.inside.place.colon + 1) c.self.inside.place.end)
    (c.as_slice-text.ensures ∙ c.deref.ensures)
    ∙ ap (λ (p : Property). p.value) c.self.view_is
