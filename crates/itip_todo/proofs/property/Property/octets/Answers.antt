use Rattle.std.proofs.Common.{◌∙◌, ◌++◌, ◌∷◌, ℕ, List, ap}
use Rattle.std.specs.Prelude.{slice_range}
use Rattle.std.specs.Arc.{arc_value}
use Rattle.itip_todo.specs.Places.{value_at}
use Rattle.itip_todo.specs.Properties.{property_text}
use Rattle.itip_todo.proofs.property.Property.octets.Goals as goal

pub returns : goal.returns
returns c =
    ap (λ (t : List ℕ). slice_range t c.self.inside.place.start c.self.inside.place.end) (c.as_slice.ensures ∙ c.deref.ensures)
    ∙ c.self.invariant.whole
    ∙ ap (λ (t : List ℕ). t ++ 58 ∷ value_at (arc_value c.self.inside.text) c.self.inside.place) c.self.invariant.params.text_is
    ∙ ap property_text c.self.view_is
