use Rattle.std.proofs.Common.{◌≡◌, ◌∙◌, List, sym, ap, map, length, arith}
use Rattle.std.specs.Prelude.{vec_len}
use Rattle.std.proofs.lemmas.Bool.{eqb-true}
use Rattle.std.proofs.lemmas.List.{nil_from_length}
use Rattle.itip_todo.specs.Places.{property_at}
use Rattle.itip_todo.specs.declared.place.Place.{Place}
use Rattle.itip_todo.proofs.collected.Collected.into_list.Goals as goal

pub returns-then-is_empty : goal.returns-then-is_empty
returns-then-is_empty c =
    let places : List Place = c.self.inside.places.items in
    let none : vec_len c.self.inside.places ≡ 0 = eqb-true _ _ (sym c.is_empty.ensures ∙ c.if-is_empty.true) in
    let short : length places ≡ 0 = omega (arith, none, c.self.inside.places.ok.0) in
    c.new.ensures ∙ sym (ap (map (property_at c.self.inside.text.items)) (nil_from_length places short)) ∙ c.self.view_is
