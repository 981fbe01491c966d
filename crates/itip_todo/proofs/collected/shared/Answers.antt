use Rattle.std.proofs.Common.{◌∙◌, ◌++◌, ◌∷◌, [], List, ap, map, take_all}
use Rattle.std.specs.Arc.{arc_value}
use Rattle.itip_todo.specs.Places.{property_at}
use Rattle.itip_todo.specs.Properties.{Property}
use Rattle.itip_todo.specs.declared.place.Place.{Place}
use Rattle.itip_todo.proofs.Placing.{place_of, properties_more}
use Rattle.itip_todo.proofs.collected.shared.Goals as goal

pub at-requires : goal.at-requires
at-requires c =
    place_of (arc_value c.args.text.now) c.args.places.now c.loop-place.place-index _ c.requires c.loop-place-test.true

pub loop-place-preserved : goal.loop-place-preserved
loop-place-preserved c =
    c.in_ok-push.ensures.items
    ∙ ap (λ (p : Property). c.loop-place.properties.items ++ p ∷ []) c.in_ok-at.ensures
    ∙ properties_more (arc_value c.args.text.now) c.args.places.now c.loop-place.place-index _
    c.loop-place.properties.items c.loop-place-test.true c.loop-place.invariant

pub returns : goal.returns
returns c =
    c.from_vec.ensures ∙ c.loop-place.invariant
    ∙ ap (λ (ps : List Place). map (property_at (arc_value c.args.text.now)) ps)
    (take_all c.loop-place.place-index c.args.places.now c.loop-place-test.false)
