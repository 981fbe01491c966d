-- What a desk has heard after a list of steps, each a set of items (our own rule).
use Rattle.std.specs.Prelude.{List, [], ◌∷◌, ◌++◌}
use Rattle.std.specs.List.{Contains}
use Rattle.itip_items.specs.declared.item.Item.{Item}

-- everything heard in these steps
abbrev pub heard : List (List Item) → List Item
heard [] = []
heard (step ∷ steps) = step ++ heard steps

-- each of these items was heard in one of these steps
abbrev pub AreHeard : List Item → List (List Item) → Type 0
AreHeard items steps = (item : Item) → Contains items item → (step : List Item) × Contains steps step × Contains step item
