-- Where properties are in a text (our own form).
use Rattle.std.specs.Prelude.{◌≡◌, ◌≤◌, ◌<◌, ◌+◌, ℕ, List, ◌∷◌, ◌++◌, length, slice_range}
use Rattle.std.specs.Str.{IsUtf8}
use Rattle.itip_lines.specs.ParamsText.{params_in, IsParamsText}
use Rattle.itip_todo.specs.Properties.{Property}
use Rattle.itip_todo.specs.declared.place.Place.{Place}

-- the text of the parameters, of the value, and of both with the colon (58) between them
abbrev pub params_at : List ℕ → Place → List ℕ
params_at text place = slice_range text place.start place.colon

abbrev pub value_at : List ℕ → Place → List ℕ
value_at text place = slice_range text (place.colon + 1) place.end

abbrev pub octets_at : List ℕ → Place → List ℕ
octets_at text place = slice_range text place.start place.end

-- the property at this place
abbrev pub property_at : List ℕ → Place → Property
property_at text place = record { params = params_in (params_at text place); value = value_at text place }

-- A property is at this place: the text of parameters, a colon (58), and a value.
pub record IsPlaceIn (text : List ℕ) (place : Place) : Type 0 where
  pub begins : place.start ≤ place.colon
  pub parted : place.colon < place.end
  pub within : place.end ≤ length text
  pub params : IsParamsText (params_at text place)
  pub value : IsUtf8 (value_at text place)
  pub whole : octets_at text place ≡ params_at text place ++ 58 ∷ value_at text place
