-- A content line as it may be spelled: name *(";" param) ":" value (RFC 5545 3.1). "Then" names what is left of the text.
use Rattle.std.specs.Prelude.{◌≡◌, ℕ, ◌<◌, ◌⊎◌, IsTrue, List, [], ◌∷◌, ◌++◌, length}
use Rattle.std.specs.List.{list_all}
use Rattle.std.specs.Str.{str_to_ascii_uppercase}
use Rattle.itip_lines.specs.Octets.{is_name_octet, is_value_octet, is_quotable_octet, is_plain_octet}
use Rattle.itip_lines.specs.declared.line.Param.{Param}

-- a name in letters of either case, read as upper case
pub record SpellsName (text name : List ℕ) : Type 0 where
  pub some : 0 < length text
  pub octets : IsTrue (list_all is_name_octet text)
  pub name_is : name ≡ str_to_ascii_uppercase text

-- the text begins with this parameter value, in quotes or without
abbrev pub ValueThen : List ℕ → List ℕ → List ℕ → Type 0
ValueThen text value rest =
    (IsTrue (list_all is_quotable_octet value) × (text ≡ 34 ∷ (value ++ 34 ∷ rest)))
    ⊎ (IsTrue (list_all is_plain_octet value) × (text ≡ value ++ rest))

-- the text begins with these values, at least one, with commas between them
abbrev pub ValuesThen : List ℕ → List (List ℕ) → List ℕ → Type 0
ValuesThen text [] rest = ⊥
ValuesThen text (v ∷ []) rest = ValueThen text v rest
ValuesThen text (v ∷ (w ∷ vs)) rest = (more : List ℕ) × ValueThen text v (44 ∷ more) × ValuesThen more (w ∷ vs) rest

-- the text begins with this parameter: its name, "=" and its values
pub record ParamThen (text : List ℕ) (param : Param) (rest : List ℕ) : Type 0 where
  pub spelled : List ℕ
  pub after : List ℕ
  pub whole : text ≡ spelled ++ 61 ∷ after
  pub named : SpellsName spelled param.name
  pub values : ValuesThen after param.values rest

-- the text is what follows a line's name: ";" before each parameter, and ":" before the value
abbrev pub IsTail : List ℕ → List Param → List ℕ → Type 0
IsTail text [] value = (text ≡ 58 ∷ value) × IsTrue (list_all is_value_octet value)
IsTail text (p ∷ ps) value = (after : List ℕ) × (rest : List ℕ) × (text ≡ 59 ∷ after) × ParamThen after p rest × IsTail rest ps value

-- the text is a line of this name, these parameters and this value
pub record Spells (text name : List ℕ) (params : List Param) (value : List ℕ) : Type 0 where
  pub spelled : List ℕ
  pub tail : List ℕ
  pub whole : text ≡ spelled ++ tail
  pub named : SpellsName spelled name
  pub tail_is : IsTail tail params value
