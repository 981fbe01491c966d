-- What holds of every line, and its octets without folds (RFC 5545 3.1).
use Rattle.std.specs.Prelude.{ℕ, ◌<◌, ◌≤◌, cond, IsTrue, List, [], ◌∷◌, ◌++◌, length}
use Rattle.std.specs.List.{list_all, list_any, AllByRecursion}
use Rattle.std.specs.Str.{IsUtf8}
use Rattle.std.proofs.Props.{props}
use Rattle.itip_lines.specs.Octets.{is_upper_name_octet, is_value_octet, is_quotable_octet, is_separator}
use Rattle.itip_lines.specs.declared.line.Param.{Param}

-- the maximum length of an unfolded line, in octets (our own limit)
abbrev pub line_limit : ℕ
line_limit = 65536

-- a parameter value, in quotes exactly if it has a separator
abbrev pub value_text : List ℕ → List ℕ
value_text value = cond (list_any is_separator value) (34 ∷ (value ++ 34 ∷ [])) value

-- values with commas between them
abbrev pub values_text : List (List ℕ) → List ℕ
values_text [] = []
values_text (v ∷ []) = value_text v
values_text (v ∷ (w ∷ vs)) = value_text v ++ 44 ∷ values_text (w ∷ vs)

abbrev pub param_text : Param → List ℕ
param_text param = 59 ∷ (param.name ++ 61 ∷ values_text param.values)

abbrev pub params_text : List Param → List ℕ
params_text [] = []
params_text (p ∷ ps) = param_text p ++ params_text ps

-- a line without folds and without its break
abbrev pub line_text : List ℕ → List Param → List ℕ → List ℕ
line_text name params value = name ++ (params_text params ++ 58 ∷ value)

-- a name in upper case
pub record IsName (name : List ℕ) : Type 0 where
  pub some : 0 < length name
  pub upper : IsTrue (list_all is_upper_name_octet name)

-- a parameter value
pub record IsParamValue (value : List ℕ) : Type 0 where
  pub octets : IsTrue (list_all is_quotable_octet value)
  pub utf8 : IsUtf8 value

pub record IsLawfulParam (param : Param) : Type 0 where
  pub named : IsName param.name
  pub some : 0 < length param.values
  pub values : AllByRecursion IsParamValue param.values

pub record IsLawful (name : List ℕ) (params : List Param) (value : List ℕ) : Type 0 where
  pub named : IsName name
  pub each_param : AllByRecursion IsLawfulParam params
  pub octets : IsTrue (list_all is_value_octet value)
  pub utf8 : IsUtf8 value
  pub short : length (line_text name params value) ≤ line_limit

pub IsLawful-prop : (name : List ℕ) (params : List Param) (value : List ℕ) → IsProp (IsLawful name params value)
IsLawful-prop name params value = hlevel props
