-- What the parameters of a line have under a name: the first value of the first parameter with that name (RFC 5545 3.2).
use Rattle.std.specs.Prelude.{◌≡◌, ℕ, nat_eq, Bool, true, false, cond, not, ◌&&◌, ◌==◌, List, [], ◌∷◌, ◌++◌}
use Rattle.std.specs.Cmp.Lexicographic.{pointwise}
use Rattle.std.specs.List.{AllByRecursion, list_any}
use Rattle.itip_lines.specs.Lawful.{value_text, params_text, IsParamValue, IsLawfulParam}
use Rattle.itip_lines.specs.Octets.{is_plain_octet}
use Rattle.itip_lines.specs.Parts.{begins}
use Rattle.itip_lines.specs.declared.line.Param.{Param}

abbrev pub same_text : List ℕ → List ℕ → Bool
same_text = pointwise nat_eq

abbrev pub has_param : List ℕ → List Param → Bool
has_param name params = list_any (λ (param : Param). same_text param.name name) params

abbrev pub first_value : List (List ℕ) → List ℕ
first_value [] = []
first_value (value ∷ values) = value

-- the first value of the first parameter with this name, empty if there is none
abbrev pub param_value : List ℕ → List Param → List ℕ
param_value name [] = []
param_value name (param ∷ params) = cond (same_text param.name name) (first_value param.values) (param_value name params)

-- ---- the same in the text of the parameters (our own form)

-- the text from its first ";" outside quotes on
abbrev pub behind_values : Bool → List ℕ → List ℕ
behind_values quoted [] = []
behind_values quoted (b ∷ bs) = cond (not quoted && (b == 59)) (b ∷ bs) (behind_values (cond (b == 34) (not quoted) quoted) bs)

-- the text is that of parameters that have under the name what `params` have
pub record StandsFor (name : List ℕ) (params : List Param) (text : List ℕ) : Type 0 where
  pub left : List Param
  pub each : AllByRecursion IsLawfulParam left
  pub text_is : text ≡ params_text left
  pub has : has_param name params ≡ has_param name left
  pub value : param_value name params ≡ param_value name left

-- the text begins with this value, which ends at the end of the text or at a mark
pub record BeginsWithValue (value text : List ℕ) : Type 0 where
  pub rest : List ℕ
  pub lawful : IsParamValue value
  pub whole : text ≡ value_text value ++ rest
  pub stops : begins is_plain_octet rest ≡ false
  pub unquoted : begins (λ b. b == 34) rest ≡ false

-- the name is found, and the text begins with its first value
pub record IsFound (name : List ℕ) (params : List Param) (text : List ℕ) : Type 0 where
  pub has : has_param name params ≡ true
  pub begins_with : BeginsWithValue (param_value name params) text
