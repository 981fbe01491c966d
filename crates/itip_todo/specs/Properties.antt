-- A value with its parameters, as contracts see it: what follows a property's name (RFC 5545 3.1).
use Rattle.std.specs.Prelude.{ℕ, List, ◌∷◌, ◌++◌, refl}
use Rattle.std.specs.Coded.{Coded, code_by, coded×, coded_ℕ, coded_list}
use Rattle.itip_lines.specs.Lawful.{params_text}
use Rattle.itip_lines.specs.contracts.line.Param as param
use Rattle.itip_lines.specs.declared.line.Param.{Param}

pub record Property : Type 0 where
  pub params : List Param
  pub value : List ℕ

abbrev pub property_code : Coded Property
property_code = code_by (List Param × List ℕ) (coded× (coded_list param.the_row.coded) (coded_list coded_ℕ)) (λ p. (p.params, p.value))
    (λ p. record { params = p.0; value = p.1 }) (λ _. refl)

-- a property as it is written after its name, without folds
abbrev pub property_text : Property → List ℕ
property_text property = params_text property.params ++ 58 ∷ property.value
