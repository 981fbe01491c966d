-- The parameters in a text as it is written, computed: the way back from `params_text` (our own form).
use Rattle.std.specs.Prelude.{◌≡◌, ℕ, cond, ◌==◌, List, [], ◌∷◌}
use Rattle.std.specs.List.{AllByRecursion}
use Rattle.itip_lines.specs.Lawful.{params_text, IsLawfulParam}
use Rattle.itip_lines.specs.declared.line.Param.{Param}

-- where an octet is
pub data Place : Type 0 where
  in_name : Place
  in_value : Place
  in_quotes : Place

-- what is left of a text: the rest of the name or value at its front, the values after that, and the parameters after those
pub record Remains : Type 0 where
  pub part : List ℕ
  pub values : List (List ℕ)
  pub params : List Param

abbrev pub with_octet : ℕ → Remains → Remains
with_octet b r = record { part = b ∷ r.part; values = r.values; params = r.params }

-- the mark before a value
abbrev pub with_value : Remains → Remains
with_value r = record { part = []; values = r.part ∷ r.values; params = r.params }

-- the mark before a parameter
abbrev pub with_param : Remains → Remains
with_param r = record { part = []; values = []; params = (record { name = r.part; values = r.values }) ∷ r.params }

abbrev pub place_behind : Place → ℕ → Place
place_behind in_name b = cond (b == 61) in_value in_name
place_behind in_value b = cond (b == 34) in_quotes (cond (b == 59) in_name in_value)
place_behind in_quotes b = cond (b == 34) in_value in_quotes

abbrev pub with_next : Place → ℕ → Remains → Remains
with_next in_name b r = cond (b == 61) (with_value r) (with_octet b r)
with_next in_value b r = cond (b == 34) r (cond (b == 59) (with_param r) (cond (b == 44) (with_value r) (with_octet b r)))
with_next in_quotes b r = cond (b == 34) r (with_octet b r)

abbrev pub remains : Place → List ℕ → Remains
remains place [] = record { part = []; values = []; params = [] }
remains place (b ∷ bs) = with_next place b (remains (place_behind place b) bs)

unfoldable pub params_in : List ℕ → List Param
params_in text = (remains in_value text).params

-- the text is that of its parameters, and each is lawful
pub record IsParamsText (text : List ℕ) : Type 0 where
  pub each : AllByRecursion IsLawfulParam (params_in text)
  pub text_is : text ≡ params_text (params_in text)
