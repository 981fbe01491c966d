-- The parts of a line, as one scan from left to right cuts them off (our own form).
use Rattle.std.specs.Prelude.{◌≡◌, ℕ, Bool, false, ◌==◌, ◌||◌, IsTrue, ◌+◌, ◌<◌, List, [], ◌∷◌, ◌++◌, length}
use Rattle.std.specs.List.{list_all}
use Rattle.std.specs.Str.{IsUtf8}
use Rattle.itip_lines.specs.declared.line.Param.{Param}
use Rattle.itip_lines.specs.Octets.{is_name_octet, is_quotable_octet, is_plain_octet, is_separator}
use Rattle.itip_lines.specs.Lawful.{values_text, param_text, params_text}
use Rattle.itip_lines.specs.Spelling.{ValueThen, ValuesThen, ParamThen, IsTail, Spells}
use Rattle.itip_lines.specs.declared.grammar.Octets.{Octets}
use Rattle.itip_lines.specs.declared.grammar.Octets.TheVariants.{Name, Plain, Quotable}

abbrev pub is_of : Octets → ℕ → Bool
is_of Name = is_name_octet
is_of Plain = is_plain_octet
is_of Quotable = is_quotable_octet

-- there is a first octet, and it passes the test
abbrev pub begins : (ℕ → Bool) → List ℕ → Bool
begins test [] = false
begins test (b ∷ bs) = test b

-- `front` is the longest prefix of the text whose octets pass the test, and `rest` is left
pub record IsRun (test : ℕ → Bool) (text front rest : List ℕ) : Type 0 where
  pub whole : text ≡ front ++ rest
  pub passes : IsTrue (list_all test front)
  pub stops : begins test rest ≡ false

-- a parameter is followed by ";" or ":"; a value may also be followed by ","
abbrev pub ends_param : ℕ → Bool
ends_param b = b == 59 || b == 58

-- the text begins with `value`, in quotes, or without them and as long as it can be
pub data CutsValue (text value rest : List ℕ) : Type 0 where
  quoted : IsTrue (list_all is_quotable_octet value) → text ≡ 34 ∷ (value ++ 34 ∷ rest) → CutsValue text value rest
  plain : IsRun is_plain_octet text value rest → begins (λ b. b == 34) text ≡ false → CutsValue text value rest

-- what may follow a parameter value: ";", ":" or ","
abbrev pub EndsValue : List ℕ → Type 0
EndsValue rest = IsTrue (begins is_separator rest)

-- what may follow a parameter: ";" or ":"
abbrev pub EndsParam : List ℕ → Type 0
EndsParam rest = IsTrue (begins ends_param rest)

-- the text begins with no value that is followed by what may follow one
abbrev pub LacksValue : List ℕ → Type 0
LacksValue text = (value rest : List ℕ) → ValueThen text value rest → EndsValue rest → ⊥

-- the text begins with these values, and what may follow a parameter is left
pub record ReadsValues (text : List ℕ) (values : List (List ℕ)) (rest : List ℕ) : Type 0 where
  pub are : ValuesThen text values rest
  pub ends : EndsParam rest
  pub utf8 : IsUtf8 rest
  pub shorter : length rest < length text + 1

-- the same, and `new` is `old` followed by these values as they are written
pub record WritesValues (text rest old new : List ℕ) : Type 0 where
  pub values : List (List ℕ)
  pub reads : ReadsValues text values rest
  pub wrote : new ≡ old ++ values_text values

abbrev pub LacksValues : List ℕ → Type 0
LacksValues text = (values : List (List ℕ)) (rest : List ℕ) → ValuesThen text values rest → EndsParam rest → ⊥

pub record ReadsParam (text : List ℕ) (param : Param) (rest : List ℕ) : Type 0 where
  pub is : ParamThen text param rest
  pub ends : EndsParam rest
  pub utf8 : IsUtf8 rest
  pub shorter : length rest < length text + 1

pub record WritesParam (text rest old new : List ℕ) : Type 0 where
  pub param : Param
  pub reads : ReadsParam text param rest
  pub wrote : new ≡ old ++ param_text param

abbrev pub LacksParam : List ℕ → Type 0
LacksParam text = (param : Param) (rest : List ℕ) → ParamThen text param rest → EndsParam rest → ⊥

abbrev pub LacksTail : List ℕ → Type 0
LacksTail text = (params : List Param) (value : List ℕ) → IsTail text params value → ⊥

-- the text is a tail with this value, and its parameters are written like this
pub record WritesTail (text value wrote : List ℕ) : Type 0 where
  pub params : List Param
  pub is : IsTail text params value
  pub wrote_is : wrote ≡ params_text params

abbrev pub LacksLine : List ℕ → Type 0
LacksLine text = (name : List ℕ) (params : List Param) (value : List ℕ) → Spells text name params value → ⊥
