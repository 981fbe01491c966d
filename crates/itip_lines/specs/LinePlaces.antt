-- Where the parts of a line are in its octets without folds (our own form).
use Rattle.std.specs.Prelude.{◌≡◌, ℕ, ◌+◌, List, length}
use Rattle.std.proofs.Props.{props}
use Rattle.itip_lines.specs.Lawful.{params_text}
use Rattle.itip_lines.specs.LineTexts.{name_in, params_of, value_in, IsLineText, IsLineText-prop}
use Rattle.itip_lines.specs.declared.line.Line.{Line}

-- the line that the text is
abbrev pub line_in : (text : List ℕ) → IsLineText text → Line
line_in text is = record { name = name_in text; params = params_of text; value = value_in text; lawful = is.lawful }

-- the text is a line whose name has `name` octets and whose value begins at offset `value`
pub record IsLineAt (text : List ℕ) (name value : ℕ) : Type 0 where
  pub is_line : IsLineText text
  pub name_ends : name ≡ length (name_in text)
  pub value_begins : value ≡ length (name_in text) + length (params_text (params_of text)) + 1

pub IsLineAt-prop : (text : List ℕ) (name value : ℕ) → IsProp (IsLineAt text name value)
IsLineAt-prop text name value = hlevel (props, IsLineText-prop)
