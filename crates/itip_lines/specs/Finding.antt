-- How a text is found to be a line: the octets that the line is written with, and where its parts are in them (our own form).
use Rattle.std.specs.Prelude.{◌≡◌, ℕ, ◌+◌, List, length, Option, Some, None}
use Rattle.itip_lines.specs.Lawful.{params_text, line_text}
use Rattle.itip_lines.specs.Spelling.{Spells}
use Rattle.itip_lines.specs.declared.grammar.Found.{Found}
use Rattle.itip_lines.specs.declared.line.Param.{Param}
use Rattle.std.specs.declared.vec.Vec.{Vec}

-- the octets that were written anew, or else those of the text
abbrev pub or_anew : {Z : Type 0} → List ℕ → Option (Vec ℕ Z) → List ℕ
or_anew text None = text
or_anew text (Some anew) = anew.items

-- the text is a line; found are its octets as it is written, and where its name ends and its value begins
pub record IsFoundIn (text : List ℕ) (found : Found) : Type 0 where
  pub name : List ℕ
  pub params : List Param
  pub value : List ℕ
  pub spells : Spells text name params value
  pub octets_are : or_anew text found.anew ≡ line_text name params value
  pub name_ends : found.name ≡ length name
  pub value_begins : found.value ≡ length name + length (params_text params) + 1
