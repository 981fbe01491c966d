-- Lines as texts, without folds and breaks, and the way back (our own form).
use Rattle.std.specs.Prelude.{◌≡◌, ℕ, Bool, false, cond, not, ◌&&◌, ◌==◌, List, [], ◌∷◌, take, drop}
use Rattle.std.specs.List.{list_any, prefix_len, AllByRecursion}
use Rattle.std.proofs.Props.{props}
use Rattle.itip_lines.specs.Lawful.{line_text, IsLawful, IsLawful-prop}
use Rattle.itip_lines.specs.Lookup.{same_text}
use Rattle.itip_lines.specs.Octets.{is_name_octet}
use Rattle.itip_lines.specs.ParamsText.{params_in}
use Rattle.itip_lines.specs.declared.line.Line.{Line}
use Rattle.itip_lines.specs.declared.line.Param.{Param}

-- there is a line of this name
abbrev pub has_line : List ℕ → List Line → Bool
has_line name lines = list_any (λ (line : Line). same_text line.name name) lines

-- what comes before the first ":" outside quotes, and what comes after it
pub record Halves : Type 0 where
  pub front : List ℕ
  pub value : List ℕ

abbrev pub with_front : ℕ → Halves → Halves
with_front b h = record { front = b ∷ h.front; value = h.value }

abbrev pub halves : Bool → List ℕ → Halves
halves quoted [] = record { front = []; value = [] }
halves quoted (b ∷ bs) =
    cond (not quoted && (b == 58)) (record { front = []; value = bs }) (with_front b (halves (cond (b == 34) (not quoted) quoted) bs))

-- the name, the parameters and the value of the line that the text is
abbrev pub name_in : List ℕ → List ℕ
name_in text = take (prefix_len is_name_octet text) text

unfoldable pub tail_in : List ℕ → Halves
tail_in text = halves false (drop (prefix_len is_name_octet text) text)

abbrev pub params_of : List ℕ → List Param
params_of text = params_in (tail_in text).front

abbrev pub value_in : List ℕ → List ℕ
value_in text = (tail_in text).value

-- the text is a lawful line
pub record IsLineText (text : List ℕ) : Type 0 where
  pub lawful : IsLawful (name_in text) (params_of text) (value_in text)
  pub text_is : text ≡ line_text (name_in text) (params_of text) (value_in text)

pub IsLineText-prop : (text : List ℕ) → IsProp (IsLineText text)
IsLineText-prop text = hlevel (props, IsLawful-prop)

abbrev pub AreLineTexts : List (List ℕ) → Type 0
AreLineTexts texts = AllByRecursion IsLineText texts

pub AreLineTexts-prop : (texts : List (List ℕ)) → IsProp (AreLineTexts texts)
AreLineTexts-prop texts = hlevel (props, IsLineText-prop)

-- the lines that the texts are
abbrev pub lines_in : (texts : List (List ℕ)) → AreLineTexts texts → List Line
lines_in [] are = []
lines_in (text ∷ texts) are =
    (record { name = name_in text; params = params_of text; value = value_in text; lawful = are.0.lawful }) ∷ lines_in texts are.1
