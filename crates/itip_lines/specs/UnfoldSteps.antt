-- What a scan has found at the end of a stretch (our own form).
use Rattle.std.specs.Prelude.{◌≡◌, ◌<◌, ◌≤◌, ◌⊎◌, ◌++◌, ℕ, ◌+◌, Option, Some, None, List, [], ◌∷◌, length}
use Rattle.std.specs.List.{AllByRecursion}
use Rattle.std.specs.Str.{IsUtf8}
use Rattle.itip_lines.specs.UnfoldedLines.{NumberedText, text_at}
use Rattle.itip_lines.specs.Stretches.{texts_onto, texts_behind}
use Rattle.itip_lines.specs.declared.unfold.End.{End}
use Rattle.itip_lines.specs.declared.unfold.End.TheVariants as ends
use Rattle.itip_lines.specs.declared.unfold.Rest.{Rest}
use Rattle.itip_lines.specs.declared.line.NumberedLine.{NumberedLine}
use Rattle.itip_lines.specs.declared.error.LineRefusal.{LineRefusal}
use Rattle.itip_lines.specs.Reading.{IsGood, HasRefusal}

-- the unfolded lines that begin with this one, which began in stretch `at` and ends like this
abbrev pub texts_by : ℕ → List ℕ → End → List NumberedText
texts_by at line (ends.Fold more) = texts_onto at line more.number more.text.now
texts_by at line (ends.Line rest) = text_at at line ∷ texts_behind rest

-- how much is left to read: one more than the octets after a break, or 0 if there was none
abbrev pub left_behind : Option Rest → ℕ
left_behind None = 0
left_behind (Some rest) = length rest.text.now + 1

abbrev pub left_by : End → ℕ
left_by (ends.Fold more) = length more.text.now + 1
left_by (ends.Line rest) = left_behind rest

-- no physical line of the rest has a higher number: an octet precedes each but the first
abbrev pub last_number : Rest → ℕ
last_number rest = rest.number + length rest.text.now

abbrev pub last_behind : Option Rest → ℕ
last_behind None = 0
last_behind (Some rest) = last_number rest

abbrev pub last_by : End → ℕ
last_by (ends.Fold more) = last_number more
last_by (ends.Line rest) = last_behind rest

-- the highest line number in a text within its limit
abbrev pub number_limit : ℕ
number_limit = 1048577

-- each of the lines is UTF-8
abbrev pub AreUtf8 : List NumberedText → Type 0
AreUtf8 texts = AllByRecursion (λ t. IsUtf8 t.text) texts

-- the line was read and appended, with its number, or it is empty and was left out
abbrev pub PushesLine : List NumberedLine → NumberedText → List NumberedLine → Type 0
PushesLine old t new =
    ((length t.text ≡ 0) × (new ≡ old))
    ⊎ ((0 < length t.text) × ((l : NumberedLine) × (new ≡ old ++ l ∷ []) × (l.number ≡ t.number) × IsGood (length old + 1) t.text l.line))

-- the first unfolded line of `left` was read, and `rest` is left
pub record ReadsNext (left : Rest) (old new : List NumberedLine) (rest : Option Rest) : Type 0 where
  pub line : List ℕ
  pub first : texts_behind (Some left) ≡ text_at left.number line ∷ texts_behind rest
  pub pushes : PushesLine old (text_at left.number line) new
  pub shorter : left_behind rest < length left.text.now + 1
  pub within : last_behind rest ≤ last_number left

-- the first unfolded line of `left` has this refusal
pub record HasNextRefusal (left : Rest) (old : List NumberedLine) (refusal : LineRefusal) : Type 0 where
  pub line : List ℕ
  pub others : List NumberedText
  pub first : texts_behind (Some left) ≡ text_at left.number line ∷ others
  pub some : 0 < length line
  pub is : HasRefusal (length old + 1) (text_at left.number line) refusal
