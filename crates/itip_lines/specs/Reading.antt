-- What a text reads as: its content lines, or why and where it is refused (RFC 5545 3.1; the limits are our own).
use Rattle.std.specs.Prelude.{◌≡◌, ℕ, ◌+◌, ◌<◌, ◌≤◌, ◌⊎◌, List, [], ◌∷◌, length, map, Some, None}
use Rattle.std.specs.Str.{IsUtf8}
use Rattle.itip_lines.specs.UnfoldedLines.{Piece, IsCutting, NumberedText, numbered_lines_of}
use Rattle.itip_lines.specs.Lawful.{line_limit}
use Rattle.itip_lines.specs.Spelling.{Spells}
use Rattle.itip_lines.specs.declared.line.Line.{Line}
use Rattle.itip_lines.specs.declared.line.NumberedLine.{NumberedLine}
use Rattle.itip_lines.specs.declared.line.Param.{Param}
use Rattle.itip_lines.specs.declared.error.LineCause.{LineCause}
use Rattle.itip_lines.specs.declared.error.LineCause.TheVariants.{TooLong, TooMany, NotUtf8, BadLine}
use Rattle.itip_lines.specs.declared.error.LineRefusal.{LineRefusal}
use Rattle.itip_lines.specs.declared.error.LineError.{LineError}
use Rattle.itip_lines.specs.declared.error.LineError.TheVariants as error

-- the maximum length of a text, in octets, and the maximum number of its lines that are not empty
abbrev pub text_limit : ℕ
text_limit = 1048576

abbrev pub count_limit : ℕ
count_limit = 20000

-- a text may be looked at as line `count`: there are not too many lines, and it is not too long
pub record IsWithinLimits (count : ℕ) (text : List ℕ) : Type 0 where
  pub few : count ≤ count_limit
  pub short : length text ≤ line_limit

-- as line `count`, the text is this line
pub record IsGood (count : ℕ) (text : List ℕ) (line : Line) : Type 0 where
  pub within : IsWithinLimits count text
  pub utf8 : IsUtf8 text
  pub spells : Spells text line.name line.params line.value

abbrev pub line_at : ℕ → Line → NumberedLine
line_at number line = record { number = number; line = line }

-- the lines without their numbers
abbrev pub plain_lines : List NumberedLine → List Line
plain_lines lines = map (λ l. l.line) lines

-- these texts, counted from `count`, are these lines, with the same numbers
abbrev pub AreLines : ℕ → List NumberedText → List NumberedLine → Type 0
AreLines count [] [] = Unit {0}
AreLines count [] (l ∷ ls) = ⊥
AreLines count (t ∷ ts) [] = ⊥
AreLines count (t ∷ ts) (l ∷ ls) = (l.number ≡ t.number) × IsGood count t.text l.line × AreLines (count + 1) ts ls

-- what is wrong with a text as line `count`: the limits come before UTF-8, and UTF-8 before the grammar
abbrev pub HasCause : ℕ → List ℕ → LineCause → Type 0
HasCause count text TooLong = ⊥
HasCause count text TooMany = (count_limit < count) ⊎ (line_limit < length text)
HasCause count text NotUtf8 = IsWithinLimits count text × ¬ (IsUtf8 text)
HasCause count text BadLine = IsWithinLimits count text × IsUtf8 text
    × ((name : List ℕ) (params : List Param) (value : List ℕ) → Spells text name params value → ⊥)

-- the refusal names this text as the place, and what is wrong with it
abbrev pub HasRefusal : ℕ → NumberedText → LineRefusal → Type 0
HasRefusal count t refusal = (refusal.line ≡ Some t.number) × HasCause count t.text refusal.cause

-- the refusal is that of the first of these texts that has a fault
abbrev pub FirstRefusal : ℕ → List NumberedText → LineRefusal → Type 0
FirstRefusal count [] refusal = ⊥
FirstRefusal count (t ∷ ts) refusal = HasRefusal count t refusal ⊎
    (((l : Line) × IsGood count t.text l) × FirstRefusal (count + 1) ts refusal)

-- these bytes are these lines, each numbered by the physical line in which it begins
pub record Reads (bytes : List ℕ) (lines : List NumberedLine) : Type 0 where
  pub pieces : List Piece
  pub last : List ℕ
  pub short : length bytes ≤ text_limit
  pub cut : IsCutting bytes pieces last
  pub lines_are : AreLines 1 (numbered_lines_of pieces last) lines

-- these bytes are these lines, wherever they begin
abbrev pub ReadsLines : List ℕ → List Line → Type 0
ReadsLines bytes lines = (numbered : List NumberedLine) × (plain_lines numbered ≡ lines) × Reads bytes numbered

-- one of the lines of these bytes is wrong, and the refusal is that of the first such line
pub record HasBadLine (bytes : List ℕ) (refusal : LineRefusal) : Type 0 where
  pub pieces : List Piece
  pub last : List ℕ
  pub short : length bytes ≤ text_limit
  pub cut : IsCutting bytes pieces last
  pub first : FirstRefusal 1 (numbered_lines_of pieces last) refusal

-- the text as a whole has too many octets, which is not the fault of any line
abbrev pub too_long : LineRefusal
too_long = record { cause = TooLong; line = None }

-- these bytes are refused, for this cause and in this place
abbrev pub Refused : List ℕ → LineRefusal → Type 0
Refused bytes refusal = ((refusal ≡ too_long) × (text_limit < length bytes)) ⊎ HasBadLine bytes refusal

-- if the error is a refusal, P holds of it; of a failed allocation nothing is said
abbrev pub IfRefused : LineError → (LineRefusal → Type 0) → Type 0
IfRefused error.NoMemory P = Unit {0}
IfRefused (error.Refused refusal) P = P refusal
