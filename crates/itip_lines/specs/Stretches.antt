-- The stretches and lines of a text from a given place on, computed: what one scan finds (our own form).
use Rattle.std.specs.Prelude.{◌≡◌, ◌≢◌, ◌⊎◌, false, IsTrue, ℕ, ◌+◌, cond, ◌==◌, Option, Some, None, List, [], ◌∷◌, ◌++◌, length}
use Rattle.std.specs.List.{slice_split}
use Rattle.itip_lines.specs.UnfoldedLines.{NumberedText, numbered_onto, unfolded_onto, is_blank, with_octets}
use Rattle.itip_lines.specs.Reading.{AreLines}
use Rattle.itip_lines.specs.declared.line.NumberedLine.{NumberedLine}
use Rattle.itip_lines.specs.declared.unfold.Rest.{Rest}
use denote.Ref.{Bor}

-- a stretch before LF, without the CR of its break
abbrev pub without_cr : List ℕ → List ℕ
without_cr [] = []
without_cr (b ∷ []) = cond (b == 13) [] (b ∷ [])
without_cr (b ∷ (c ∷ bs)) = b ∷ without_cr (c ∷ bs)

-- `front` is the stretch without a CR at its end
abbrev pub StripsCr : List ℕ → List ℕ → Type 0
StripsCr stretch front = (stretch ≡ front ++ 13 ∷ []) ⊎ ((stretch ≡ front) × ((other : List ℕ) → stretch ≢ other ++ 13 ∷ []))

-- the text begins with a blank, or it does not
abbrev pub BeginsWithBlank : List ℕ → List ℕ → Type 0
BeginsWithBlank text more = (b : ℕ) × (text ≡ b ∷ more) × IsTrue (is_blank b)

abbrev pub LacksBlank : List ℕ → Type 0
LacksBlank text = (b : ℕ) (more : List ℕ) → text ≡ b ∷ more → is_blank b ≡ false

abbrev pub without_crs : List (List ℕ) → List (List ℕ)
without_crs [] = []
without_crs (c ∷ []) = c ∷ []
without_crs (c ∷ (d ∷ ds)) = without_cr c ∷ without_crs (d ∷ ds)

unfoldable pub stretches_of : List ℕ → List (List ℕ)
stretches_of text = without_crs (slice_split (λ b. b == 10) text)

-- the stretches after a break, if there was one
abbrev pub stretches_behind : Option (Bor (List ℕ)) → List (List ℕ)
stretches_behind None = []
stretches_behind (Some rest) = stretches_of rest.now

-- one more than the octets after a break, or 0 if there was none
abbrev pub length_behind : Option (Bor (List ℕ)) → ℕ
length_behind None = 0
length_behind (Some rest) = length rest.now + 1

-- the unfolded lines of these stretches, the first of which continues this line
abbrev pub onto_stretches : List ℕ → List (List ℕ) → List (List ℕ)
onto_stretches line [] = []
onto_stretches line (c ∷ cs) = unfolded_onto (line ++ c) cs

-- the unfolded lines of a text whose first stretch continues this line
unfoldable pub lines_onto : List ℕ → List ℕ → List (List ℕ)
lines_onto line text = onto_stretches line (stretches_of text)

-- The same, numbered: the first stretch has the number `here`, and continues this line, which began in stretch `at`.
abbrev pub numbered_stretches : ℕ → List ℕ → ℕ → List (List ℕ) → List NumberedText
numbered_stretches at line here [] = []
numbered_stretches at line here (c ∷ cs) = numbered_onto at (line ++ c) (here + 1) cs

unfoldable pub texts_onto : ℕ → List ℕ → ℕ → List ℕ → List NumberedText
texts_onto at line here text = numbered_stretches at line here (stretches_of text)

-- the unfolded lines of what is left after a break, if there was one
abbrev pub texts_behind : Option Rest → List NumberedText
texts_behind None = []
texts_behind (Some rest) = texts_onto rest.number [] rest.number rest.text.now

-- `lines` are the lines of the text as far as it was read, and `rest` is left
pub record HasRead (text : List ℕ) (lines : List NumberedLine) (rest : Option Rest) : Type 0 where
  pub done : List NumberedText
  pub all : with_octets (texts_onto 1 [] 1 text) ≡ done ++ with_octets (texts_behind rest)
  pub are : AreLines 1 done lines
