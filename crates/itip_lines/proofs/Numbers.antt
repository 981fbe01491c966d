-- Numbered lines without their numbers are the lines.
use Rattle.std.proofs.Common.{◌≡◌, ◌∙◌, ap, refl, ℕ, ◌+◌, true, false, cond, List, [], ◌∷◌, ◌++◌}
use Rattle.itip_lines.specs.UnfoldedLines.{Piece, NumberedText, text_at, texts_of, has_octets, with_octets}
use Rattle.itip_lines.specs.UnfoldedLines.{stretches, unfolded, unfolded_onto}
use Rattle.itip_lines.specs.UnfoldedLines.{numbered, numbered_onto, is_blank, without_empty, lines_of, numbered_lines_of}
use Rattle.itip_lines.specs.Stretches.{stretches_of, lines_onto, onto_stretches, numbered_stretches, texts_onto}

onto_plain : (at : ℕ) (line : List ℕ) (next : ℕ) (cs : List (List ℕ)) → texts_of (numbered_onto at line next cs) ≡ unfolded_onto line cs
onto_plain at line next [] = refl
onto_plain at line next ([] ∷ cs) = ap (λ ls. line ∷ ls) (onto_plain next [] (next + 1) cs)
onto_plain at line next ((b ∷ c) ∷ cs) =
    elim (is_blank b) as (λ v. texts_of (cond v (numbered_onto at (line ++ c) (next + 1) cs) (text_at at line ∷
    numbered_onto next (b ∷ c) (next + 1) cs)) ≡ cond v (unfolded_onto (line ++ c) cs) (line ∷ unfolded_onto (b ∷ c) cs)) [
      | true ↦ onto_plain at (line ++ c) (next + 1) cs
      | false ↦ ap (λ ls. line ∷ ls) (onto_plain next (b ∷ c) (next + 1) cs)
    ]

-- leaving out the empty ones first is the same
octets_plain : (ts : List NumberedText) → texts_of (with_octets ts) ≡ without_empty (texts_of ts)
octets_plain [] = refl
octets_plain (t ∷ ts) = first t.number t.text (with_octets ts) (texts_of ts) (octets_plain ts)
  where
    first : (n : ℕ) (text : List ℕ) (kept : List NumberedText) (ls : List (List ℕ)) → texts_of kept ≡ without_empty ls →
        texts_of (cond (has_octets text) (text_at n text ∷ kept) kept) ≡ without_empty (text ∷ ls)
    first n [] kept ls e = e
    first n (b ∷ text) kept ls e = ap (λ xs. (b ∷ text) ∷ xs) e

pub lines_plain : (pieces : List Piece) (last : List ℕ) → texts_of (numbered_lines_of pieces last) ≡ lines_of pieces last
lines_plain pieces last = octets_plain (numbered (stretches pieces last)) ∙ ap without_empty (all (stretches pieces last))
  where
    all : (cs : List (List ℕ)) → texts_of (numbered cs) ≡ unfolded cs
    all [] = refl
    all (c ∷ cs) = onto_plain 1 c 2 cs

-- the same of a text that is gone through
pub texts_plain : (at : ℕ) (line : List ℕ) (here : ℕ) (text : List ℕ) → texts_of (texts_onto at line here text) ≡ lines_onto line text
unfolding texts_onto lines_onto
texts_plain at line here text = all (stretches_of text)
  where
    all : (cs : List (List ℕ)) → texts_of (numbered_stretches at line here cs) ≡ onto_stretches line cs
    all [] = refl
    all (c ∷ cs) = onto_plain at (line ++ c) (here + 1) cs

-- a line has the number of the stretch in which it began
pub begins_at : (at : ℕ) (line : List ℕ) (next : ℕ) (cs : List (List ℕ)) → (first : List ℕ) × (others : List NumberedText) ×
    (numbered_onto at line next cs ≡ text_at at first ∷ others)
begins_at at line next [] = (line, [], refl)
begins_at at line next ([] ∷ cs) = (line, numbered_onto next [] (next + 1) cs, refl)
begins_at at line next ((b ∷ c) ∷ cs) =
    elim (is_blank b) as (λ v. (first : List ℕ) × (others : List NumberedText) ×
    (cond v (numbered_onto at (line ++ c) (next + 1) cs) (text_at at line ∷ numbered_onto next (b ∷ c) (next + 1) cs) ≡ text_at at
    first ∷ others)) [
      | true ↦ begins_at at (line ++ c) (next + 1) cs
      | false ↦ (line, numbered_onto next (b ∷ c) (next + 1) cs, refl)
    ]
