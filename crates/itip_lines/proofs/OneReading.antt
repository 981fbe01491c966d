-- A text has one reading or one refusal, and not both.
use Rattle.std.proofs.Common.{◌≡◌, ◌∙◌, sym, ap, refl, ℕ, ◌+◌, ◌<◌, List, [], ◌∷◌, length, arith, subst, inl, inr, ◌⊎◌}
use Rattle.std.specs.Prelude.{◌↔◌, Option, Some, None}
use Rattle.itip_lines.specs.UnfoldedLines.{Piece, IsCutting, NumberedText, numbered_lines_of}
use Rattle.itip_lines.specs.Lawful.{line_limit}
use Rattle.itip_lines.specs.Reading.{count_limit, IsWithinLimits, IsGood, plain_lines, AreLines, HasCause, HasRefusal, FirstRefusal, Reads}
use Rattle.itip_lines.specs.Reading.{ReadsLines, Refused}
use Rattle.itip_lines.specs.declared.line.Line.{Line}
use Rattle.itip_lines.specs.declared.line.NumberedLine.{NumberedLine}
use Rattle.itip_lines.specs.declared.error.LineCause.{LineCause}
use Rattle.itip_lines.specs.declared.error.LineCause.TheVariants.{TooLong, TooMany, NotUtf8, BadLine}
use Rattle.itip_lines.specs.declared.error.LineRefusal.{LineRefusal}
use Rattle.itip_lines.proofs.SameLine.{same_line, same_numbered}
use Rattle.itip_lines.proofs.Lines.{one_spelling}
use Rattle.itip_lines.proofs.Cuttings.{numbered_of_cut}

one_good : (n : ℕ) (text : List ℕ) (l m : Line) → IsGood n text l → IsGood n text m → l ≡ m
one_good n text l m h k =
    let one = one_spelling text l.name l.params l.value m.name m.params m.value h.spells k.spells in
    same_line l m one.0 one.1 one.2

same_lines : (n : ℕ) (ts : List NumberedText) (ls ms : List NumberedLine) → AreLines n ts ls → AreLines n ts ms → ls ≡ ms
same_lines n [] [] [] h k = refl
same_lines n [] [] (m ∷ ms) h k = absurd k
same_lines n [] (l ∷ ls) ms h k = absurd h
same_lines n (t ∷ ts) [] ms h k = absurd h
same_lines n (t ∷ ts) (l ∷ ls) [] h k = absurd k
same_lines n (t ∷ ts) (l ∷ ls) (m ∷ ms) h k =
    ap (λ (x : NumberedLine). x ∷ ls) (same_numbered l m (h.0 ∙ sym k.0) (one_good n t.text l.line m.line h.1 k.1)) ∙
    ap (λ (xs : List NumberedLine). m ∷ xs) (same_lines (n + 1) ts ls ms h.2 k.2)

beyond : (n : ℕ) (text : List ℕ) → IsWithinLimits n text → ((count_limit < n) ⊎ (line_limit < length text)) → ⊥
beyond n text within (inl h) = absurd (omega (arith, h, within.few))
beyond n text within (inr h) = absurd (omega (arith, h, within.short))

good_cause : (n : ℕ) (text : List ℕ) (l : Line) (cause : LineCause) → IsGood n text l → HasCause n text cause → ⊥
good_cause n text l TooLong h k = k
good_cause n text l TooMany h k = beyond n text h.within k
good_cause n text l NotUtf8 h k = k.1 h.utf8
good_cause n text l BadLine h k = k.2 l.name l.params l.value h.spells

one_cause : (n : ℕ) (text : List ℕ) (a b : LineCause) → HasCause n text a → HasCause n text b → a ≡ b
one_cause n text TooLong b h k = absurd h
one_cause n text TooMany TooLong h k = absurd k
one_cause n text TooMany TooMany h k = refl
one_cause n text TooMany NotUtf8 h k = absurd (beyond n text k.0 h)
one_cause n text TooMany BadLine h k = absurd (beyond n text k.0 h)
one_cause n text NotUtf8 TooLong h k = absurd k
one_cause n text NotUtf8 TooMany h k = absurd (beyond n text h.0 k)
one_cause n text NotUtf8 NotUtf8 h k = refl
one_cause n text NotUtf8 BadLine h k = absurd (h.1 k.1)
one_cause n text BadLine TooLong h k = absurd k
one_cause n text BadLine TooMany h k = absurd (beyond n text h.0 k)
one_cause n text BadLine NotUtf8 h k = absurd (k.1 h.1)
one_cause n text BadLine BadLine h k = refl

one_refusal_of : (n : ℕ) (t : NumberedText) (r s : LineRefusal) → HasRefusal n t r → HasRefusal n t s → r ≡ s
one_refusal_of n t r s h k = λ i. record { cause = one_cause n t.text r.cause s.cause h.1 k.1 i; line = (h.0 ∙ sym k.0) i }

apart_lines : (n : ℕ) (ts : List NumberedText) (ls : List NumberedLine) (r : LineRefusal) → AreLines n ts ls → FirstRefusal n ts r → ⊥
apart_lines n [] ls r h k = k
apart_lines n (t ∷ ts) [] r h k = h
apart_lines n (t ∷ ts) (l ∷ ls) r h (inl k) = good_cause n t.text l.line r.cause h.1 k.1
apart_lines n (t ∷ ts) (l ∷ ls) r h (inr k) = apart_lines (n + 1) ts ls r h.2 k.1

one_first : (n : ℕ) (ts : List NumberedText) (r s : LineRefusal) → FirstRefusal n ts r → FirstRefusal n ts s → r ≡ s
one_first n [] r s h k = absurd h
one_first n (t ∷ ts) r s (inl h) (inl k) = one_refusal_of n t r s h k
one_first n (t ∷ ts) r s (inl h) (inr k) = absurd (good_cause n t.text k.0.0 r.cause k.0.1 h.1)
one_first n (t ∷ ts) r s (inr h) (inl k) = absurd (good_cause n t.text h.0.0 s.cause h.0.1 k.1)
one_first n (t ∷ ts) r s (inr h) (inr k) = one_first (n + 1) ts r s h.1 k.1

-- the lines of two cuttings of one text
same_cut : (bytes : List ℕ) (ps : List Piece) (l : List ℕ) (qs : List Piece) (m : List ℕ) → IsCutting bytes ps l → IsCutting bytes qs m →
    numbered_lines_of ps l ≡ numbered_lines_of qs m
same_cut bytes ps l qs m h k = numbered_of_cut bytes ps l h ∙ sym (numbered_of_cut bytes qs m k)

-- a text is read as one list of lines
pub one_reading : (bytes : List ℕ) (lines others : List NumberedLine) → Reads bytes lines → Reads bytes others → lines ≡ others
one_reading bytes lines others h k =
    same_lines 1 _ lines others h.lines_are (subst (λ (ts : List NumberedText). AreLines 1 ts others)
    (same_cut bytes k.pieces k.last h.pieces h.last k.cut h.cut) k.lines_are)

pub one_plain_reading : (bytes : List ℕ) (lines others : List Line) → ReadsLines bytes lines → ReadsLines bytes others → lines ≡ others
one_plain_reading bytes lines others h k = sym h.1 ∙ ap plain_lines (one_reading bytes h.0 k.0 h.2 k.2) ∙ k.1

-- what is read is not refused
pub reading_apart : (bytes : List ℕ) (lines : List NumberedLine) (refusal : LineRefusal) → Reads bytes lines → Refused bytes refusal → ⊥
reading_apart bytes lines refusal h (inl k) = absurd (omega (arith, h.short, k.1))
reading_apart bytes lines refusal h (inr k) =
    apart_lines 1 _ lines refusal h.lines_are (subst (λ (ts : List NumberedText). FirstRefusal 1 ts refusal)
    (same_cut bytes k.pieces k.last h.pieces h.last k.cut h.cut) k.first)

-- a text has one refusal
pub one_refusal : (bytes : List ℕ) (refusal other : LineRefusal) → Refused bytes refusal → Refused bytes other → refusal ≡ other
one_refusal bytes refusal other (inl h) (inl k) = h.0 ∙ sym k.0
one_refusal bytes refusal other (inl h) (inr k) = absurd (omega (arith, h.1, k.short))
one_refusal bytes refusal other (inr h) (inl k) = absurd (omega (arith, k.1, h.short))
one_refusal bytes refusal other (inr h) (inr k) =
    one_first 1 _ refusal other h.first (subst (λ (ts : List NumberedText). FirstRefusal 1 ts other)
    (same_cut bytes k.pieces k.last h.pieces h.last k.cut h.cut) k.first)

-- a line is named unless the text has too many octets
some_is_not_none : (n : ℕ) (line : Option ℕ) → line ≡ Some n → line ≡ None → ⊥
some_is_not_none n line p q = let e : Some n ≡ None = sym p ∙ q in cc

first_named : (n : ℕ) (ts : List NumberedText) (r : LineRefusal) → FirstRefusal n ts r → (r.line ≡ None) ↔ (r.cause ≡ TooLong)
first_named n [] r h = absurd h
first_named n (t ∷ ts) r (inl h) =
    (λ e. absurd (some_is_not_none t.number r.line h.0 e), λ e. absurd (subst (λ (cause : LineCause). HasCause n t.text cause) e h.1))
first_named n (t ∷ ts) r (inr h) = first_named (n + 1) ts r h.1

pub refusal_place : (bytes : List ℕ) (refusal : LineRefusal) → Refused bytes refusal → (refusal.line ≡ None) ↔ (refusal.cause ≡ TooLong)
refusal_place bytes refusal (inl h) = (λ e. ap (λ (r : LineRefusal). r.cause) h.0, λ e. ap (λ (r : LineRefusal). r.line) h.0)
refusal_place bytes refusal (inr h) = first_named 1 _ refusal h.first
