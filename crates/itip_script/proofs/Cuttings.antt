-- The physical lines of some bytes are the one cutting of them.
use Rattle.std.proofs.Common.{◌≡◌, ◌≢◌, ℕ, Bool, true, false, cond, eqb, List, [], ◌∷◌, ◌++◌, refl, sym, ap, ◌∙◌, append_assoc, arith, inl}
use Rattle.std.proofs.Common.{inr}
use Rattle.std.proofs.lemmas.Bool.{eqb-true, eqb-false, ne_eqb}
use Rattle.std.proofs.lemmas.List.{append-nil}
use Rattle.std.specs.List.{concat, onto_first}
use Rattle.itip_script.specs.Lines.{lines_of}
use Rattle.itip_script.specs.Cutting.{HasNoFeed, IsEnded, AreLines}

-- a byte that is no LF fails the test
no_feed : (b : ℕ) → b ≢ 10 → eqb b 10 ≡ false
no_feed b ne = ne_eqb b 10 ne

pub lines_of_ended : (text rest : List ℕ) → HasNoFeed text → lines_of (text ++ 10 ∷ rest) ≡ (text ++ 10 ∷ []) ∷ lines_of rest
lines_of_ended [] rest plain = refl
lines_of_ended (b ∷ text) rest plain =
    ap (λ (t : Bool). cond t ((b ∷ []) ∷ lines_of (text ++ 10 ∷ rest)) (onto_first b (lines_of (text ++ 10 ∷ rest)))) (no_feed b plain.0)
    ∙ ap (onto_first b) (lines_of_ended text rest plain.1)

pub lines_of_unended : (b : ℕ) (text : List ℕ) → HasNoFeed (b ∷ text) → lines_of (b ∷ text) ≡ (b ∷ text) ∷ []
lines_of_unended b [] plain = ap (λ (t : Bool). cond t ((b ∷ []) ∷ []) ((b ∷ []) ∷ [])) (no_feed b plain.0)
lines_of_unended b (c ∷ text) plain =
    ap (λ (t : Bool). cond t ((b ∷ []) ∷ lines_of (c ∷ text)) (onto_first b (lines_of (c ∷ text)))) (no_feed b plain.0)
    ∙ ap (onto_first b) (lines_of_unended c text plain.1)

-- a cutting of the bytes is their lines
pub lines_of-concat : (lines : List (List ℕ)) → AreLines lines → lines_of (concat lines) ≡ lines
lines_of-concat [] are = refl
lines_of-concat (line ∷ []) (inl ended) =
    ap lines_of (append-nil line ∙ ended.whole) ∙ lines_of_ended ended.text [] ended.plain ∙ ap (λ (t : List ℕ). t ∷ []) (sym ended.whole)
lines_of-concat ([] ∷ []) (inr rest) = absurd (omega (arith, rest.some))
lines_of-concat ((b ∷ text) ∷ []) (inr rest) = ap lines_of (append-nil (b ∷ text)) ∙ lines_of_unended b text rest.plain
lines_of-concat (line ∷ next ∷ lines) are =
    let ended = are.0 in
    ap (λ (t : List ℕ). lines_of (t ++ concat (next ∷ lines))) ended.whole
    ∙ ap lines_of (append_assoc ended.text (10 ∷ []) (concat (next ∷ lines)))
    ∙ lines_of_ended ended.text (concat (next ∷ lines)) ended.plain
    ∙ ap (λ (t : List ℕ). t ∷ lines_of (concat (next ∷ lines))) (sym ended.whole)
    ∙ ap (λ (t : List (List ℕ)). line ∷ t) (lines_of-concat (next ∷ lines) are.1)

concat-onto_first : (b : ℕ) (lines : List (List ℕ)) → concat (onto_first b lines) ≡ b ∷ concat lines
concat-onto_first b [] = refl
concat-onto_first b (line ∷ lines) = refl

-- the lines give the bytes back
pub concat-lines_of : (bytes : List ℕ) → concat (lines_of bytes) ≡ bytes
concat-lines_of [] = refl
concat-lines_of (b ∷ bytes) =
    elim (eqb b 10) as (λ t. concat (cond t ((b ∷ []) ∷ lines_of bytes) (onto_first b (lines_of bytes))) ≡ b ∷ bytes) [
      | true ↦ ap (λ (t : List ℕ). b ∷ t) (concat-lines_of bytes)
      | false ↦ concat-onto_first b (lines_of bytes) ∙ ap (λ (t : List ℕ). b ∷ t) (concat-lines_of bytes)
    ]

ended_before : (line : List ℕ) (lines : List (List ℕ)) → IsEnded line → AreLines lines → AreLines (line ∷ lines)
ended_before line [] ended are = inl ended
ended_before line (next ∷ lines) ended are = (ended, are)

longer : (b : ℕ) (line : List ℕ) → b ≢ 10 → IsEnded line → IsEnded (b ∷ line)
longer b line ne ended = record { text = b ∷ ended.text; plain = (ne, ended.plain); whole = ap (λ (t : List ℕ). b ∷ t) ended.whole }

are-onto_first : (b : ℕ) (lines : List (List ℕ)) → b ≢ 10 → AreLines lines → AreLines (onto_first b lines)
are-onto_first b [] ne are = inr (record { some = omega arith; plain = (ne, tt) })
are-onto_first b (line ∷ []) ne (inl ended) = inl (longer b line ne ended)
are-onto_first b (line ∷ []) ne (inr rest) = inr (record { some = omega arith; plain = (ne, rest.plain) })
are-onto_first b (line ∷ next ∷ lines) ne are = (longer b line ne are.0, are.1)

pub lines_are : (bytes : List ℕ) → AreLines (lines_of bytes)
lines_are [] = tt
lines_are (b ∷ bytes) =
    elim (eqb b 10) as (λ t. eqb b 10 ≡ t → AreLines (cond t ((b ∷ []) ∷ lines_of bytes) (onto_first b (lines_of bytes)))) [
      | true ↦ λ e. ended_before (b ∷ []) (lines_of bytes)
          (record { text = []; plain = tt; whole = ap (λ (n : ℕ). n ∷ []) (eqb-true b 10 e) }) (lines_are bytes)
      | false ↦ λ e. are-onto_first b (lines_of bytes) (eqb-false b 10 e) (lines_are bytes)
    ] refl
