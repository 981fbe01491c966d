-- The first line of some bytes.
use Rattle.std.proofs.Common.{◌≡◌, ℕ, suc, ◌+◌, ◌<◌, ◌≤◌, true, false, cond, eqb, List, [], ◌∷◌, length, take, drop, refl, ap, sym, arith}
use Rattle.std.proofs.Common.{not, length-take, take-append-drop}
use Rattle.std.specs.List.{onto_first, position_or_len}
use Rattle.itip_script.specs.Lines.{lines_of, line_length, IsFirstLine}

-- the first line is that many bytes
pub lines_first : (b : ℕ) (bytes : List ℕ) → lines_of (b ∷ bytes) ≡ take (line_length (b ∷ bytes)) (b ∷ bytes) ∷
    lines_of (drop (line_length (b ∷ bytes)) (b ∷ bytes))
lines_first b [] = elim (eqb b 10) as (λ t. cond t ((b ∷ []) ∷ []) ((b ∷ []) ∷ []) ≡ take (cond t 1 1) (b ∷ []) ∷
    lines_of (drop (cond t 1 1) (b ∷ []))) [ true ↦ refl | false ↦ refl ]
lines_first b (c ∷ bytes) =
    elim (eqb b 10) as (λ t. cond t ((b ∷ []) ∷ lines_of (c ∷ bytes)) (onto_first b (lines_of (c ∷ bytes))) ≡ take
    (cond t 1 (suc (line_length (c ∷ bytes)))) (b ∷ c ∷ bytes) ∷
    lines_of (drop (cond t 1 (suc (line_length (c ∷ bytes)))) (b ∷ c ∷ bytes))) [
      | true ↦ refl
      | false ↦ ap (onto_first b) (lines_first c bytes)
    ]

-- it ends at the first LF, or with the bytes
pub line_length_at : (bytes : List ℕ) → position_or_len (λ b. eqb b 10) bytes < length bytes →
    line_length bytes ≡ position_or_len (λ b. eqb b 10) bytes + 1
line_length_at [] h = absurd (omega arith)
line_length_at (b ∷ bytes) h =
    elim (eqb b 10) as (λ t. cond (not t) (1 + position_or_len (λ b. eqb b 10) bytes) 0 < suc (length bytes) →
    cond t 1 (suc (line_length bytes)) ≡ cond (not t) (1 + position_or_len (λ b. eqb b 10) bytes) 0 + 1) [
      | true ↦ λ _. refl
      | false ↦ λ lt. let e = line_length_at bytes (omega arith) in omega (arith, e)
    ] h

pub line_length_all : (bytes : List ℕ) → position_or_len (λ b. eqb b 10) bytes ≡ length bytes → line_length bytes ≡ length bytes
line_length_all [] h = refl
line_length_all (b ∷ bytes) h =
    elim (eqb b 10) as (λ t. cond (not t) (1 + position_or_len (λ b. eqb b 10) bytes) 0 ≡ suc (length bytes) →
    cond t 1 (suc (line_length bytes)) ≡ suc (length bytes)) [
      | true ↦ λ e. absurd (omega arith)
      | false ↦ λ e. let same = line_length_all bytes (omega arith) in omega (arith, same)
    ] h

pub line_length_bound : (bytes : List ℕ) → line_length bytes ≤ length bytes
line_length_bound [] = omega arith
line_length_bound (b ∷ bytes) =
    elim (eqb b 10) as (λ t. cond t 1 (suc (line_length bytes)) ≤ suc (length bytes))
    [ true ↦ omega arith | false ↦ omega (arith, line_length_bound bytes) ]

pub line_length_some : (b : ℕ) (bytes : List ℕ) → 0 < line_length (b ∷ bytes)
line_length_some b bytes = elim (eqb b 10) as (λ t. 0 < cond t 1 (suc (line_length bytes))) [ true ↦ omega arith | false ↦ omega arith ]

pub is_first_line : (bytes : List ℕ) → 0 < length bytes →
    IsFirstLine bytes (take (line_length bytes) bytes) (drop (line_length bytes) bytes)
is_first_line [] some = absurd (omega arith)
is_first_line (b ∷ bytes) some = record {
  whole = sym (take-append-drop (line_length (b ∷ bytes)) (b ∷ bytes));
  lines = lines_first b bytes;
  some = let e = length-take (line_length (b ∷ bytes)) (b ∷ bytes) in
      omega (arith, e, line_length_bound (b ∷ bytes), line_length_some b bytes);
}
