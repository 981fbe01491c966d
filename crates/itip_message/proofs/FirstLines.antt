-- The first line of some bytes.
use Rattle.std.proofs.Common.{◌≡◌, ℕ, suc, ◌<◌, ◌≤◌, true, false, cond, List, [], ◌∷◌, length, take, drop, refl, ap, sym, arith}
use Rattle.std.proofs.Common.{length-take, take-append-drop}
use Rattle.std.specs.List.{onto_first}
use Rattle.itip_message.specs.Scanned.{lines_of, line_length, ends_line}
use Rattle.itip_message.specs.Passing.{IsFirstLine}

-- the first line is that many bytes
pub lines_first : (b : ℕ) (bytes : List ℕ) → lines_of (b ∷ bytes) ≡ take (line_length (b ∷ bytes)) (b ∷ bytes) ∷
    lines_of (drop (line_length (b ∷ bytes)) (b ∷ bytes))
lines_first b [] = elim (ends_line b []) as (λ t. cond t ((b ∷ []) ∷ []) ((b ∷ []) ∷ []) ≡ take (cond t 1 1) (b ∷ []) ∷
    lines_of (drop (cond t 1 1) (b ∷ []))) [ true ↦ refl | false ↦ refl ]
lines_first b (c ∷ bytes) =
    elim (ends_line b (c ∷ bytes)) as (λ t. cond t ((b ∷ []) ∷ lines_of (c ∷ bytes)) (onto_first b (lines_of (c ∷ bytes))) ≡ take
    (cond t 1 (suc (line_length (c ∷ bytes)))) (b ∷ c ∷ bytes) ∷
    lines_of (drop (cond t 1 (suc (line_length (c ∷ bytes)))) (b ∷ c ∷ bytes))) [
      | true ↦ refl
      | false ↦ ap (onto_first b) (lines_first c bytes)
    ]

pub line_length_some : (b : ℕ) (bytes : List ℕ) → 0 < line_length (b ∷ bytes)
line_length_some b bytes =
    elim (ends_line b bytes) as (λ t. 0 < cond t 1 (suc (line_length bytes))) [ true ↦ omega arith | false ↦ omega arith ]

pub line_length_bound : (bytes : List ℕ) → line_length bytes ≤ length bytes
line_length_bound [] = omega arith
line_length_bound (b ∷ bytes) =
    elim (ends_line b bytes) as (λ t. cond t 1 (suc (line_length bytes)) ≤ suc (length bytes))
    [ true ↦ omega arith | false ↦ omega (arith, line_length_bound bytes) ]

pub is_first_line : (bytes : List ℕ) → 0 < length bytes →
    IsFirstLine bytes (take (line_length bytes) bytes) (drop (line_length bytes) bytes)
is_first_line [] some = absurd (omega arith)
is_first_line (b ∷ bytes) some = record {
  whole = sym (take-append-drop (line_length (b ∷ bytes)) (b ∷ bytes));
  lines = lines_first b bytes;
  some = let e = length-take (line_length (b ∷ bytes)) (b ∷ bytes) in
      omega (arith, e, line_length_bound (b ∷ bytes), line_length_some b bytes);
}
