-- What is true of each digit of a number is true of all, and of none.
use Rattle.std.proofs.Common.{◌≡◌, ◌∙◌, ap, ℕ, ◌+◌, ◌%◌, ◌<◌, ◌^◌, Bool, true, false, ◌&&◌, ◌||◌, [], ◌∷◌, arith}
use Rattle.std.specs.Fmt.{decimal}
use Rattle.std.specs.List.{list_all, list_any}
use Rattle.std.proofs.lemmas.Fmt.{decimal_by_steps}
use Rattle.std.proofs.lemmas.List.Folds.{list_all-append, list_any-append}

pub both_true : (a b : Bool) → a ≡ true → b ≡ true → (a && b) ≡ true
both_true true b e f = f
both_true false b e f = e

neither : (a b : Bool) → a ≡ false → b ≡ false → (a || b) ≡ false
neither true b e f = e
neither false b e f = f

one_all : (p : ℕ → Bool) (b : ℕ) → p b ≡ true → list_all p (b ∷ []) ≡ true
one_all p b e = ap (λ (t : Bool). t && true) e

one_none : (p : ℕ → Bool) (b : ℕ) → p b ≡ false → list_any p (b ∷ []) ≡ false
one_none p b e = ap (λ (t : Bool). t || false) e

pub decimal_all : (p : ℕ → Bool) → ((d : ℕ) → d < 10 → p (48 + d) ≡ true) → (n : ℕ) → n < 2 ^ 64 → list_all p (decimal n) ≡ true
decimal_all p each = decimal_by_steps (λ n ds. list_all p ds ≡ true) (λ n h. one_all p (48 + n) (each n h))
    (λ n ds h before. list_all-append p ds ((48 + n % 10) ∷ []) ∙
    both_true (list_all p ds) (list_all p ((48 + n % 10) ∷ [])) before (one_all p (48 + n % 10) (each (n % 10) (omega arith))))

pub decimal_none : (p : ℕ → Bool) → ((d : ℕ) → d < 10 → p (48 + d) ≡ false) → (n : ℕ) → n < 2 ^ 64 → list_any p (decimal n) ≡ false
decimal_none p each = decimal_by_steps (λ n ds. list_any p ds ≡ false) (λ n h. one_none p (48 + n) (each n h))
    (λ n ds h before. list_any-append p ds ((48 + n % 10) ∷ []) ∙
    neither (list_any p ds) (list_any p ((48 + n % 10) ∷ [])) before (one_none p (48 + n % 10) (each (n % 10) (omega arith))))
