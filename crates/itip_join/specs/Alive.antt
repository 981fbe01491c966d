-- A test that holds has one proof, so two values that carry this proof are equal if they are equal without it (our own form).
use Rattle.std.specs.Prelude.{◌≡◌, Bool, true, false, ◌&&◌}
use mathlib.Core.Path.{PathP}
use mathlib.Core.HLevel.{is_prop→PathP}
use mathlib.Core.Bool.{Bool-set}

abbrev pub passes_along : {S M : Type 0} (test : S → M → Bool) {s t : S} {m n : M} (p : s ≡ t) (q : m ≡ n) (a : test s m ≡ true)
    (b : test t n ≡ true)
    → PathP (λ i. test (p i) (q i) ≡ true) a b
passes_along test p q a b = is_prop→PathP (λ i. test (p i) (q i) ≡ true) (λ i. Bool-set (test (p i) (q i)) true) a b

-- two tests that both hold
pub first_of_both : (a b : Bool) → (a && b) ≡ true → a ≡ true
first_of_both true b e = let r : true ≡ true = cc in r
first_of_both false b e = absurd (cc)

pub second_of_both : (a b : Bool) → (a && b) ≡ true → b ≡ true
second_of_both true b e = e
second_of_both false b e = absurd (cc)
