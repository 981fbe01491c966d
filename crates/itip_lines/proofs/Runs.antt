-- The longest prefix of a text that passes a test.
use Rattle.std.proofs.Common.{◌≡◌, ◌∙◌, sym, ap, refl, suc, ℕ, ◌+◌, ◌<◌, Bool, true, false, cond, List, [], ◌∷◌, ◌++◌, length}
use Rattle.std.proofs.Common.{take, drop, arith, subst}
use Rattle.std.specs.List.{list_all, prefix_len}
use Rattle.std.specs.Prelude.{◌==◌}
use Rattle.std.proofs.lemmas.Bool.{and_parts}
use Rattle.std.proofs.lemmas.Bool.Decides.{nat_tests}
use Rattle.itip_lines.specs.Parts.{IsRun, begins}

pub run_of_prefix : (test : ℕ → Bool) (text : List ℕ) →
    IsRun test text (take (prefix_len test text) text) (drop (prefix_len test text) text)
run_of_prefix test [] = record { whole = refl; passes = refl; stops = refl }
run_of_prefix test (b ∷ bs) =
    elim (test b) as (λ v. test b ≡ v → IsRun test (b ∷ bs) (take (cond v (1 + prefix_len test bs) 0) (b ∷ bs))
    (drop (cond v (1 + prefix_len test bs) 0) (b ∷ bs))) [
      | true ↦ λ h. passed h (run_of_prefix test bs)
      | false ↦ λ h. record { whole = refl; passes = refl; stops = h }
    ] refl
  where
    n : ℕ
    n = prefix_len test bs

    passed : test b ≡ true → IsRun test bs (take n bs) (drop n bs) → IsRun test (b ∷ bs) (take (1 + n) (b ∷ bs)) (drop (1 + n) (b ∷ bs))
    passed h r =
        let e : 1 + n ≡ suc n = omega arith in
        rw e (record { whole = ap (λ ys. b ∷ ys) r.whole; passes = rw h r.passes; stops = r.stops })

cons_same : (x y : ℕ) (a b : List ℕ) → x ≡ y → a ≡ b → x ∷ a ≡ y ∷ b
cons_same x y a b p q = cc

first_same : (x y : ℕ) (a b : List ℕ) → x ∷ a ≡ y ∷ b → x ≡ y
first_same x y a b e = cc

-- a run is the only one
pub one_run : (test : ℕ → Bool) (text a r b s : List ℕ) → IsRun test text a r → IsRun test text b s → (a ≡ b) × (r ≡ s)
one_run test text a r b s h k = same a r b s (sym h.whole ∙ k.whole) h.passes h.stops k.passes k.stops
  where
    same : (a r b s : List ℕ) → a ++ r ≡ b ++ s → list_all test a ≡ true → begins test r ≡ false → list_all test b ≡ true →
        begins test s ≡ false → (a ≡ b) × (r ≡ s)
    same [] r [] s e p q u w = (refl, e)
    same [] r (y ∷ b) s e p q u w =
        absurd (let t : begins test (y ∷ (b ++ s)) ≡ false = subst (λ (x : List ℕ). begins test x ≡ false) e q in grind (arith, t, u))
    same (x ∷ a) r [] s e p q u w =
        absurd (let t : begins test (x ∷ (a ++ r)) ≡ false = subst (λ (y : List ℕ). begins test y ≡ false) (sym e) w in grind (arith, t, p))
    same (x ∷ a) r (y ∷ b) s e p q u w =
        let rest : a ++ r ≡ b ++ s = cc in
        let i = same a r b s rest (and_parts _ _ p).1 q (and_parts _ _ u).1 w in
        (cons_same x y a b (first_same x y (a ++ r) (b ++ s) e) i.0, i.1)

pub empty_from_test : (text : List ℕ) → (length text == 0) ≡ true → length text ≡ 0
empty_from_test text h = grind (arith, nat_tests)

pub some_from_test : (text : List ℕ) → (length text == 0) ≡ false → 0 < length text
some_from_test text h = grind (arith, nat_tests)
