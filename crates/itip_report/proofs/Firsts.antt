-- Each text where it first appears.
use Rattle.std.proofs.Common.{◌≡◌, ℕ, List, [], ◌∷◌, ◌++◌, refl, sym, ◌∙◌, ap, Bool, true, false, append-nil}
use Rattle.std.specs.Prelude.{not, cond, ◌||◌}
use Rattle.std.specs.List.{filter, list_any}
use Rattle.std.specs.Cmp.{eq_by_cmp_equiv}
use Rattle.std.proofs.lemmas.Cmp.{nat_list_cmp_total}
use Rattle.std.proofs.lemmas.List.Elements.{filter-append}
use Rattle.std.proofs.lemmas.Map.Lookups.{exact_bytes}
use Rattle.std.proofs.lemmas.Map.Views.{tells_apart}
use Rattle.itip_state.proofs.Members.{by_bool}
use Rattle.itip_report.specs.Load.{same_text, firsts}

pub same_is : (a b : List ℕ) → same_text a b ≡ true → a ≡ b
same_is a b e = tells_apart exact_bytes a b e

pub same_itself : (a : List ℕ) → same_text a a ≡ true
same_itself a = (eq_by_cmp_equiv nat_list_cmp_total).refl a

pub same_back : (a b : List ℕ) → same_text a b ≡ same_text b a
same_back a b = (eq_by_cmp_equiv nat_list_cmp_total).symm a b

pub any_push : {X : Type 0} (t : X → Bool) (xs : List X) (x : X) → list_any t (xs ++ x ∷ []) ≡ (list_any t xs || t x)
any_push t [] x = elim (t x) as (λ b. (b || false) ≡ b) [ true ↦ refl | false ↦ refl ]
any_push t (y ∷ ys) x =
    elim (t y) as (λ b. (b || list_any t (ys ++ x ∷ [])) ≡ ((b || list_any t ys) || t x)) [ true ↦ refl | false ↦ any_push t ys x ]

pub neither : (a b : Bool) → (a || b) ≡ false → (a ≡ false) × (b ≡ false)
neither true b e = cc
neither false b e = (refl, e)

left_out : (x k : List ℕ) → same_text x k ≡ true → filter (λ y. not (same_text x y)) (k ∷ []) ≡ []
left_out x k e = ap (λ b. cond (not b) (k ∷ []) []) e

left_in : (x k : List ℕ) → same_text x k ≡ false → filter (λ y. not (same_text x y)) (k ∷ []) ≡ k ∷ []
left_in x k e = ap (λ b. cond (not b) (k ∷ []) []) e

pub firsts_new : (xs : List (List ℕ)) (k : List ℕ) → list_any (same_text k) xs ≡ false → firsts (xs ++ k ∷ []) ≡ firsts xs ++ k ∷ []
unfolding firsts
firsts_new [] k e = refl
firsts_new (x ∷ xs) k e =
    let parts = neither (same_text k x) (list_any (same_text k) xs) e in
    ap (λ ys. x ∷ ys)
    (ap (filter (λ y. not (same_text x y))) (firsts_new xs k parts.1)
    ∙ filter-append (λ y. not (same_text x y)) (firsts xs) (k ∷ [])
    ∙ ap (λ ys. filter (λ y. not (same_text x y)) (firsts xs) ++ ys) (left_in x k (same_back x k ∙ parts.0)))

pub firsts_old : (xs : List (List ℕ)) (k : List ℕ) → list_any (same_text k) xs ≡ true → firsts (xs ++ k ∷ []) ≡ firsts xs
unfolding firsts
firsts_old [] k e = let x : false ≡ true = e in absurd (cc)
firsts_old (x ∷ xs) k e =
    by_bool (list_any (same_text k) xs) (firsts ((x ∷ xs) ++ k ∷ []) ≡ firsts (x ∷ xs))
    (λ again. ap (λ ys. x ∷ filter (λ y. not (same_text x y)) ys) (firsts_old xs k again))
    (λ new.
    let same : same_text x k ≡ true = same_back x k ∙ first_same (same_text k x) (list_any (same_text k) xs) e new in
    ap (λ ys. x ∷ ys)
    (ap (filter (λ y. not (same_text x y))) (firsts_new xs k new)
    ∙ filter-append (λ y. not (same_text x y)) (firsts xs) (k ∷ [])
    ∙ ap (λ ys. filter (λ y. not (same_text x y)) (firsts xs) ++ ys) (left_out x k same)
    ∙ append-nil (filter (λ y. not (same_text x y)) (firsts xs))))
  where
    first_same : (a b : Bool) → (a || b) ≡ true → b ≡ false → a ≡ true
    first_same true b e f = refl
    first_same false b e f = absurd (let x : true ≡ false = sym e ∙ f in cc)

-- what is the same as a left out text is not the same as k
any_filter : (x k : List ℕ) (ys : List (List ℕ)) → same_text k x ≡ false →
    list_any (same_text k) (filter (λ y. not (same_text x y)) ys) ≡ list_any (same_text k) ys
any_filter x k [] e = refl
any_filter x k (y ∷ ys) e =
    by_bool (same_text x y) (list_any (same_text k) (filter (λ z. not (same_text x z)) (y ∷ ys)) ≡ list_any (same_text k) (y ∷ ys))
    (λ same.
    let away : same_text k y ≡ false = ap (same_text k) (sym (same_is x y same)) ∙ e in
    ap (λ b. list_any (same_text k) (cond (not b) (y ∷ filter (λ z. not (same_text x z)) ys) (filter (λ z. not (same_text x z)) ys))) same
    ∙ any_filter x k ys e ∙ ap (λ b. b || list_any (same_text k) ys) (sym away))
    (λ apart.
    ap (λ b. list_any (same_text k) (cond (not b) (y ∷ filter (λ z. not (same_text x z)) ys) (filter (λ z. not (same_text x z)) ys))) apart
    ∙ ap (λ b. same_text k y || b) (any_filter x k ys e))

pub any_firsts : (k : List ℕ) (xs : List (List ℕ)) → list_any (same_text k) (firsts xs) ≡ list_any (same_text k) xs
unfolding firsts
any_firsts k [] = refl
any_firsts k (x ∷ xs) = by_bool (same_text k x) (list_any (same_text k) (firsts (x ∷ xs)) ≡ list_any (same_text k) (x ∷ xs))
    (λ same. ap (λ b. b || list_any (same_text k) (filter (λ y. not (same_text x y)) (firsts xs))) same ∙
    ap (λ b. b || list_any (same_text k) xs) (sym same))
    (λ apart. ap (λ b. same_text k x || b) (any_filter x k (firsts xs) apart ∙ any_firsts k xs))
