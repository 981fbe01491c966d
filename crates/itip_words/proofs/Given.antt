-- What follows from the value of an option.
use Rattle.std.proofs.Common.{◌≡◌, ℕ, List, Option, Some, None, refl, sym, ap₂, subst}
use Rattle.std.specs.Prelude.{IsSomeAnd}
use Rattle.std.specs.Option.{option_map}
use Rattle.std.proofs.lemmas.Option.{none-some, same_Some}

-- of the value that is given
pub given : (o : Option (List ℕ)) (text : List ℕ) (P : List ℕ → Type 0) → Some text ≡ o → P text → IsSomeAnd o P
given o text P e p = subst (λ (v : Option (List ℕ)). IsSomeAnd v P) e p

-- and back
pub of_given : (o : Option (List ℕ)) (text : List ℕ) (P : List ℕ → Type 0) → Some text ≡ o → IsSomeAnd o P → P text
of_given o text P e p = subst (λ (v : Option (List ℕ)). IsSomeAnd v P) (sym e) p

-- nothing is said of a value that isn't given
pub none_given : (o : Option (List ℕ)) (P : List ℕ → Type 0) → None ≡ o → IsSomeAnd o P → ⊥
none_given o P e p = subst (λ (v : Option (List ℕ)). IsSomeAnd v P) (sym e) p

-- what is given has both parts of one value
pub both_parts : {R B X Y : Type 0} (a : R → X) (b : R → Y) (f : B → X) (g : B → Y) (r : Option R) (o : Option B) →
    option_map a r ≡ option_map f o → option_map b r ≡ option_map (λ (p : X × Y). p.1) (option_map {U = X × Y} (λ x. (f x, g x)) o) →
    option_map {U = X × Y} (λ p. (a p, b p)) r ≡ option_map (λ x. (f x, g x)) o
both_parts a b f g None None first second = refl
both_parts a b f g None (Some x) first second = absurd (none-some (f x) first)
both_parts a b f g (Some p) None first second = absurd (none-some (a p) (sym first))
both_parts a b f g (Some p) (Some x) first second =
    ap₂ (λ left right. Some (left, right)) (same_Some (a p) (f x) first) (same_Some (b p) (g x) second)
