-- What follows from the order alone: a fold of joins is the least value that tells what its values tell.
use Rattle.std.proofs.Common.{◌≡◌, sym, subst, refl, List, [], ◌∷◌, ◌++◌, inl, inr, arith}
use Rattle.std.specs.Prelude.{◌⊎◌}
use Rattle.std.specs.List.{Contains}
use Rattle.std.proofs.lemmas.List.Elements.{Contains-append_left, Contains-append_right, Contains-push, Contains-append_cases}
use Rattle.std.proofs.lemmas.List.Elements.{Contains-push_cases}
use Rattle.itip_join.specs.Bounds.{IsJoinOf, IsFoldOfJoins, HaveSameMembers}

module _ {T : Type 0} where
  none_in_nothing : (y : T) → Contains [] y → ⊥
  none_in_nothing y c = absurd (omega (arith, c.1))

  contains_head : (x : T) (xs : List T) → Contains (x ∷ xs) x
  contains_head x xs = Contains-append_left (x ∷ []) xs x (Contains-push [] x)

  contains_tail : (x : T) (xs : List T) (y : T) → Contains xs y → Contains (x ∷ xs) y
  contains_tail x xs y c = Contains-append_right (x ∷ []) xs y c

  contains_cases : (x : T) (xs : List T) (y : T) → Contains (x ∷ xs) y → (x ≡ y) ⊎ Contains xs y
  contains_cases x xs y c = by (Contains-append_cases (x ∷ []) xs y c)
    where
      only : Contains [] y ⊎ (x ≡ y) → x ≡ y
      only (inl n) = absurd (none_in_nothing y n)
      only (inr e) = e

      by : Contains (x ∷ []) y ⊎ Contains xs y → (x ≡ y) ⊎ Contains xs y
      by (inl h) = inl (only (Contains-push_cases [] x y h))
      by (inr h) = inr h

-- the laws of an order
pub record IsOrder {T : Type 0} (le : T → T → Type 0) : Type 0 where
  pub reflexive : (x : T) → le x x
  pub transitive : (x y z : T) → le x y → le y z → le x z
  pub antisymmetric : (x y : T) → le x y → le y x → x ≡ y

module _ {T : Type 0} {le : T → T → Type 0} (o : IsOrder le) where
  -- there is only one least upper bound
  pub one_join : (x y z w : T) → IsJoinOf le x y z → IsJoinOf le x y w → z ≡ w
  one_join x y z w j k = o.antisymmetric z w (j.least w k.above_first k.above_second) (k.least z j.above_first j.above_second)

  pub join_commutes : (x y z w : T) → IsJoinOf le x y z → IsJoinOf le y x w → z ≡ w
  join_commutes x y z w j k = o.antisymmetric z w (j.least w k.above_second k.above_first) (k.least z j.above_second j.above_first)

  pub join_associates : (x y z xy yz l r : T) → IsJoinOf le x y xy → IsJoinOf le xy z l → IsJoinOf le y z yz → IsJoinOf le x yz r → l ≡ r
  join_associates x y z xy yz l r a b c d = o.antisymmetric l r
      (b.least r (a.least r d.above_first (o.transitive y yz r c.above_first d.above_second))
      (o.transitive z yz r c.above_second d.above_second))
      (d.least l (o.transitive x xy l a.above_first b.above_first)
      (c.least l (o.transitive y xy l a.above_second b.above_first) b.above_second))

  pub join_of_below : (x y z : T) → le y x → IsJoinOf le x y z → z ≡ x
  join_of_below x y z p j = o.antisymmetric z x (j.least x (o.reflexive x) p) j.above_first

  pub below_from_join : (x y : T) → IsJoinOf le x y x → le y x
  below_from_join x y j = j.above_second

  pub fold_above : (x : T) (ys : List T) (z : T) → IsFoldOfJoins le x ys z → (y : T) → Contains (x ∷ ys) y → le y z
  fold_above x [] z e y c = subst (λ (u : T). le u z) (at (contains_cases x [] y c)) (subst (λ (u : T). le x u) (sym e) (o.reflexive x))
    where
      at : (x ≡ y) ⊎ Contains [] y → x ≡ y
      at (inl p) = p
      at (inr n) = absurd (none_in_nothing y n)
  fold_above x (y' ∷ ys) z f y c = by (fold_above f.0 ys z f.1.1) (contains_cases x (y' ∷ ys) y c)
    where
      later : ((q : T) → Contains (f.0 ∷ ys) q → le q z) → (y' ≡ y) ⊎ Contains ys y → le y z
      later rest (inl e) = subst (λ (u : T). le u z) e (o.transitive y' f.0 z f.1.0.above_second (rest f.0 (contains_head f.0 ys)))
      later rest (inr h) = rest y (contains_tail f.0 ys y h)

      by : ((q : T) → Contains (f.0 ∷ ys) q → le q z) → (x ≡ y) ⊎ Contains (y' ∷ ys) y → le y z
      by rest (inl e) = subst (λ (u : T). le u z) e (o.transitive x f.0 z f.1.0.above_first (rest f.0 (contains_head f.0 ys)))
      by rest (inr h) = later rest (contains_cases y' ys y h)

  pub fold_least : (x : T) (ys : List T) (z : T) → IsFoldOfJoins le x ys z → (b : T) → ((y : T) → Contains (x ∷ ys) y → le y b) → le z b
  fold_least x [] z e b h = subst (λ (u : T). le u b) (sym e) (h x (contains_head x []))
  fold_least x (y' ∷ ys) z f b h = fold_least f.0 ys z f.1.1 b (λ q c. by q (contains_cases f.0 ys q c))
    where
      middle : le f.0 b
      middle = f.1.0.least b (h x (contains_head x (y' ∷ ys))) (h y' (contains_tail x (y' ∷ ys) y' (contains_head y' ys)))

      by : (q : T) → (f.0 ≡ q) ⊎ Contains ys q → le q b
      by q (inl e) = subst (λ (u : T). le u b) e middle
      by q (inr c) = h q (contains_tail x (y' ∷ ys) q (contains_tail y' ys q c))

  pub folds_agree : (x y : T) (xs ys : List T) (z w : T) → HaveSameMembers (x ∷ xs) (y ∷ ys) → IsFoldOfJoins le x xs z →
      IsFoldOfJoins le y ys w → z ≡ w
  folds_agree x y xs ys z w same f g = o.antisymmetric z w
      (fold_least x xs z f w (λ q c. fold_above y ys w g q ((same q).0 c)))
      (fold_least y ys w g z (λ q c. fold_above x xs z f q ((same q).1 c)))

  -- one more value is joined in
  pub fold_push : (x : T) (ys : List T) (m y z : T) → IsFoldOfJoins le x ys m → IsJoinOf le m y z → IsFoldOfJoins le x (ys ++ y ∷ []) z
  fold_push x [] m y z e j = (z, (subst (λ (u : T). IsJoinOf le u y z) e j, refl))
  fold_push x (y' ∷ ys) m y z f j = (f.0, (f.1.0, fold_push f.0 ys m y z f.1.1 j))
