-- A sort and a `dedup` of references, in terms of what they refer to.
use Rattle.std.proofs.Common.{◌≡◌, ◌∙◌, ◌+◌, ◌<◌, List, [], ◌∷◌, refl, sym, ap, subst, Bool, cond, map, length, get_or, arith}
use Rattle.std.specs.List.{dedup, dedup_from}
use Rattle.std.specs.List.Sorted.{IsSorted}
use Rattle.std.specs.Ordering.{is_lt}
use Rattle.std.specs.declared.cmp.Ordering.{Ordering}
use Rattle.std.proofs.lemmas.List.{length-map, get_or-map}
use Rattle.itip_state.proofs.Members.{by_bool}

module _ {X Y : Type 0} (f : X → Y) (e : Y → Y → Bool) where
  dedup_from_map : (k : X) (xs : List X) → map f (dedup_from (λ a b. e (f a) (f b)) k xs) ≡ dedup_from e (f k) (map f xs)
  dedup_from_map k [] = refl
  dedup_from_map k (x ∷ xs) =
      by_bool (e (f x) (f k)) (map f (dedup_from (λ a b. e (f a) (f b)) k (x ∷ xs)) ≡ dedup_from e (f k) (map f (x ∷ xs)))
      (λ same. ap (λ b. map f (cond b (dedup_from (λ a b. e (f a) (f b)) k xs) (k ∷ dedup_from (λ a b. e (f a) (f b)) x xs))) same
      ∙ dedup_from_map k xs ∙ sym (ap (λ b. cond b (dedup_from e (f k) (map f xs)) (f k ∷ dedup_from e (f x) (map f xs))) same))
      (λ other. ap (λ b. map f (cond b (dedup_from (λ a b. e (f a) (f b)) k xs) (k ∷ dedup_from (λ a b. e (f a) (f b)) x xs))) other
      ∙ ap (λ ys. f k ∷ ys) (dedup_from_map x xs) ∙
      sym (ap (λ b. cond b (dedup_from e (f k) (map f xs)) (f k ∷ dedup_from e (f x) (map f xs))) other))

  pub dedup_map : (xs : List X) → map f (dedup (λ a b. e (f a) (f b)) xs) ≡ dedup e (map f xs)
  dedup_map [] = refl
  dedup_map (x ∷ xs) = dedup_from_map x xs

-- an empty list is the only one without a first element
pub sorted_map : {X Y : Type 0} (f : X → Y) (c : Y → Y → Ordering) (xs : List X) → IsSorted (λ a b. c (f a) (f b)) xs →
    IsSorted c (map f xs)
sorted_map f c [] sorted = λ k d low high. absurd (omega (arith, high))
sorted_map f c (x ∷ xs) sorted = λ k d low high.
    let far : k + 1 < length (x ∷ xs) = subst (λ n. k + 1 < n) (length-map (x ∷ xs) f) high in
    let near : k < length (x ∷ xs) = omega arith in
    ap (λ y. is_lt (c y (get_or (map f (x ∷ xs)) k d))) (get_or-map f (x ∷ xs) (k + 1) x d far) ∙
    ap (λ y. is_lt (c (f (get_or (x ∷ xs) (k + 1) x)) y)) (get_or-map f (x ∷ xs) k x d near) ∙ sorted k x low far
