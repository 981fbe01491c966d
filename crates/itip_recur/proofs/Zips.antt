-- Two lists whose items belong together, place by place.
use Rattle.std.proofs.Common.{◌≡◌, List, [], ◌∷◌, ◌++◌, sym, subst}
use Rattle.std.proofs.lemmas.List.{append_assoc}
use Rattle.std.specs.List.{AllZip}

-- a list that belongs to the rest completes the one that was read, and whatever belongs to the whole ends in one of the rest
pub record IsRest {A B : Type 0} (R : A → B → Type 0) (whole : List A) (list : List B) (rest : List A) : Type 0 where
  pub joins : (more : List B) → AllZip R rest more → AllZip R whole (list ++ more)
  pub only : (all : List B) → AllZip R whole all → (more : List B) × AllZip R rest more

module _ {A B : Type 0} (R : A → B → Type 0) where
  pub rest_start : (whole : List A) → IsRest R whole [] whole
  rest_start whole = record { joins = λ more h. h; only = λ all h. (all, h) }

  -- what belongs to a list with an item begins with something that belongs to the item
  begins : (x : A) (xs : List A) (all : List B) → AllZip R (x ∷ xs) all → (y : B) × (ys : List B) × R x y × AllZip R xs ys
  begins x xs [] h = absurd h
  begins x xs (y ∷ ys) h = (y, ys, h.0, h.1)

  module _ (whole : List A) (list : List B) (rest : List A) (x : A) (xs : List A) (is : rest ≡ x ∷ xs) (h : IsRest R whole list rest) where
    joined : (more : List B) → AllZip R (x ∷ xs) more → AllZip R whole (list ++ more)
    joined more zip = h.joins more (subst (λ (ys : List A). AllZip R ys more) (sym is) zip)

    only_more : (all : List B) → AllZip R whole all → (more : List B) × AllZip R (x ∷ xs) more
    only_more all zip = let more = h.only all zip in (more.0, subst (λ (ys : List A). AllZip R ys more.0) is more.1)

    pub rest_more : (y : B) → R x y → IsRest R whole (list ++ y ∷ []) xs
    rest_more y r =
        record {
          joins = λ more zip. subst (λ (all : List B). AllZip R whole all) (sym (append_assoc list (y ∷ []) more))
              (joined (y ∷ more) (r, zip));
          only = λ all zip.
              let more = only_more all zip in let b = begins x xs more.0 more.1 in (b.1, b.3);
        }

    pub rest_refused : ((y : B) → R x y → ⊥) → (all : List B) → AllZip R whole all → ⊥
    rest_refused none all zip = let more = only_more all zip in let b = begins x xs more.0 more.1 in none b.0 b.2
