-- Pieces that are put one after another.
use Rattle.std.proofs.Common.{◌≡◌, List, [], ◌∷◌, ◌++◌, if◌then◌else◌, Result, Ok, Err, sym, ap, ◌∙◌, append_assoc, append-nil}
use Rattle.std.specs.Prelude.{OnOk}
use Rattle.std.specs.Result.{is_ok}
use Rattle.std.specs.List.{flat_map}
use Rattle.std.proofs.lemmas.List.Concat.{flat_map-append}
use Rattle.itip_view.proofs.FlatMap.{then_more}

-- what is appended if no allocation fails
pub put_ok : {T E A : Type 0} (r : Result T E) (new whole old : List A) → new ≡ (if is_ok r then whole else old) → OnOk r (new ≡ whole)
put_ok (Ok x) new whole old is = is
put_ok (Err e) new whole old is = tt

module _ {X A : Type 0} (f : X → List A) where
  -- the pieces of two lists, and an end
  join : (xs ys : List X) (end : List A) → flat_map f xs ++ (flat_map f ys ++ end) ≡ flat_map f (xs ++ ys) ++ end
  join xs ys end =
      sym (append_assoc (flat_map f xs) (flat_map f ys) end) ∙ ap (λ (t : List A). t ++ end) (sym (flat_map-append f xs ys))

  pub join_four : (a b c d : List X) (end : List A) →
      flat_map f a ++ (flat_map f b ++ (flat_map f c ++ (flat_map f d ++ end))) ≡ flat_map f (a ++ (b ++ (c ++ d))) ++ end
  join_four a b c d end =
      ap (λ (t : List A). flat_map f a ++ (flat_map f b ++ t)) (join c d end) ∙
      ap (λ (t : List A). flat_map f a ++ t) (join b (c ++ d) end) ∙ join a (b ++ (c ++ d)) end

  pub join_five : (a b c d e : List X) (end : List A) →
      flat_map f a ++ (flat_map f b ++ (flat_map f c ++ (flat_map f d ++ (flat_map f e ++ end)))) ≡
      flat_map f (a ++ (b ++ (c ++ (d ++ e)))) ++ end
  join_five a b c d e end =
      ap (λ (t : List A). flat_map f a ++ t) (join_four b c d e end) ∙ join a (b ++ (c ++ (d ++ e))) end

  -- two and three pieces, put one by one
  pub two_put : (x y : X) (old mid new : List A) → mid ≡ old ++ f x → new ≡ mid ++ f y → new ≡ old ++ flat_map f (x ∷ y ∷ [])
  two_put x y old mid new first second =
      then_more old mid new (f x) (f y) first second ∙ ap (λ (t : List A). old ++ (f x ++ t)) (sym (append-nil (f y)))

  pub three_put : (x y z : X) (old p q new : List A) → p ≡ old ++ f x → q ≡ p ++ f y → new ≡ q ++ f z →
      new ≡ old ++ flat_map f (x ∷ y ∷ z ∷ [])
  three_put x y z old p q new first second third =
      then_more old p new (f x) (flat_map f (y ∷ z ∷ [])) first (two_put y z p q new second third)
