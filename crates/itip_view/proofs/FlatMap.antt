-- The pieces of one more element.
use Rattle.std.proofs.Common.{◌≡◌, ℕ, ◌+◌, ◌<◌, List, [], ◌∷◌, ◌++◌, length, take, get_or, ap, sym, ◌∙◌, append-nil, append_assoc}
use Rattle.std.specs.List.{flat_map}
use Rattle.std.proofs.lemmas.List.{take_more}
use Rattle.std.proofs.lemmas.Grind.{flat_map-append}

pub flat_map_more : {X A : Type 0} (f : X → List A) (xs : List X) (i : ℕ) (x : X) → i < length xs → x ≡ get_or xs i x →
    flat_map f (take (i + 1) xs) ≡ flat_map f (take i xs) ++ f x
flat_map_more f xs i x lt is =
    ap (flat_map f) (take_more xs i x lt) ∙ flat_map-append f (take i xs) (get_or xs i x ∷ []) ∙
    ap (λ rest. flat_map f (take i xs) ++ rest) (append-nil (f (get_or xs i x)) ∙ ap f (sym is))

-- a piece is appended after another
pub then_more : {A : Type 0} (old mid new front back : List A) → mid ≡ old ++ front → new ≡ mid ++ back → new ≡ old ++ (front ++ back)
then_more old mid new front back first second = second ∙ ap (λ m. m ++ back) first ∙ append_assoc old front back
