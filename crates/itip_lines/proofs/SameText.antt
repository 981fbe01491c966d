-- Texts that are equal octet by octet.
use Rattle.std.proofs.Common.{◌≡◌, ◌∙◌, sym, refl, ℕ, true, List, [], ◌∷◌, ◌++◌, take, drop, length}
use Rattle.std.proofs.lemmas.Bool.{and_parts, eqb-true}
use Rattle.std.proofs.lemmas.List.{take-append-drop}
use Rattle.itip_lines.specs.Lookup.{same_text}

pub text_is : (a b : List ℕ) → same_text a b ≡ true → a ≡ b
text_is [] [] e = refl
text_is [] (y ∷ ys) e = absurd cc
text_is (x ∷ xs) [] e = absurd cc
text_is (x ∷ xs) (y ∷ ys) e = let parts = and_parts _ _ e in λ i. eqb-true x y parts.0 i ∷ text_is xs ys parts.1 i

-- a prefix, and what is left of the text after it
pub front_is : (text front rest : List ℕ) → same_text (take (length front) text) front ≡ true → rest ≡ drop (length front) text →
    text ≡ front ++ rest
front_is text front rest same left =
    sym (take-append-drop (length front) text)
    ∙ (λ i. text_is (take (length front) text) front same i ++ sym left i)
