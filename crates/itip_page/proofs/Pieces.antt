-- Lists of tokens in a row, however they are grouped.
use Rattle.std.proofs.Common.{◌≡◌, List, [], ◌++◌, refl, ap, sym, ◌∙◌, append_assoc, append-nil}
use Rattle.itip_page.specs.Tokens.{Token}

pub data Pieces : Type 0 where
  piece : List Token → Pieces
  both : Pieces → Pieces → Pieces

abbrev pub joined : Pieces → List Token
joined (piece given) = given
joined (both front back) = joined front ++ joined back

-- the same, each before all that follows it
abbrev pub onto : Pieces → List Token → List Token
onto (piece given) rest = given ++ rest
onto (both front back) rest = onto front (onto back rest)

onto_is : (pieces : Pieces) (rest : List Token) → joined pieces ++ rest ≡ onto pieces rest
onto_is (piece given) rest = refl
onto_is (both front back) rest =
    append_assoc (joined front) (joined back) rest ∙ onto_is front (joined back ++ rest) ∙ ap (onto front) (onto_is back rest)

joined_is : (pieces : Pieces) → joined pieces ≡ onto pieces []
joined_is pieces = sym (append-nil (joined pieces)) ∙ onto_is pieces []

-- two groupings of one row
pub regrouped : (one other : Pieces) → onto one [] ≡ onto other [] → joined one ≡ joined other
regrouped one other same = joined_is one ∙ same ∙ sym (joined_is other)
