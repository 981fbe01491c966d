-- Pieces that are appended to a page, one after another.
use Rattle.std.proofs.Common.{◌≡◌, ℕ, ◌+◌, ◌<◌, cond, List, [], ◌++◌, length, take, get_or, ap, sym, ◌∙◌, Ok, Err, Result}
use Rattle.std.specs.Prelude.{OnOk, is_ok}
use Rattle.std.specs.List.{flat_map}
use Rattle.std.proofs.lemmas.List.{get_or_default}
use Rattle.itip_view.proofs.FlatMap.{flat_map_more, then_more}

pub three : (old p q new a b c : List ℕ) → p ≡ old ++ a → q ≡ p ++ b → new ≡ q ++ c → new ≡ old ++ (a ++ (b ++ c))
three old p q new a b c first second third = then_more old p new a (b ++ c) first (then_more p q new b c second third)

pub four : (old p q r new a b c d : List ℕ) → p ≡ old ++ a → q ≡ p ++ b → r ≡ q ++ c → new ≡ r ++ d →
    new ≡ old ++ (a ++ (b ++ (c ++ d)))
four old p q r new a b c d first second third fourth =
    then_more old p new a (b ++ (c ++ d)) first (three p q r new b c d second third fourth)

pub five : (old p q r s new a b c d e : List ℕ) → p ≡ old ++ a → q ≡ p ++ b → r ≡ q ++ c → s ≡ r ++ d → new ≡ s ++ e →
    new ≡ old ++ (a ++ (b ++ (c ++ (d ++ e))))
five old p q r s new a b c d e first second third fourth fifth =
    then_more old p new a (b ++ (c ++ (d ++ e))) first (four p q r s new b c d e second third fourth fifth)

-- a piece that was made apart, in a vector that was empty
pub made_apart : {E : Type 0} (r : Result (Unit {0}) E) (old new slice made empty piece : List ℕ) →
    new ≡ cond (is_ok r) (old ++ slice) old → slice ≡ made → made ≡ empty ++ piece → empty ≡ [] → OnOk r (new ≡ old ++ piece)
made_apart (Ok u) old new slice made empty piece puts is made_is none =
    puts ∙ ap (λ (t : List ℕ). old ++ t) (is ∙ made_is ∙ ap (λ (t : List ℕ). t ++ piece) none)
made_apart (Err x) old new slice made empty piece puts is made_is none = tt

-- the piece of one more octet
pub octet_more : (f : ℕ → List ℕ) (octets : List ℕ) (i : ℕ) (old page new : List ℕ) → i < length octets →
    page ≡ old ++ flat_map f (take i octets) → new ≡ page ++ f (get_or octets i 0) →
    new ≡ old ++ flat_map f (take (i + 1) octets)
octet_more f octets i old page new less before puts =
    then_more old page new (flat_map f (take i octets)) (f (get_or octets i 0)) before puts ∙
    ap (λ (t : List ℕ). old ++ t)
    (sym (flat_map_more f octets i (get_or octets i 0) less (get_or_default octets i 0 (get_or octets i 0) less)))
