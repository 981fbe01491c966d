-- Texts joined into one text, each followed by LF, and the way back (our own form).
use Rattle.std.specs.Prelude.{◌≡◌, ℕ, Bool, false, cond, ◌==◌, List, [], ◌∷◌, ◌++◌}
use Rattle.std.specs.List.{list_any, AllByRecursion}
use Rattle.std.specs.Str.{IsUtf8}

abbrev pub is_break : ℕ → Bool
is_break b = b == 10

abbrev pub joined : List (List ℕ) → List ℕ
joined [] = []
joined (text ∷ texts) = text ++ 10 ∷ joined texts

-- an octet before the first text; what no LF ends is not a text
abbrev pub with_octet : ℕ → List (List ℕ) → List (List ℕ)
with_octet b [] = []
with_octet b (text ∷ texts) = (b ∷ text) ∷ texts

-- the texts that are followed by LF
unfoldable pub texts_in : List ℕ → List (List ℕ)
texts_in [] = []
texts_in (b ∷ bs) = cond (is_break b) ([] ∷ texts_in bs) (with_octet b (texts_in bs))

-- a text that can be joined
pub record IsOneLine (text : List ℕ) : Type 0 where
  pub unbroken : list_any is_break text ≡ false
  pub utf8 : IsUtf8 text

-- the octets are those of the texts in them, and nothing else
pub record AreJoined (octets : List ℕ) : Type 0 where
  pub each : AllByRecursion IsOneLine (texts_in octets)
  pub octets_are : octets ≡ joined (texts_in octets)
