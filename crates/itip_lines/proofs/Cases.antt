-- A text stays in UTF-8 where its ASCII letters change their case.
use Rattle.std.proofs.Common.{◌≡◌, ◌∙◌, sym, ap, refl, subst, ℕ, suc, ◌<◌, ◌≤◌, true, List, [], ◌∷◌, length, get_or, map, arith, inl, inr}
use Rattle.std.proofs.Common.{append-nil}
use Rattle.std.specs.Char.{to_ascii_uppercase, to_ascii_lowercase}
use Rattle.std.specs.Str.{IsUtf8}
use Rattle.std.proofs.lemmas.Bool.{and_parts}
use Rattle.std.proofs.lemmas.Bool.Decides.{leb_tells}
use Rattle.std.proofs.lemmas.List.{length-map, map-append}
use Rattle.std.proofs.lemmas.Str.{IsUtf8-append, IsUtf8-nil, IsUtf8-encode, IsUtf8-from_ascii, encode_ascii, inside_one}
use Rattle.std.proofs.lemmas.Str.Ascii.{IsAscii-nil, IsAscii-cons, uppercase_ascii, lowercase_ascii, uppercase_is, lowercase_is}
use Rattle.smallvec.specs.SmallVec.{SmallVec, with_items}
use Rattle.smallvec.proofs.SmallVecLemmas.{items-with_items}
use lib.Utf8.{encode, encodes, scalar, scalars}

module _ (f : ℕ → ℕ) (low : (b : ℕ) → b < 128 → f b < 128) (high : (b : ℕ) → 128 ≤ b → f b ≡ b) where
  same_high : (xs : List ℕ) → ((k : ℕ) → k < length xs → 128 ≤ get_or xs k 0) → map f xs ≡ xs
  same_high [] above = refl
  same_high (x ∷ xs) above =
      λ i. high x (above 0 (omega arith)) i ∷ same_high xs (λ k less. above (suc k) (omega (arith, less))) i

  -- each octet of a character above ASCII is above ASCII
  high_octet : (c k : ℕ) → 128 ≤ c → k < length (encode c) → 128 ≤ get_or (encode c) k 0
  high_octet c k wide less = elim (leb_tells 128 (get_or (encode c) k 0)) [
    | inl above ↦ above.1
    | inr below ↦
        let same : c ≡ get_or (encode c) k 0 = inside_one c [] (encode c) k (sym (append-nil (encode c))) less below.1 in
        absurd (omega (arith, same, wide, below.1))
  ]

  character : (c : ℕ) → scalar c ≡ true → IsUtf8 (map f (encode c))
  character c is = elim (leb_tells 128 c) [
    | inl wide ↦ subst IsUtf8 (sym (same_high (encode c) (λ k less. high_octet c k wide.1 less))) (IsUtf8-encode c is)
    | inr narrow ↦ subst IsUtf8 (sym (ap (map f) (encode_ascii c narrow.1)))
        (IsUtf8-from_ascii (f c ∷ []) (IsAscii-cons (f c) [] (low c narrow.1) IsAscii-nil))
  ]

  characters : (cs : List ℕ) → scalars cs ≡ true → IsUtf8 (map f (encodes cs))
  characters [] are = IsUtf8-nil
  characters (c ∷ cs) are =
      let parts = and_parts (scalar c) (scalars cs) are in
      subst IsUtf8 (sym (map-append f (encode c) (encodes cs)))
      (IsUtf8-append (map f (encode c)) (map f (encodes cs)) (character c parts.0) (characters cs parts.1))

  text : (bs : List ℕ) → IsUtf8 bs → IsUtf8 (map f bs)
  text bs u = subst (λ (t : List ℕ). IsUtf8 (map f t)) u.1.1 (characters u.0 u.1.0)

pub raised : (bs : List ℕ) → IsUtf8 bs → IsUtf8 (map to_ascii_uppercase bs)
raised bs u = text to_ascii_uppercase uppercase_ascii (λ b above. (uppercase_is b).2 (omega (arith, above))) bs u

pub lowered : (bs : List ℕ) → IsUtf8 bs → IsUtf8 (map to_ascii_lowercase bs)
lowered bs u = text to_ascii_lowercase lowercase_ascii (λ b above. (lowercase_is b).2 (omega (arith, above))) bs u

-- octets that were changed one by one, in place
pub changed : (f : ℕ → ℕ) (v : SmallVec ℕ) (now : List ℕ) → now ≡ map f v.items → (with_items v now).items ≡ map f v.items
changed f v now same = items-with_items v now (ap length same ∙ length-map v.items f) ∙ same
