-- If a text in UTF-8 is cut at ASCII, both parts are UTF-8.
use Rattle.std.proofs.Common.{◌≡◌, sym, refl, ℕ, ◌<◌, false, List, [], ◌∷◌, ◌++◌, length, arith, subst, length-append}
use Rattle.std.specs.Prelude.{IsTrue}
use Rattle.std.specs.Str.{IsUtf8, IsAscii}
use Rattle.std.specs.List.{list_all}
use Rattle.std.proofs.lemmas.Bool.{and_parts}
use Rattle.std.proofs.lemmas.List.{take_at, drop_at, get_or_at, append-nil}
use Rattle.std.proofs.lemmas.Str.{IsUtf8-take, IsUtf8-drop, IsUtf8-from_ascii, IsUtf8-nil, IsCharBoundary-before_ascii}
use Rattle.std.proofs.lemmas.Str.{IsCharBoundary-after_ascii}
use Rattle.std.proofs.lemmas.Str.Ascii.{IsAscii-nil, IsAscii-cons}
use Rattle.itip_lines.specs.Octets.{is_name_octet, is_plain_octet}
use Rattle.itip_lines.specs.Parts.{begins, CutsValue}
use Rattle.itip_lines.specs.Parts.CutsValue.{quoted, plain}
use Rattle.itip_lines.proofs.OctetLemmas.{not_plain_ascii, name_ascii}

-- the part before an ASCII octet
pub utf8_before : (a : List ℕ) (b : ℕ) (c : List ℕ) → IsUtf8 (a ++ b ∷ c) → b < 128 → IsUtf8 a
utf8_before a b c u h =
    subst IsUtf8 (take_at a (b ∷ c) (length a) refl)
    (IsUtf8-take (a ++ b ∷ c) (length a) u
    (IsCharBoundary-before_ascii (a ++ b ∷ c) (length a) (omega (arith, length-append a (b ∷ c)))
    (subst (λ (x : ℕ). x < 128) (sym (get_or_at a b c 0 (length a) refl)) h)))

-- the part that begins with an ASCII octet
pub utf8_from : (a : List ℕ) (b : ℕ) (c : List ℕ) → IsUtf8 (a ++ b ∷ c) → b < 128 → IsUtf8 (b ∷ c)
utf8_from a b c u h =
    subst IsUtf8 (drop_at a (b ∷ c) (length a) refl)
    (IsUtf8-drop (a ++ b ∷ c) (length a) u
    (IsCharBoundary-before_ascii (a ++ b ∷ c) (length a) (omega (arith, length-append a (b ∷ c)))
    (subst (λ (x : ℕ). x < 128) (sym (get_or_at a b c 0 (length a) refl)) h)))

-- the part after an ASCII octet
pub utf8_behind : (b : ℕ) (c : List ℕ) → IsUtf8 (b ∷ c) → b < 128 → IsUtf8 c
utf8_behind b c u h = IsUtf8-drop (b ∷ c) 1 u (IsCharBoundary-after_ascii (b ∷ c) 0 u (omega arith) h)

name_is_ascii : (name : List ℕ) → IsTrue (list_all is_name_octet name) → IsAscii name
name_is_ascii [] h = IsAscii-nil
name_is_ascii (b ∷ bs) h = let p = and_parts _ _ h in IsAscii-cons b bs (name_ascii b p.0) (name_is_ascii bs p.1)

pub utf8_name : (name : List ℕ) → IsTrue (list_all is_name_octet name) → IsUtf8 name
utf8_name name h = IsUtf8-from_ascii name (name_is_ascii name h)

-- what follows a name
pub utf8_past_name : (name rest : List ℕ) → IsTrue (list_all is_name_octet name) → IsUtf8 (name ++ rest) → IsUtf8 rest
utf8_past_name [] rest h u = u
utf8_past_name (b ∷ name) rest h u =
    let p = and_parts _ _ h in utf8_past_name name rest p.1 (utf8_behind b (name ++ rest) u (name_ascii b p.0))

plain_parts : (value rest : List ℕ) → IsUtf8 (value ++ rest) → begins is_plain_octet rest ≡ false → IsUtf8 value × IsUtf8 rest
plain_parts value [] u s = (subst IsUtf8 (append-nil value) u, IsUtf8-nil)
plain_parts value (b ∷ rest) u s = let h = not_plain_ascii b s in (utf8_before value b rest u h, utf8_from value b rest u h)

-- the value of a parameter, and what follows it
pub utf8_value : (text value rest : List ℕ) → IsUtf8 text → CutsValue text value rest → IsUtf8 value × IsUtf8 rest
utf8_value text value rest u (quoted q e) =
    let inside = utf8_behind 34 (value ++ 34 ∷ rest) (subst IsUtf8 e u) (omega arith) in
    (utf8_before value 34 rest inside (omega arith), utf8_behind 34 rest (utf8_from value 34 rest inside (omega arith)) (omega arith))
utf8_value text value rest u (plain r n) = plain_parts value rest (subst IsUtf8 r.whole u) r.stops
