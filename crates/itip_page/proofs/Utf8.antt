-- An escaped text is UTF-8.
use Rattle.std.proofs.Common.{◌≡◌, ℕ, suc, ◌≤◌, ◌<◌, true, List, [], ◌∷◌, inl, inr, arith, lit<, refl, sym, subst}
use Rattle.std.specs.Prelude.{codes}
use Rattle.std.specs.List.{AllByRecursion, flat_map}
use Rattle.std.specs.Str.{IsUtf8}
use Rattle.std.proofs.lemmas.Bool.{and_parts}
use Rattle.std.proofs.lemmas.Bool.Decides.{leb_tells}
use Rattle.std.proofs.lemmas.Grind.{flat_map-append}
use Rattle.std.proofs.lemmas.Str.{IsUtf8-append, IsUtf8-nil, IsUtf8-encode, IsUtf8-from_ascii}
use Rattle.std.proofs.lemmas.Str.Ascii.{IsAscii-cons, IsAscii-nil}
use lib.Utf8.{encode, encodes, scalar, scalars}
use Rattle.itip_streams.specs.Visible.{visible}
use Rattle.itip_streams.proofs.Escaping.{visible_utf8}
use Rattle.itip_page.specs.Escaped.{escaped, octet_markup}
use Rattle.itip_page.proofs.Taken.{IsPlain, Kind, Ampersand, Less, Greater, Quote, Plain, kind_of, plain_markup}

-- octets from 128 on have no reference
plain_high : (octet : ℕ) → 128 ≤ octet → IsPlain octet
plain_high octet large = record {
  no_ampersand = λ e. absurd (omega (arith, e, large));
  no_less = λ e. absurd (omega (arith, e, large));
  no_greater = λ e. absurd (omega (arith, e, large));
  no_quote = λ e. absurd (omega (arith, e, large));
}

high_same : (octets : List ℕ) → AllByRecursion (λ octet. 128 ≤ octet) octets → flat_map octet_markup octets ≡ octets
high_same [] high = refl
high_same (octet ∷ octets) high =
    rw (plain_markup octet (plain_high octet high.0), high_same octets high.1) refl

-- a character of several octets
high : (c : ℕ) → 128 ≤ c → AllByRecursion (λ octet. 128 ≤ octet) (encode c)
unfolding encode
high c large = elim (leb_tells (suc c) 128) [
  | inl ascii ↦ absurd (omega (arith, ascii.1, large))
  | inr more ↦ elim (leb_tells (suc c) 2048) [
    | inl short ↦ rw (more.0, short.0) (omega arith, (omega arith, tt))
    | inr much ↦ elim (leb_tells (suc c) 65536) [
      | inl long ↦ rw (more.0, much.0, long.0) (omega arith, (omega arith, (omega arith, tt)))
      | inr longest ↦ rw (more.0, much.0, longest.0) (omega arith, (omega arith, (omega arith, (omega arith, tt))))
    ]
  ]
]

ascii_kind : (octet : ℕ) → octet < 128 → Kind octet → IsUtf8 (octet_markup octet)
ascii_kind octet small (Ampersand e) =
    subst (λ (c : ℕ). IsUtf8 (octet_markup c)) (sym e)
    (IsUtf8-from_ascii (codes "&amp;")
    (IsAscii-cons 38 (codes "amp;") (lit< tt) (IsAscii-cons 97 (codes "mp;") (lit< tt)
    (IsAscii-cons 109 (codes "p;") (lit< tt) (IsAscii-cons 112 (codes ";") (lit< tt)
    (IsAscii-cons 59 [] (lit< tt) IsAscii-nil))))))
ascii_kind octet small (Less e) =
    subst (λ (c : ℕ). IsUtf8 (octet_markup c)) (sym e)
    (IsUtf8-from_ascii (codes "&lt;")
    (IsAscii-cons 38 (codes "lt;") (lit< tt) (IsAscii-cons 108 (codes "t;") (lit< tt)
    (IsAscii-cons 116 (codes ";") (lit< tt) (IsAscii-cons 59 [] (lit< tt)
    IsAscii-nil)))))
ascii_kind octet small (Greater e) =
    subst (λ (c : ℕ). IsUtf8 (octet_markup c)) (sym e)
    (IsUtf8-from_ascii (codes "&gt;")
    (IsAscii-cons 38 (codes "gt;") (lit< tt) (IsAscii-cons 103 (codes "t;") (lit< tt)
    (IsAscii-cons 116 (codes ";") (lit< tt) (IsAscii-cons 59 [] (lit< tt)
    IsAscii-nil)))))
ascii_kind octet small (Quote e) =
    subst (λ (c : ℕ). IsUtf8 (octet_markup c)) (sym e)
    (IsUtf8-from_ascii (codes "&quot;")
    (IsAscii-cons 38 (codes "quot;") (lit< tt) (IsAscii-cons 113 (codes "uot;") (lit< tt)
    (IsAscii-cons 117 (codes "ot;") (lit< tt) (IsAscii-cons 111 (codes "t;") (lit< tt)
    (IsAscii-cons 116 (codes ";") (lit< tt) (IsAscii-cons 59 [] (lit< tt)
    IsAscii-nil)))))))
ascii_kind octet small (Plain is) =
    subst IsUtf8 (sym (plain_markup octet is)) (IsUtf8-from_ascii (octet ∷ []) (IsAscii-cons octet [] small IsAscii-nil))

character_utf8 : (c : ℕ) → scalar c ≡ true → IsUtf8 (flat_map octet_markup (encode c))
unfolding encode
character_utf8 c ok =
    let char = IsUtf8-encode c ok in
    elim (leb_tells (suc c) 128) [
      | inl ascii ↦ rw ascii.0
          (IsUtf8-append (octet_markup c) [] (ascii_kind c (omega (arith, ascii.1)) (kind_of c)) IsUtf8-nil)
      | inr more ↦ subst IsUtf8 (sym (high_same (encode c) (high c (omega (arith, more.1))))) char
    ]

characters_utf8 : (cs : List ℕ) → scalars cs ≡ true → IsUtf8 (flat_map octet_markup (encodes cs))
characters_utf8 [] ok = IsUtf8-nil
characters_utf8 (c ∷ cs) ok =
    let parts = and_parts (scalar c) (scalars cs) ok in
    subst IsUtf8 (sym (flat_map-append octet_markup (encode c) (encodes cs)))
    (IsUtf8-append (flat_map octet_markup (encode c)) (flat_map octet_markup (encodes cs)) (character_utf8 c parts.0)
    (characters_utf8 cs parts.1))

pub escaped_utf8 : (text : List ℕ) → IsUtf8 text → IsUtf8 (escaped text)
escaped_utf8 text utf8 =
    let shown : IsUtf8 (visible text) = visible_utf8 text utf8 in
    subst (λ (t : List ℕ). IsUtf8 (flat_map octet_markup t)) shown.1.1 (characters_utf8 shown.0 shown.1.0)
