-- What is shown of a text is a text.
use Rattle.std.proofs.Common.{◌≡◌, ◌∙◌, sym, ap, subst, suc, ℕ, ◌+◌, ◌/◌, ◌%◌, ◌≤◌, ◌<◌, Bool, true, false, cond, ltb, eqb}
use Rattle.std.proofs.Common.{◌&&◌, ◌||◌, List, [], ◌∷◌, ◌++◌, inl, inr, arith, lit<}
use Rattle.std.specs.Str.{IsUtf8}
use Rattle.std.specs.Char.{digit_char}
use Rattle.std.proofs.lemmas.Bool.{and_parts, and_left, or_from, or_left, or_right, le-ltb, ne_eqb, cases_Bool, cond_both}
use Rattle.std.proofs.lemmas.Bool.Decides.{nat_tests, leb_tells}
use Rattle.std.proofs.lemmas.Str.{IsUtf8-append, IsUtf8-nil, IsUtf8-encode, IsUtf8-from_ascii}
use Rattle.std.proofs.lemmas.Str.Ascii.{IsAscii-cons, IsAscii-nil}
use lib.Utf8.{encode, encodes, scalar, scalars}
use Rattle.itip_streams.specs.Visible.{escaped, is_second, begins_second, is_hidden, shown_octet, shown_after, visible}

digit_small : (d : ℕ) → d < 16 → digit_char d < 128
digit_small d small = grind (arith, nat_tests)

escaped_utf8 : (octet : ℕ) → octet < 256 → IsUtf8 (escaped octet)
escaped_utf8 octet small =
    let high : octet / 16 < 16 = omega arith in
    let low : octet % 16 < 16 = omega arith in
    IsUtf8-from_ascii (escaped octet)
    (IsAscii-cons 92 (120 ∷ (digit_char (octet / 16) ∷ (digit_char (octet % 16) ∷ []))) (lit< tt)
    (IsAscii-cons 120 (digit_char (octet / 16) ∷ (digit_char (octet % 16) ∷ [])) (lit< tt)
    (IsAscii-cons (digit_char (octet / 16)) (digit_char (octet % 16) ∷ []) (digit_small (octet / 16) high)
    (IsAscii-cons (digit_char (octet % 16)) [] (digit_small (octet % 16) low) IsAscii-nil))))

-- ---- an octet

stands : (before octet : ℕ) (after : List ℕ) → is_hidden false before octet after ≡ false →
    shown_after false before (octet ∷ after) ≡ octet ∷ shown_after false octet after
stands before octet after is = ap (λ (b : Bool). cond b (escaped octet) (octet ∷ []) ++ shown_after false octet after) is

hides : (before octet : ℕ) (after : List ℕ) → is_hidden false before octet after ≡ true →
    shown_after false before (octet ∷ after) ≡ escaped octet ++ shown_after false octet after
hides before octet after is = ap (λ (b : Bool). cond b (escaped octet) (octet ∷ []) ++ shown_after false octet after) is

no_single : (octet : ℕ) → 128 ≤ octet → (ltb octet 32 || eqb octet 127) ≡ false
no_single octet large =
    or_from (ltb octet 32) (eqb octet 127) (le-ltb octet 32 (omega arith)) (ne_eqb octet 127 (λ e. absurd (omega arith)))

-- no octet of a control character: one from 128 on that neither is c2 nor comes after it
plain : (before octet : ℕ) (after : List ℕ) → 128 ≤ octet → (octet ≡ 194 → ⊥) → (before ≡ 194 → ⊥) →
    is_hidden false before octet after ≡ false
plain before octet after large other behind_other =
    or_from (ltb octet 32 || eqb octet 127) ((eqb octet 194 && begins_second after) || (eqb before 194 && is_second octet))
    (no_single octet large)
    (or_from (eqb octet 194 && begins_second after) (eqb before 194 && is_second octet)
    (and_left (eqb octet 194) (begins_second after) (ne_eqb octet 194 other))
    (and_left (eqb before 194) (is_second octet) (ne_eqb before 194 behind_other)))

-- ---- a character of one to four octets

one : (before octet : ℕ) (after : List ℕ) → octet < 128 → IsUtf8 (shown_after false octet after) →
    IsUtf8 (shown_after false before (octet ∷ after))
one before octet after small rest =
    IsUtf8-append (shown_octet false before octet after) (shown_after false octet after)
    (cond_both (is_hidden false before octet after) (escaped octet) (octet ∷ []) IsUtf8
    (λ hidden. escaped_utf8 octet (omega arith))
    (λ plain. IsUtf8-from_ascii (octet ∷ []) (IsAscii-cons octet [] small IsAscii-nil)))
    rest

two : (before x y : ℕ) (after : List ℕ) → 128 ≤ x → x < 256 → 128 ≤ y → y < 192 → (before ≡ 194 → ⊥) → IsUtf8 (x ∷ (y ∷ [])) →
    IsUtf8 (shown_after false y after) → IsUtf8 (shown_after false before (x ∷ (y ∷ after)))
two before x y after x_from x_to y_from y_to other char rest =
    elim (cases_Bool (eqb x 194 && is_second y)) [
      | inl c1 ↦
          let first : is_hidden false before x (y ∷ after) ≡ true =
          or_right (ltb x 32 || eqb x 127) ((eqb x 194 && is_second y) || (eqb before 194 && is_second x))
          (or_left (eqb x 194 && is_second y) (eqb before 194 && is_second x) c1) in
          let second : is_hidden false x y after ≡ true =
          or_right (ltb y 32 || eqb y 127) ((eqb y 194 && begins_second after) || (eqb x 194 && is_second y))
          (or_right (eqb y 194 && begins_second after) (eqb x 194 && is_second y) c1) in
          subst IsUtf8 (sym (hides before x (y ∷ after) first ∙ ap (λ (t : List ℕ). escaped x ++ t) (hides x y after second)))
          (IsUtf8-append (escaped x) (escaped y ++ shown_after false y after) (escaped_utf8 x x_to)
          (IsUtf8-append (escaped y) (shown_after false y after) (escaped_utf8 y (omega arith)) rest))
      | inr none ↦
          let first : is_hidden false before x (y ∷ after) ≡ false =
          or_from (ltb x 32 || eqb x 127) ((eqb x 194 && is_second y) || (eqb before 194 && is_second x)) (no_single x x_from)
          (or_from (eqb x 194 && is_second y) (eqb before 194 && is_second x) none
          (and_left (eqb before 194) (is_second x) (ne_eqb before 194 other))) in
          let second : is_hidden false x y after ≡ false =
          or_from (ltb y 32 || eqb y 127) ((eqb y 194 && begins_second after) || (eqb x 194 && is_second y)) (no_single y y_from)
          (or_from (eqb y 194 && begins_second after) (eqb x 194 && is_second y)
          (and_left (eqb y 194) (begins_second after) (ne_eqb y 194 (λ e. absurd (omega arith)))) none) in
          subst IsUtf8 (sym (stands before x (y ∷ after) first ∙ ap (λ (t : List ℕ). x ∷ t) (stands x y after second)))
          (IsUtf8-append (x ∷ (y ∷ [])) (shown_after false y after) char rest)
    ]

three : (before x y z : ℕ) (after : List ℕ) → 224 ≤ x → 128 ≤ y → y < 192 → 128 ≤ z → z < 192 → (before ≡ 194 → ⊥) →
    IsUtf8 (x ∷ (y ∷ (z ∷ []))) → IsUtf8 (shown_after false z after) → IsUtf8 (shown_after false before (x ∷ (y ∷ (z ∷ after))))
three before x y z after x_from y_from y_to z_from z_to other char rest =
    let first = stands before x (y ∷ (z ∷ after))
    (plain before x (y ∷ (z ∷ after)) (omega arith) (λ e. absurd (omega arith)) other) in
    let second = stands x y (z ∷ after) (plain x y (z ∷ after) y_from (λ e. absurd (omega arith)) (λ e. absurd (omega arith))) in
    let third = stands y z after (plain y z after z_from (λ e. absurd (omega arith)) (λ e. absurd (omega arith))) in
    subst IsUtf8 (sym (first ∙ ap (λ (t : List ℕ). x ∷ t) (second ∙ ap (λ (t : List ℕ). y ∷ t) third)))
    (IsUtf8-append (x ∷ (y ∷ (z ∷ []))) (shown_after false z after) char rest)

four : (before x y z w : ℕ) (after : List ℕ) → 240 ≤ x → 128 ≤ y → y < 192 → 128 ≤ z → z < 192 → 128 ≤ w → w < 192 →
    (before ≡ 194 → ⊥) → IsUtf8 (x ∷ (y ∷ (z ∷ (w ∷ [])))) → IsUtf8 (shown_after false w after) →
    IsUtf8 (shown_after false before (x ∷ (y ∷ (z ∷ (w ∷ after)))))
four before x y z w after x_from y_from y_to z_from z_to w_from w_to other char rest =
    let first = stands before x (y ∷ (z ∷ (w ∷ after)))
    (plain before x (y ∷ (z ∷ (w ∷ after))) (omega arith) (λ e. absurd (omega arith)) other) in
    let second = stands x y (z ∷ (w ∷ after))
    (plain x y (z ∷ (w ∷ after)) y_from (λ e. absurd (omega arith)) (λ e. absurd (omega arith))) in
    let third = stands y z (w ∷ after) (plain y z (w ∷ after) z_from (λ e. absurd (omega arith)) (λ e. absurd (omega arith))) in
    let fourth = stands z w after (plain z w after w_from (λ e. absurd (omega arith)) (λ e. absurd (omega arith))) in
    subst IsUtf8
    (sym (first ∙ ap (λ (t : List ℕ). x ∷ t) (second ∙ ap (λ (t : List ℕ). y ∷ t) (third ∙ ap (λ (t : List ℕ). z ∷ t) fourth))))
    (IsUtf8-append (x ∷ (y ∷ (z ∷ (w ∷ [])))) (shown_after false w after) char rest)

-- ---- a text

shown_utf8 : (cs : List ℕ) (before : ℕ) → scalars cs ≡ true → (before ≡ 194 → ⊥) → IsUtf8 (shown_after false before (encodes cs))
unfolding encode
shown_utf8 [] before ok other = IsUtf8-nil
shown_utf8 (c ∷ cs) before ok other =
    let parts = and_parts (scalar c) (scalars cs) ok in
    let char = IsUtf8-encode c parts.0 in
    let low : c % 64 < 64 = omega arith in
    let middle : (c / 64) % 64 < 64 = omega arith in
    let high : (c / 4096) % 64 < 64 = omega arith in
    elim (leb_tells (suc c) 128) [
      | inl ascii ↦ rw ascii.0 (one before c (encodes cs) (omega (arith, ascii.1))
          (shown_utf8 cs c parts.1 (λ e. absurd (omega (arith, ascii.1)))))
      | inr more ↦ elim (leb_tells (suc c) 2048) [
        | inl short ↦
            let lead : c / 64 < 32 = omega (arith, short.1) in
            rw (more.0, short.0) (two before (192 + c / 64) (128 + c % 64) (encodes cs) (omega arith) (omega arith) (omega arith)
            (omega arith) other (rw (more.0, short.0) at char) (shown_utf8 cs (128 + c % 64) parts.1 (λ e. absurd (omega arith))))
        | inr much ↦ elim (leb_tells (suc c) 65536) [
          | inl long ↦
              rw (more.0, much.0, long.0) (three before (224 + c / 4096) (128 + (c / 64) % 64) (128 + c % 64) (encodes cs) (omega arith)
              (omega arith) (omega arith) (omega arith) (omega arith) other (rw (more.0, much.0, long.0) at char)
              (shown_utf8 cs (128 + c % 64) parts.1 (λ e. absurd (omega arith))))
          | inr longest ↦
              rw (more.0, much.0, longest.0) (four before (240 + c / 262144) (128 + (c / 4096) % 64) (128 + (c / 64) % 64) (128 + c % 64)
              (encodes cs) (omega arith) (omega arith) (omega arith) (omega arith) (omega arith) (omega arith) (omega arith) other
              (rw (more.0, much.0, longest.0) at char) (shown_utf8 cs (128 + c % 64) parts.1 (λ e. absurd (omega arith))))
        ]
      ]
    ]

pub visible_utf8 : (text : List ℕ) → IsUtf8 text → IsUtf8 (visible text)
visible_utf8 text utf8 =
    subst (λ (t : List ℕ). IsUtf8 (shown_after false 0 t)) utf8.1.1 (shown_utf8 utf8.0 0 utf8.1.0 (λ e. absurd (omega arith)))
