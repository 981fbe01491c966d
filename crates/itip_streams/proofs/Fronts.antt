-- What is shown of the name of a message is what is shown of its source, and then plain text.
use Rattle.std.proofs.Common.{◌≡◌, ◌∙◌, sym, ap, ap₂, refl, ℕ, ◌<◌, ◌^◌, Bool, true, false, cond, List, [], ◌∷◌, ◌++◌, append_assoc, arith}
use Rattle.std.specs.Prelude.{◌&&◌, ◌||◌, ◌==◌, nat_le, nat_lt, codes, decimal, None}
use Rattle.std.specs.List.{list_all}
use Rattle.std.proofs.lemmas.Bool.{and_parts}
use Rattle.std.proofs.lemmas.Bool.Decides.{nat_tests}
use Rattle.itip_streams.specs.Told.{front_of, place_of, refusal_at}
use Rattle.itip_streams.specs.Visible.{escaped, is_second, begins_second, is_hidden, shown_octet, shown_after, visible}
use Rattle.itip_streams.specs.declared.source_name.SourceName.{SourceName}
use Rattle.itip_streams.proofs.Decimals.{decimal_all}

-- a character of ASCII that is shown as it is
abbrev is_plain : ℕ → Bool
is_plain octet = nat_le 32 octet && nat_lt octet 127

stands : (before octet : ℕ) (after : List ℕ) → is_plain octet ≡ true → is_hidden false before octet after ≡ false
stands before octet after plain = grind (arith, nat_tests)

no_second : (octet : ℕ) → is_plain octet ≡ true → is_second octet ≡ false
no_second octet plain = grind (arith, nat_tests)

both_plain : (xs ys : List ℕ) → list_all is_plain xs ≡ true → list_all is_plain ys ≡ true → list_all is_plain (xs ++ ys) ≡ true
both_plain [] ys one two = two
both_plain (x ∷ xs) ys one two =
    let p = and_parts (is_plain x) (list_all is_plain xs) one in
    ap₂ (λ (a b : Bool). a && b) p.0 (both_plain xs ys p.1 two)

-- plain text behind any octet
plain_shown : (before : ℕ) (ys : List ℕ) → list_all is_plain ys ≡ true → shown_after false before ys ≡ ys
plain_shown before [] plain = refl
plain_shown before (y ∷ ys) plain =
    let p = and_parts (is_plain y) (list_all is_plain ys) plain in
    ap (λ (b : Bool). cond b (escaped y) (y ∷ []) ++ shown_after false y ys) (stands before y ys p.0) ∙
    ap (λ (t : List ℕ). y ∷ t) (plain_shown y ys p.1)

begins_alike : (xs ys : List ℕ) → list_all is_plain ys ≡ true → begins_second (xs ++ ys) ≡ begins_second xs
begins_alike [] [] plain = refl
begins_alike [] (y ∷ ys) plain = no_second y (and_parts (is_plain y) (list_all is_plain ys) plain).0
begins_alike (x ∷ xs) ys plain = refl

-- and behind a text
shown_behind : (before : ℕ) (xs ys : List ℕ) → list_all is_plain ys ≡ true →
    shown_after false before (xs ++ ys) ≡ shown_after false before xs ++ ys
shown_behind before [] ys plain = plain_shown before ys plain
shown_behind before (x ∷ xs) ys plain =
    let same : is_hidden false before x (xs ++ ys) ≡ is_hidden false before x xs =
    ap (λ (b : Bool). (nat_lt x 32 || x == 127) || ((x == 194 && b) || (before == 194 && is_second x))) (begins_alike xs ys plain) in
    ap₂ (λ (b : Bool) (t : List ℕ). cond b (escaped x) (x ∷ []) ++ t) same (shown_behind x xs ys plain) ∙
    sym (append_assoc (shown_octet false before x xs) (shown_after false x xs) ys)

pub refused_line : (name : SourceName) (message number : ℕ) → message < 2 ^ 64 → number < 2 ^ 64 →
    visible (refusal_at (place_of name message) number None) ≡
    visible (front_of name) ++ (decimal message ++ (codes ": refused " ++ decimal number))
refused_line name message number small below =
    let rest : List ℕ = codes ": refused " ++ decimal number in
    let digits : (n : ℕ) → n < 2 ^ 64 → list_all is_plain (decimal n) ≡ true =
    decimal_all is_plain (λ d ten. grind (arith, nat_tests)) in
    let plain : list_all is_plain (decimal message ++ rest) ≡ true =
    both_plain (decimal message) rest (digits message small) (both_plain (codes ": refused ") (decimal number) refl
    (digits number below)) in
    ap visible (append_assoc (place_of name message) (codes ": refused ") (decimal number) ∙
    append_assoc (front_of name) (decimal message) rest) ∙
    shown_behind 0 (front_of name) (decimal message ++ rest) plain
