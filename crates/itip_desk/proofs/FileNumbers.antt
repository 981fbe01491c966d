-- Numbers in the file of a desk: what is written of a number is read back as it, and bytes begin with one number only.
use Rattle.std.proofs.Common.{◌≡◌, ◌∙◌, sym, ap, refl, ℕ, zero, suc, ◌+◌, ◌<◌, ◌≤◌, ◌^◌, Bool, true, false, cond}
use Rattle.std.proofs.Common.{List, [], ◌∷◌, ◌++◌, length, get_or, take, drop, arith, subst, append_assoc, take-append-drop}
use Rattle.std.proofs.Common.{Option, Some, None, MatchOption, IfSome, IfNone, Result, Ok, Err, ltb}
use Rattle.std.specs.Fmt.{decimal}
use Rattle.std.specs.Int.{IsInRange}
use Rattle.std.specs.List.{list_all}
use Rattle.std.specs.Result.{result_ok}
use Rattle.std.specs.Str.{IsUtf8}
use Rattle.std.specs.Str.Parse.{ParsesUnsigned}
use Rattle.std.proofs.lemmas.Bool.{and_parts, ltb-true, ltb-false}
use Rattle.std.proofs.lemmas.Bool.Decides.{nat_tests}
use Rattle.std.proofs.lemmas.Fmt.{IsAscii-from_digits, decimal_nonempty, digits_decimal}
use Rattle.std.proofs.lemmas.Fmt.{digits_value-decimal, length-decimal-le}
use Rattle.std.proofs.lemmas.List.{append_cancel_left, length-append, length-take-le, take_at}
use Rattle.std.proofs.lemmas.Str.{IsUtf8-from_ascii}
use Rattle.std.proofs.lemmas.Str.Parse.{IsDigitsTest, IsNumeralModel, numerals_by_fold, parse_digits}
use Rattle.itip_streams.proofs.Decimals.{both_true}
use Rattle.itip_desk.specs.DeskFile.{parameter_text, is_digit, digits_before, digits_value, HasNumber}
use Rattle.itip_desk.specs.FileReading.{IsBehind, IsValue}

-- a parameter has at most 20 digits after its name
pub parameter_size : (name : List ℕ) (n : ℕ) → n < 2 ^ 64 → length (parameter_text name n) ≤ length name + 20
parameter_size name n fits =
    let digits : length (decimal n) ≤ 20 = length-decimal-le 20 n (omega arith) (omega (arith, fits)) fits in
    omega (arith, length-append name (decimal n), digits)

-- ---- digits and their value

digit_range : (c : ℕ) → is_digit c ≡ true → IsInRange 48 57 c
digit_range c h = grind (arith, nat_tests)

range_digit : (c : ℕ) → IsInRange 48 57 c → is_digit c ≡ true
range_digit c h = grind (arith, nat_tests)

digits_test : IsDigitsTest (λ ds. list_all is_digit ds ≡ true)
digits_test = record {
  empty = refl;
  parts = λ c cs h. let p = and_parts (is_digit c) (list_all is_digit cs) h in (digit_range c p.0, p.1);
  more = λ c cs h k. both_true (is_digit c) (list_all is_digit cs) (range_digit c h) k;
}

pub own : IsNumeralModel (λ ds. list_all is_digit ds ≡ true) (digits_value 0)
own = numerals_by_fold (λ ds. list_all is_digit ds ≡ true) digits_test digits_value (record { empty = λ n. refl; more = λ n c cs h. refl })

-- digits before bytes that begin with none
pub all_before : (digits after : List ℕ) → list_all is_digit digits ≡ true → digits_before after ≡ 0 →
    digits_before (digits ++ after) ≡ length digits
all_before [] after all stops = stops
all_before (b ∷ digits) after all stops =
    let p = and_parts (is_digit b) (list_all is_digit digits) all in
    ap (λ (t : Bool). cond t (suc (digits_before (digits ++ after))) 0) p.0 ∙ ap suc (all_before digits after p.1 stops)

-- what is written of a number is read as one, if no digit follows
pub has_number : (name after : List ℕ) (n : ℕ) → n < 2 ^ 64 → digits_before after ≡ 0 → HasNumber (name ++ (decimal n ++ after)) name n
    after
has_number name after n fits stops = record {
  digits = decimal n;
  whole = refl;
  all = sym (all_before (decimal n) after (digits_decimal own n fits) stops);
  some = decimal_nonempty n fits;
  value = sym (digits_value-decimal own n fits);
  fits = fits;
}

-- ---- one number

pub same_front : (a b c d : List ℕ) → length a ≡ length b → a ++ c ≡ b ++ d → (a ≡ b) × (c ≡ d)
same_front [] [] c d l e = (refl, e)
same_front [] (y ∷ b) c d l e = absurd (omega (arith, l))
same_front (x ∷ a) [] c d l e = absurd (omega (arith, l))
same_front (x ∷ a) (y ∷ b) c d l e =
    let one : x ≡ y = cc in
    let rest : a ++ c ≡ b ++ d = cc in
    let lengths : length a ≡ length b = omega (arith, l) in
    let same = same_front a b c d lengths rest in
    let fronts : a ≡ b = same.0 in
    (λ i. one i ∷ fronts i, same.1)

pub one_number : (octets name : List ℕ) (m n : ℕ) (after other : List ℕ) → HasNumber octets name m after → HasNumber octets name n other →
    (m ≡ n) × (after ≡ other)
one_number octets name m n after other a b =
    let same : a.digits ++ after ≡ b.digits ++ other =
    append_cancel_left name (a.digits ++ after) (b.digits ++ other) (sym a.whole ∙ b.whole) in
    let lengths : length a.digits ≡ length b.digits = a.all ∙ ap digits_before same ∙ sym b.all in
    let parts = same_front a.digits b.digits after other lengths same in
    (a.value ∙ ap (digits_value 0) parts.0 ∙ sym b.value, parts.1)

-- two numbers are written as one text only if they are equal
pub written_once : (name : List ℕ) (m n : ℕ) (after other : List ℕ) → m < 2 ^ 64 → n < 2 ^ 64 → digits_before after ≡ 0 →
    digits_before other ≡ 0 → name ++ (decimal m ++ after) ≡ name ++ (decimal n ++ other) → (m ≡ n) × (after ≡ other)
written_once name m n after other m_fits n_fits stops ends same =
    one_number (name ++ (decimal m ++ after)) name m n after other (has_number name after m m_fits stops)
    (let h : HasNumber (name ++ (decimal n ++ other)) name n other = has_number name other n n_fits ends in
    record { digits = h.digits; whole = same ∙ h.whole; all = h.all; some = h.some; value = h.value; fits = h.fits })

-- ---- no number

-- bytes that differ from the name somewhere don't begin with it and a number
pub differ_at : (at : ℕ) (octets name : List ℕ) (number : ℕ) (after : List ℕ) →
    ((more : List ℕ) → get_or octets at 0 ≡ get_or (name ++ more) at 0 → ⊥) → HasNumber octets name number after → ⊥
differ_at at octets name number after differ h =
    differ (h.digits ++ after) (ap (λ (xs : List ℕ). get_or xs at 0) h.whole)

-- ---- what follows a number

pub behind_same : (octets other name rest : List ℕ) → octets ≡ other → IsBehind octets name rest → IsBehind other name rest
behind_same octets other name rest same is = record {
  number = λ number after h. is.number number after
      (record { digits = h.digits; whole = same ∙ h.whole; all = h.all; some = h.some; value = h.value; fits = h.fits });
  none = λ none. is.none (λ number after h. none number after
      (record { digits = h.digits; whole = sym same ∙ h.whole; all = h.all; some = h.some; value = h.value; fits = h.fits })) ∙ same;
}

pub behind_written : (name after rest : List ℕ) (n : ℕ) → n < 2 ^ 64 → digits_before after ≡ 0 →
    IsBehind (name ++ (decimal n ++ after)) name rest → rest ≡ after
behind_written name after rest n fits stops is = is.number n after (has_number name after n fits stops)

-- ---- the digits that bytes begin with

pub before_within : (octets : List ℕ) → digits_before octets ≤ length octets
before_within [] = omega arith
before_within (b ∷ octets) =
    elim (is_digit b) as (λ t. cond t (suc (digits_before octets)) 0 ≤ suc (length octets)) [
      | true ↦ let more = before_within octets in omega (arith, more)
      | false ↦ omega arith
    ]

pub taken_digits : (octets : List ℕ) → list_all is_digit (take (digits_before octets) octets) ≡ true
taken_digits [] = refl
taken_digits (b ∷ octets) =
    elim (is_digit b) as (λ t. is_digit b ≡ t → list_all is_digit (take (cond t (suc (digits_before octets)) 0) (b ∷ octets)) ≡ true) [
      | true ↦ λ e. both_true (is_digit b) (list_all is_digit (take (digits_before octets) octets)) e (taken_digits octets)
      | false ↦ λ e. refl
    ] refl

-- a number that is read from these digits
pub number_made : (octets name value : List ℕ) (number : ℕ) → octets ≡ name ++ value →
    IsValue (take (digits_before value) value) number → HasNumber octets name number (drop (digits_before value) value)
number_made octets name value number whole is =
    let parts : take (digits_before value) value ++ drop (digits_before value) value ≡ value = take-append-drop (digits_before value)
    value in
    record {
      digits = take (digits_before value) value;
      whole = whole ∙ ap (λ (t : List ℕ). name ++ t) (sym parts);
      all = length-take-le (digits_before value) value (before_within value) ∙ sym (ap digits_before parts);
      some = is.some;
      value = is.value;
      fits = is.fits;
    }

-- is the number that the bytes begin with
pub number_parts : (octets name value : List ℕ) (number : ℕ) (after : List ℕ) → octets ≡ name ++ value →
    HasNumber octets name number after → IsValue (take (digits_before value) value) number
number_parts octets name value number after whole h =
    let same : h.digits ++ after ≡ value = append_cancel_left name (h.digits ++ after) value (sym h.whole ∙ whole) in
    let count : length h.digits ≡ digits_before value = h.all ∙ ap digits_before same in
    let digits : take (digits_before value) value ≡ h.digits =
    ap (take (digits_before value)) (sym same) ∙ take_at h.digits after (digits_before value) count in
    subst (λ (ds : List ℕ). IsValue ds number) (sym digits) (record { some = h.some; value = h.value; fits = h.fits })

-- ---- what is found, and what is not

pub if_found : {X : Type 0} (o : Option X) (P : Type 0) (Q : X → Type 0) → MatchOption o P Q → IfSome o Q
if_found None P Q h = tt
if_found (Some x) P Q h = h

pub if_none : {X : Type 0} (o : Option X) (P : Type 0) (Q : X → Type 0) → MatchOption o P Q → IfNone o P
if_none None P Q h = h
if_none (Some x) P Q h = tt

-- digits are text
pub digits_utf8 : (ds : List ℕ) → list_all is_digit ds ≡ true → IsUtf8 ds
digits_utf8 ds h = IsUtf8-from_ascii ds (IsAscii-from_digits ds (own.to ds h))

-- what is parsed from digits is their value
pub parsed_value : {E : Type 0} (ds : List ℕ) (number : ℕ) (r : Result ℕ E) → r ≡ Ok number → ParsesUnsigned 64 10 ds r →
    list_all is_digit ds ≡ true → IsValue ds number
parsed_value {E} ds number (Ok n) is parses digits =
    let given = parse_digits own {E = E} 64 ds (Ok n) parses digits in
    let same : n ≡ number = cc in
    record { some = given.0.0; value = sym same ∙ given.1; fits = subst (λ (m : ℕ). m < 2 ^ 64) (sym given.1 ∙ same) given.0.1 }
parsed_value ds number (Err e) is parses digits = absurd (apart is)
  where
    apart : {T E : Type 0} {x : E} {t : T} → Err x ≡ Ok t → ⊥
    apart e = cc

pub unparsed : {E : Type 0} (ds : List ℕ) (number : ℕ) (r : Result ℕ E) (e : E) → r ≡ Err e → ParsesUnsigned 64 10 ds r →
    list_all is_digit ds ≡ true → IsValue ds number → ⊥
unparsed ds number (Ok n) e is parses digits value = apart is
  where
    apart : {T E : Type 0} {x : E} {t : T} → Ok t ≡ Err x → ⊥
    apart e = cc
unparsed ds number (Err x) e is parses digits value =
    parse_digits own 64 ds (Err x) parses digits (value.some, subst (λ (m : ℕ). m < 2 ^ 64) value.value value.fits)

pub parsed_some : {E : Type 0} (ds text : List ℕ) → text ≡ ds → (r : Result ℕ E) → ParsesUnsigned 64 10 text r →
    IfSome (result_ok r) (λ number. list_all is_digit ds ≡ true → IsValue ds number)
parsed_some {E} ds text same (Ok n) parses =
    parsed_value {E = E} ds n (Ok n) refl (subst (λ (t : List ℕ). ParsesUnsigned {E = E} 64 10 t (Ok n)) same parses)
parsed_some ds text same (Err e) parses = tt

pub parsed_none : {E : Type 0} (ds text : List ℕ) → text ≡ ds → (r : Result ℕ E) → ParsesUnsigned 64 10 text r →
    IfNone (result_ok r) (list_all is_digit ds ≡ true → (number : ℕ) → IsValue ds number → ⊥)
parsed_none ds text same (Ok n) parses = tt
parsed_none {E} ds text same (Err e) parses =
    λ digits number. unparsed {E = E} ds number (Err e) e refl (subst (λ (t : List ℕ). ParsesUnsigned {E = E} 64 10 t (Err e)) same parses)
    digits

-- ---- a beginning that is some text

pub begins_as : (octets begins text rest : List ℕ) → begins ≡ text → octets ≡ begins ++ rest → octets ≡ text ++ rest
begins_as octets begins text rest is cut = cut ∙ ap (λ (t : List ℕ). t ++ rest) is

pub begins_not : (octets begins text : List ℕ) → begins ≡ text → ((rest : List ℕ) → octets ≡ begins ++ rest → ⊥) →
    (rest : List ℕ) → octets ≡ text ++ rest → ⊥
begins_not octets begins text is none rest cut = none rest (cut ∙ ap (λ (t : List ℕ). t ++ rest) (sym is))

-- ---- one name after another

-- a number after two names is one after the second, once the first is stripped
pub behind_first : (octets first name rest : List ℕ) (number : ℕ) (after : List ℕ) → octets ≡ first ++ rest →
    HasNumber octets (first ++ name) number after → HasNumber rest name number after
behind_first octets first name rest number after cut h = record {
  digits = h.digits;
  whole = append_cancel_left first rest (name ++ (h.digits ++ after))
      (sym cut ∙ h.whole ∙ append_assoc first name (h.digits ++ after));
  all = h.all;
  some = h.some;
  value = h.value;
  fits = h.fits;
}

pub with_first : (octets first name rest : List ℕ) (number : ℕ) (after : List ℕ) → octets ≡ first ++ rest →
    HasNumber rest name number after → HasNumber octets (first ++ name) number after
with_first octets first name rest number after cut h = record {
  digits = h.digits;
  whole = cut ∙ ap (λ (t : List ℕ). first ++ t) h.whole ∙ sym (append_assoc first name (h.digits ++ after));
  all = h.all;
  some = h.some;
  value = h.value;
  fits = h.fits;
}

-- ---- how many digits there are

-- digits up to a place that has none
pub digits_at : (octets : List ℕ) (at : ℕ) → at < length octets → ((k : ℕ) → k < at → is_digit (get_or octets k 0) ≡ true) →
    is_digit (get_or octets at 0) ≡ false → at ≡ digits_before octets
digits_at [] at within each stops = absurd (omega (arith, within))
digits_at (b ∷ octets) zero within each stops = sym (ap (λ (t : Bool). cond t (suc (digits_before octets)) 0) stops)
digits_at (b ∷ octets) (suc at) within each stops =
    ap suc (digits_at octets at (omega arith) (λ k below. each (suc k) (omega arith)) stops)
    ∙ sym (ap (λ (t : Bool). cond t (suc (digits_before octets)) 0) (each 0 (omega arith)))

-- one more digit
pub each_more : (octets : List ℕ) (i : ℕ) → ((k : ℕ) → k < i → is_digit (get_or octets k 0) ≡ true) →
    is_digit (get_or octets i 0) ≡ true → (k : ℕ) → k < i + 1 → is_digit (get_or octets k 0) ≡ true
each_more octets i each more k below = elim (ltb k i) as (λ b. ltb k i ≡ b → is_digit (get_or octets k 0) ≡ true) [
  | true ↦ λ e. each k (ltb-true k i e)
  | false ↦ λ e.
      let same : i ≡ k = omega (arith, below, ltb-false k i e) in
      subst (λ (j : ℕ). is_digit (get_or octets j 0) ≡ true) same more
] refl

pub all_digits : (octets : List ℕ) → ((k : ℕ) → k < length octets → is_digit (get_or octets k 0) ≡ true) → length octets ≡ digits_before
    octets
all_digits [] each = refl
all_digits (b ∷ octets) each =
    ap suc (all_digits octets (λ k below. each (suc k) (omega arith)))
    ∙ sym (ap (λ (t : Bool). cond t (suc (digits_before octets)) 0) (each 0 (omega arith)))

pub no_octets_if : (octets : List ℕ) → length octets ≡ 0 → octets ≡ []
no_octets_if [] none = refl
no_octets_if (b ∷ octets) none = absurd (omega (arith, none))

pub some_octets_if : (octets : List ℕ) → 0 < length octets → octets ≡ [] → ⊥
some_octets_if octets some none = let size : length octets ≡ 0 = ap length none in omega (arith, some, size)

pub if_some_then : {X : Type 0} (o : Option X) (P Q : X → Type 0) → ((x : X) → P x → Q x) → IfSome o P → IfSome o Q
if_some_then None P Q f h = tt
if_some_then (Some x) P Q f h = f x h

pub if_none_then : {X P Q : Type 0} (o : Option X) → (P → Q) → IfNone o P → IfNone o Q
if_none_then None f h = f h
if_none_then (Some x) f h = tt
