-- Where the value of a line begins in its text.
use Rattle.std.proofs.Common.{◌≡◌, ◌∙◌, sym, ap, refl, ℕ, true, false, cond, List, [], ◌∷◌, ◌++◌, append_assoc, append-nil, arith}
use Rattle.std.specs.List.{list_all, list_any, AllByRecursion}
use Rattle.std.proofs.lemmas.Bool.{and_parts}
use Rattle.std.proofs.lemmas.Bool.Decides.{nat_tests}
use Rattle.std.specs.Prelude.{◌==◌}
use Rattle.itip_lines.specs.Lawful.{value_text, values_text, param_text, params_text, IsParamValue, IsLawfulParam}
use Rattle.itip_lines.specs.LineTexts.{Halves, with_front, halves}
use Rattle.itip_lines.specs.Octets.{is_upper_name_octet, is_quotable_octet, is_plain_octet, is_separator}
use Rattle.itip_lines.specs.declared.line.Param.{Param}
use Rattle.itip_lines.proofs.OctetLemmas.{quotable_not_quote, plain_not_quote}
use Rattle.itip_lines.proofs.Roundtrip.{plain_without}

plain_no_colon : (b : ℕ) → is_plain_octet b ≡ true → (b == 58) ≡ false
plain_no_colon b h = grind (arith, nat_tests)

upper_plain : (b : ℕ) → is_upper_name_octet b ≡ true → is_plain_octet b ≡ true
upper_plain b h = grind (arith, nat_tests)

-- these octets before what is there
abbrev before : List ℕ → Halves → Halves
before bs h = record { front = bs ++ h.front; value = h.value }

-- the text has no ":" outside quotes, and quotes that begin in it end in it
abbrev IsQuiet : List ℕ → Type 0
IsQuiet text = (rest : List ℕ) → halves false (text ++ rest) ≡ before text (halves false rest)

both : (a b : List ℕ) → IsQuiet a → IsQuiet b → IsQuiet (a ++ b)
both a b first second = λ rest.
    let behind : Halves = halves false rest in
    let joined : before a (before b behind) ≡ before (a ++ b) behind =
    λ i. record { front = sym (append_assoc a b behind.front) i; value = behind.value } in
    ap (λ (t : List ℕ). halves false t) (append_assoc a b rest) ∙ first (b ++ rest) ∙ ap (λ (h : Halves). before a h) (second rest) ∙ joined

plain_text : (text : List ℕ) → list_all is_plain_octet text ≡ true → IsQuiet text
plain_text [] h = λ rest. refl
plain_text (b ∷ bs) h = λ rest.
    let parts = and_parts _ _ h in
    rw (plain_no_colon b parts.0, plain_not_quote b parts.0) (ap (λ (r : Halves). with_front b r) (plain_text bs parts.1 rest))

name_text : (name : List ℕ) → list_all is_upper_name_octet name ≡ true → IsQuiet name
name_text [] h = λ rest. refl
name_text (b ∷ bs) h = λ rest.
    let parts = and_parts _ _ h in
    let plain = upper_plain b parts.0 in
    rw (plain_no_colon b plain, plain_not_quote b plain) (ap (λ (r : Halves). with_front b r) (name_text bs parts.1 rest))

in_quotes : (value rest : List ℕ) → list_all is_quotable_octet value ≡ true →
    halves true (value ++ 34 ∷ rest) ≡ before (value ++ 34 ∷ []) (halves false rest)
in_quotes [] rest h = refl
in_quotes (b ∷ bs) rest h =
    let parts = and_parts _ _ h in
    rw (quotable_not_quote b parts.0) (ap (λ (r : Halves). with_front b r) (in_quotes bs rest parts.1))

quoted : (value : List ℕ) → list_all is_quotable_octet value ≡ true → IsQuiet (34 ∷ (value ++ 34 ∷ []))
quoted value h = λ rest.
    ap (λ (t : List ℕ). with_front 34 (halves true t)) (append_assoc value (34 ∷ []) rest)
    ∙ ap (λ (r : Halves). with_front 34 r) (in_quotes value rest h)

value_quiet : (value : List ℕ) → IsParamValue value → IsQuiet (value_text value)
value_quiet value h =
    elim (list_any is_separator value) as (λ v. list_any is_separator value ≡ v → IsQuiet (cond v (34 ∷ (value ++ 34 ∷ [])) value)) [
      | true ↦ λ e. quoted value h.octets
      | false ↦ λ e. plain_text value (plain_without value h.octets e)
    ] refl

comma : IsQuiet (44 ∷ [])
comma = λ rest. refl

semicolon : IsQuiet (59 ∷ [])
semicolon = λ rest. refl

equals : IsQuiet (61 ∷ [])
equals = λ rest. refl

values_quiet : (vs : List (List ℕ)) → AllByRecursion IsParamValue vs → IsQuiet (values_text vs)
values_quiet [] h = λ rest. refl
values_quiet (v ∷ []) h = value_quiet v h.0
values_quiet (v ∷ (w ∷ vs)) h =
    both (value_text v) (44 ∷ values_text (w ∷ vs)) (value_quiet v h.0)
    (both (44 ∷ []) (values_text (w ∷ vs)) comma (values_quiet (w ∷ vs) h.1))

param_quiet : (p : Param) → IsLawfulParam p → IsQuiet (param_text p)
param_quiet p h =
    both (59 ∷ []) (p.name ++ 61 ∷ values_text p.values) semicolon
    (both p.name (61 ∷ values_text p.values) (name_text p.name h.named.upper)
    (both (61 ∷ []) (values_text p.values) equals (values_quiet p.values h.values)))

params_quiet : (ps : List Param) → AllByRecursion IsLawfulParam ps → IsQuiet (params_text ps)
params_quiet [] h = λ rest. refl
params_quiet (p ∷ ps) h = both (param_text p) (params_text ps) (param_quiet p h.0) (params_quiet ps h.1)

-- the value begins after the parameters
pub halves_are : (ps : List Param) (value : List ℕ) → AllByRecursion IsLawfulParam ps →
    halves false (params_text ps ++ 58 ∷ value) ≡ record { front = params_text ps; value = value }
halves_are ps value h =
    params_quiet ps h (58 ∷ value) ∙ ap (λ (t : List ℕ). let r : Halves = record { front = t; value = value } in r)
    (append-nil (params_text ps))
