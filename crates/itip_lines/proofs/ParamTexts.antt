-- The parameters of a text that was written are those that were written.
use Rattle.std.proofs.Common.{◌≡◌, ◌∙◌, sym, ap, refl, ℕ, ◌<◌, true, false, cond, List, [], ◌∷◌, ◌++◌, length, arith, subst, append_assoc}
use Rattle.std.proofs.Common.{append-nil}
use Rattle.std.specs.List.{list_all, list_any, AllByRecursion}
use Rattle.std.proofs.lemmas.Bool.{and_parts}
use Rattle.itip_lines.specs.Octets.{is_upper_name_octet, is_quotable_octet, is_plain_octet, is_separator}
use Rattle.itip_lines.specs.Lawful.{value_text, values_text, params_text, IsParamValue, IsLawfulParam}
use Rattle.itip_lines.specs.ParamsText.{Remains, with_octet, with_value, with_param, remains, params_in, IsParamsText}
use Rattle.itip_lines.specs.ParamsText.Place.{in_name, in_value, in_quotes}
use Rattle.itip_lines.specs.declared.line.Param.{Param}
use Rattle.itip_lines.proofs.OctetLemmas.{name_no_equals, plain_not_quote, plain_no_mark, quotable_not_quote}
use Rattle.itip_lines.proofs.Roundtrip.{plain_without}

abbrev left : List ℕ → List (List ℕ) → List Param → Remains
left part values params = record { part = part; values = values; params = params }

-- these octets before what is left
abbrev with_octets : List ℕ → Remains → Remains
with_octets bs r = left (bs ++ r.part) r.values r.params

past_name : (name rest : List ℕ) → list_all is_upper_name_octet name ≡ true →
    remains in_name (name ++ rest) ≡ with_octets name (remains in_name rest)
past_name [] rest h = refl
past_name (b ∷ bs) rest h =
    let p = and_parts _ _ h in
    rw (name_no_equals b p.0) (ap (λ (r : Remains). with_octet b r) (past_name bs rest p.1))

past_plain : (value rest : List ℕ) → list_all is_plain_octet value ≡ true →
    remains in_value (value ++ rest) ≡ with_octets value (remains in_value rest)
past_plain [] rest h = refl
past_plain (b ∷ bs) rest h =
    let p = and_parts _ _ h in
    let marks = plain_no_mark b p.0 in
    rw (plain_not_quote b p.0, marks.0, marks.1) (ap (λ (r : Remains). with_octet b r) (past_plain bs rest p.1))

past_quoted : (value rest : List ℕ) → list_all is_quotable_octet value ≡ true →
    remains in_quotes (value ++ 34 ∷ rest) ≡ with_octets value (remains in_value rest)
past_quoted [] rest h = refl
past_quoted (b ∷ bs) rest h =
    let p = and_parts _ _ h in
    rw (quotable_not_quote b p.0) (ap (λ (r : Remains). with_octet b r) (past_quoted bs rest p.1))

past_value : (value rest : List ℕ) → list_all is_quotable_octet value ≡ true →
    remains in_value (value_text value ++ rest) ≡ with_octets value (remains in_value rest)
past_value value rest h =
    elim (list_any is_separator value) as (λ v. list_any is_separator value ≡ v →
    remains in_value (cond v (34 ∷ (value ++ 34 ∷ [])) value ++ rest) ≡ with_octets value (remains in_value rest)) [
      | true ↦ λ e. ap (λ (t : List ℕ). remains in_quotes t) (append_assoc value (34 ∷ []) rest) ∙ past_quoted value rest h
      | false ↦ λ e. past_plain value rest (plain_without value h e)
    ] refl

past_values : (v : List ℕ) (vs : List (List ℕ)) (ps : List Param) → AllByRecursion IsParamValue (v ∷ vs) →
    remains in_value (params_text ps) ≡ left [] [] ps → remains in_value (values_text (v ∷ vs) ++ params_text ps) ≡ left v vs ps
past_values v [] ps h behind =
    past_value v (params_text ps) h.0.octets ∙ ap (λ (r : Remains). with_octets v r) behind
    ∙ ap (λ (t : List ℕ). left t [] ps) (append-nil v)
past_values v (w ∷ vs) ps h behind =
    ap (λ (t : List ℕ). remains in_value t) (append_assoc (value_text v) (44 ∷ values_text (w ∷ vs)) (params_text ps))
    ∙ past_value v (44 ∷ (values_text (w ∷ vs) ++ params_text ps)) h.0.octets
    ∙ ap (λ (r : Remains). with_octets v (with_value r)) (past_values w vs ps h.1 behind)
    ∙ ap (λ (t : List ℕ). left t (w ∷ vs) ps) (append-nil v)

past_equals : (vs : List (List ℕ)) (ps : List Param) → 0 < length vs → AllByRecursion IsParamValue vs →
    remains in_value (params_text ps) ≡ left [] [] ps → with_value (remains in_value (values_text vs ++ params_text ps)) ≡ left [] vs ps
past_equals [] ps some h behind = absurd (omega arith)
past_equals (v ∷ vs) ps some h behind = ap (λ (r : Remains). with_value r) (past_values v vs ps h behind)

past_params : (ps : List Param) → AllByRecursion IsLawfulParam ps → remains in_value (params_text ps) ≡ left [] [] ps
past_params [] h = refl
past_params (p ∷ ps) h =
    ap (λ (t : List ℕ). with_param (remains in_name t)) (append_assoc p.name (61 ∷ values_text p.values) (params_text ps))
    ∙ ap (λ (r : Remains). with_param r) (past_name p.name (61 ∷ (values_text p.values ++ params_text ps)) h.0.named.upper)
    ∙ ap (λ (r : Remains). with_param (with_octets p.name r)) (past_equals p.values ps h.0.some h.0.values (past_params ps h.1))
    ∙ ap (λ (t : List ℕ). left [] [] ((record { name = t; values = p.values }) ∷ ps)) (append-nil p.name)

-- what was written is found again
pub params_are : (text : List ℕ) (ps : List Param) → AllByRecursion IsLawfulParam ps → text ≡ params_text ps → params_in text ≡ ps
unfolding params_in
params_are text ps h e =
    ap (λ (t : List ℕ). (remains in_value t).params) e ∙ ap (λ (r : Remains). r.params) (past_params ps h)

pub is_params_text : (text : List ℕ) (ps : List Param) → AllByRecursion IsLawfulParam ps → text ≡ params_text ps → IsParamsText text
is_params_text text ps h e =
    let same = params_are text ps h e in
    record {
      each = subst (λ (qs : List Param). AllByRecursion IsLawfulParam qs) (sym same) h;
      text_is = e ∙ ap params_text (sym same);
    }
