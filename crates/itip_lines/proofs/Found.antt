-- What is found in the text of parameters under a name is what the parameters have.
use Rattle.std.proofs.Common.{◌≡◌, ◌≢◌, ◌∙◌, sym, ap, refl, ℕ, ◌<◌, true, false, cond, List, [], ◌∷◌, ◌++◌, length, arith, subst}
use Rattle.std.proofs.Common.{append_assoc, ◌==◌, Option, Some, None, Bor, is_some, MatchOption}
use Rattle.std.specs.List.{list_all, list_any, AllByRecursion}
use Rattle.std.proofs.lemmas.Bool.{and_parts, or_parts}
use Rattle.itip_lines.specs.Octets.{is_name_octet, is_quotable_octet, is_plain_octet, is_separator}
use Rattle.itip_lines.specs.Lawful.{value_text, values_text, params_text, IsParamValue, IsLawfulParam}
use Rattle.itip_lines.specs.Parts.{IsRun, begins}
use Rattle.itip_lines.specs.Lookup.{same_text, has_param, first_value, param_value, behind_values, StandsFor, BeginsWithValue, IsFound}
use Rattle.itip_lines.specs.declared.line.Param.{Param}
use Rattle.itip_lines.proofs.OctetLemmas.{plain_not_quote, plain_no_mark, quotable_not_quote}
use Rattle.itip_lines.proofs.Runs.{one_run}
use Rattle.itip_lines.proofs.Values.{quoted_run, quote_clash}
use Rattle.itip_lines.proofs.ParamLists.{name_run}
use Rattle.itip_lines.proofs.Roundtrip.{name_spells, plain_without, param_then}

-- ---- after the values of a parameter

past_quoted : (value rest : List ℕ) → list_all is_quotable_octet value ≡ true → behind_values true (value ++ rest) ≡ behind_values true rest
past_quoted [] rest h = refl
past_quoted (b ∷ bs) rest h = let p = and_parts _ _ h in rw (quotable_not_quote b p.0) (past_quoted bs rest p.1)

past_plain : (value rest : List ℕ) → list_all is_plain_octet value ≡ true → behind_values false (value ++ rest) ≡ behind_values false rest
past_plain [] rest h = refl
past_plain (b ∷ bs) rest h =
    let p = and_parts _ _ h in
    let marks = plain_no_mark b p.0 in
    rw (marks.0, plain_not_quote b p.0) (past_plain bs rest p.1)

past_value : (value rest : List ℕ) → list_all is_quotable_octet value ≡ true →
    behind_values false (value_text value ++ rest) ≡ behind_values false rest
past_value value rest h =
    elim (list_any is_separator value) as (λ v. list_any is_separator value ≡ v →
    behind_values false (cond v (34 ∷ (value ++ 34 ∷ [])) value ++ rest) ≡ behind_values false rest) [
      | true ↦ λ e. ap (λ (t : List ℕ). behind_values true t) (append_assoc value (34 ∷ []) rest) ∙ past_quoted value (34 ∷ rest) h
      | false ↦ λ e. past_plain value rest (plain_without value h e)
    ] refl

at_params : (ps : List Param) → behind_values false (params_text ps) ≡ params_text ps
at_params [] = refl
at_params (p ∷ ps) = refl

past_values : (vs : List (List ℕ)) (ps : List Param) → AllByRecursion IsParamValue vs →
    behind_values false (values_text vs ++ params_text ps) ≡ params_text ps
past_values [] ps h = at_params ps
past_values (v ∷ []) ps h = past_value v (params_text ps) h.0.octets ∙ at_params ps
past_values (v ∷ (w ∷ vs)) ps h =
    ap (λ (t : List ℕ). behind_values false t) (append_assoc (value_text v) (44 ∷ values_text (w ∷ vs)) (params_text ps))
    ∙ past_value v (44 ∷ (values_text (w ∷ vs) ++ params_text ps)) h.0.octets
    ∙ past_values (w ∷ vs) ps h.1

-- ---- one parameter after another

pub all_stand : (name : List ℕ) (ps : List Param) (text : List ℕ) → AllByRecursion IsLawfulParam ps → text ≡ params_text ps →
    StandsFor name ps text
all_stand name ps text h e = record { left = ps; each = h; text_is = e; has = refl; value = refl }

-- the first parameter, cut into its name and what follows it
pub record FirstParam (name : List ℕ) (ps : List Param) (spelled behind : List ℕ) : Type 0 where
  pub first : Param
  pub others : List Param
  pub lawful : IsLawfulParam first
  pub each : AllByRecursion IsLawfulParam others
  pub named : spelled ≡ first.name
  pub values : behind ≡ 61 ∷ (values_text first.values ++ params_text others)
  pub has : has_param name ps ≡ has_param name (first ∷ others)
  pub value : param_value name ps ≡ param_value name (first ∷ others)

first_param : (name : List ℕ) (ps : List Param) (text param spelled behind : List ℕ) → StandsFor name ps text → text ≡ 59 ∷ param →
    IsRun is_name_octet param spelled behind → FirstParam name ps spelled behind
first_param name ps text param spelled behind stands semicolon run =
    of_left stands.left stands.each stands.text_is stands.has stands.value
  where
    of_left : (left : List Param) → AllByRecursion IsLawfulParam left → text ≡ params_text left → has_param name ps ≡ has_param name left →
        param_value name ps ≡ param_value name left → FirstParam name ps spelled behind
    of_left [] each e has value = absurd (let none : 59 ∷ param ≡ [] = sym semicolon ∙ e in cc)
    of_left (p ∷ qs) each e has value =
        let same : param ≡ p.name ++ 61 ∷ (values_text p.values ++ params_text qs) =
        (let both : 59 ∷ param ≡ 59 ∷ (p.name ++ 61 ∷ (values_text p.values ++ params_text qs)) = sym semicolon ∙ e ∙
        param_then p (params_text qs) in cc) in
        let one = one_run is_name_octet param spelled behind p.name (61 ∷ (values_text p.values ++ params_text qs)) run
        (name_run param p.name (values_text p.values ++ params_text qs) (name_spells p.name each.0.named).octets same) in
        record {
          first = p;
          others = qs;
          lawful = each.0;
          each = each.1;
          named = one.0;
          values = one.1;
          has = has;
          value = value;
        }

has_next : (name : List ℕ) (p : Param) (qs : List Param) → same_text p.name name ≡ false → has_param name (p ∷ qs) ≡ has_param name qs
has_next name p qs h = rw h refl

value_next : (name : List ℕ) (p : Param) (qs : List Param) → same_text p.name name ≡ false → param_value name (p ∷ qs) ≡ param_value name qs
value_next name p qs h = rw h refl

has_here : (name : List ℕ) (p : Param) (qs : List Param) → same_text p.name name ≡ true → has_param name (p ∷ qs) ≡ true
has_here name p qs h = rw h refl

value_here : (name : List ℕ) (p : Param) (qs : List Param) → same_text p.name name ≡ true → param_value name (p ∷ qs) ≡ first_value p.values
value_here name p qs h = rw h refl

-- one of another name
pub stands_behind : (name : List ℕ) (ps : List Param) (text param spelled behind after : List ℕ) → StandsFor name ps text →
    text ≡ 59 ∷ param → IsRun is_name_octet param spelled behind → same_text spelled name ≡ false → after ≡ behind_values false behind →
    StandsFor name ps after
stands_behind name ps text param spelled behind after stands semicolon run other e =
    let f = first_param name ps text param spelled behind stands semicolon run in
    let apart : same_text f.first.name name ≡ false = subst (λ (n : List ℕ). same_text n name ≡ false) f.named other in
    record {
      left = f.others;
      each = f.each;
      text_is = e ∙ ap (λ (t : List ℕ). behind_values false t) f.values ∙ past_values f.first.values f.others f.lawful.values;
      has = f.has ∙ has_next name f.first f.others apart;
      value = f.value ∙ value_next name f.first f.others apart;
    }

params_stop : (ps : List Param) → begins is_plain_octet (params_text ps) ≡ false
params_stop [] = refl
params_stop (p ∷ ps) = refl

params_unquoted : (ps : List Param) → begins (λ b. b == 34) (params_text ps) ≡ false
params_unquoted [] = refl
params_unquoted (p ∷ ps) = refl

begins_with_first : (vs : List (List ℕ)) (ps : List Param) → 0 < length vs → AllByRecursion IsParamValue vs →
    BeginsWithValue (first_value vs) (values_text vs ++ params_text ps)
begins_with_first [] ps some h = absurd (omega arith)
begins_with_first (v ∷ []) ps some h =
    record { rest = params_text ps; lawful = h.0; whole = refl; stops = params_stop ps; unquoted = params_unquoted ps }
begins_with_first (v ∷ (w ∷ vs)) ps some h = record {
  rest = 44 ∷ (values_text (w ∷ vs) ++ params_text ps);
  lawful = h.0;
  whole = append_assoc (value_text v) (44 ∷ values_text (w ∷ vs)) (params_text ps);
  stops = refl;
  unquoted = refl;
}

-- one of this name
pub found_here : (name : List ℕ) (ps : List Param) (text param spelled behind : List ℕ) (o : Option (Bor (List ℕ))) →
    StandsFor name ps text → text ≡ 59 ∷ param → IsRun is_name_octet param spelled behind → same_text spelled name ≡ true →
    MatchOption o ((rest : List ℕ) → behind ≢ 61 ∷ rest) (λ rest. behind ≡ 61 ∷ rest.now) →
    MatchOption o (has_param name ps ≡ false) (λ values. IsFound name ps values.now)
found_here name ps text param spelled behind None stands semicolon run same none =
    let f = first_param name ps text param spelled behind stands semicolon run in
    absurd (none (values_text f.first.values ++ params_text f.others) f.values)
found_here name ps text param spelled behind (Some values) stands semicolon run same equals =
    let f = first_param name ps text param spelled behind stands semicolon run in
    let alike : same_text f.first.name name ≡ true = subst (λ (n : List ℕ). same_text n name ≡ true) f.named same in
    let there : values.now ≡ values_text f.first.values ++ params_text f.others =
    (let both : 61 ∷ values.now ≡ 61 ∷ (values_text f.first.values ++ params_text f.others) = sym equals ∙ f.values in cc) in
    record {
      has = f.has ∙ has_here name f.first f.others alike;
      begins_with =
          subst (λ (v : List ℕ). BeginsWithValue v values.now) (sym (f.value ∙ value_here name f.first f.others alike))
          (subst (λ (t : List ℕ). BeginsWithValue (first_value f.first.values) t) (sym there)
          (begins_with_first f.first.values f.others f.lawful.some f.lawful.values));
    }

-- no parameter is left
pub found_none : (name : List ℕ) (ps : List Param) (text : List ℕ) → StandsFor name ps text → ((param : List ℕ) → text ≢ 59 ∷ param) →
    has_param name ps ≡ false
found_none name ps text stands none = stands.has ∙ empty stands.left stands.text_is
  where
    empty : (left : List Param) → text ≡ params_text left → has_param name left ≡ false
    empty [] e = refl
    empty (p ∷ qs) e = absurd (none ((p.name ++ 61 ∷ values_text p.values) ++ params_text qs) e)

-- what is found tells whether there is one
pub found_tells : (name : List ℕ) (ps : List Param) (o : Option (Bor (List ℕ))) →
    MatchOption o (has_param name ps ≡ false) (λ values. IsFound name ps values.now) → is_some o ≡ has_param name ps
found_tells name ps None h = sym h
found_tells name ps (Some values) h = sym h.has

pub none_named : (name : List ℕ) (ps : List Param) → has_param name ps ≡ false → param_value name ps ≡ []
none_named name [] h = refl
none_named name (p ∷ ps) h = let q = or_parts (same_text p.name name) (has_param name ps) h in rw q.0 (none_named name ps q.1)

-- ---- the value at the front

pub leads_quoted : (text quoted front behind value : List ℕ) → text ≡ 34 ∷ quoted → IsRun is_quotable_octet quoted front behind →
    BeginsWithValue value text → front ≡ value
leads_quoted text quoted front behind value quote run h =
    elim (list_any is_separator value) as (λ s. list_any is_separator value ≡ s → text ≡ cond s (34 ∷ (value ++ 34 ∷ [])) value ++ h.rest →
    front ≡ value) [
      | true ↦ λ e whole.
          let inside : quoted ≡ (value ++ 34 ∷ []) ++ h.rest =
          (let both : 34 ∷ quoted ≡ 34 ∷ ((value ++ 34 ∷ []) ++ h.rest) = sym quote ∙ whole in cc) in
          (one_run is_quotable_octet quoted front behind value (34 ∷ h.rest) run
          (quoted_run quoted value h.rest h.lawful.octets (inside ∙ append_assoc value (34 ∷ []) h.rest))).0
      | false ↦ λ e whole. absurd (quote_clash text quoted quote
          (subst (λ (t : List ℕ). begins (λ b. b == 34) t ≡ false) (sym whole) (unquoted value (plain_without value h.lawful.octets e))))
    ] refl h.whole
  where
    unquoted : (v : List ℕ) → list_all is_plain_octet v ≡ true → begins (λ b. b == 34) (v ++ h.rest) ≡ false
    unquoted [] plain = h.unquoted
    unquoted (b ∷ bs) plain = plain_not_quote b (and_parts _ _ plain).0

pub leads_plain : (text front behind value : List ℕ) → ((quoted : List ℕ) → text ≢ 34 ∷ quoted) →
    IsRun is_plain_octet text front behind → BeginsWithValue value text → front ≡ value
leads_plain text front behind value none run h =
    elim (list_any is_separator value) as (λ s. list_any is_separator value ≡ s → text ≡ cond s (34 ∷ (value ++ 34 ∷ [])) value ++ h.rest →
    front ≡ value) [
      | true ↦ λ e whole. absurd (none ((value ++ 34 ∷ []) ++ h.rest) whole)
      | false ↦ λ e whole. (one_run is_plain_octet text front behind value h.rest run
          (record { whole = whole; passes = plain_without value h.lawful.octets e; stops = h.stops })).0
    ] refl h.whole
