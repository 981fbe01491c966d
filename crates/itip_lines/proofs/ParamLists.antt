-- The parameters of a line, read one after another, and the line's value.
use Rattle.std.proofs.Common.{◌≡◌, ◌∙◌, sym, ap, refl, ℕ, ◌<◌, true, false, List, [], ◌∷◌, ◌++◌, length, arith, subst, append_assoc}
use Rattle.std.proofs.Common.{length-append}
use Rattle.std.specs.Prelude.{◌==◌, IsTrue}
use Rattle.std.specs.Str.{IsUtf8, str_to_ascii_uppercase}
use Rattle.std.proofs.lemmas.List.{append-nil}
use Rattle.std.specs.List.{list_all}
use Rattle.itip_lines.specs.Lawful.{values_text, param_text, params_text}
use Rattle.itip_lines.specs.Octets.{is_name_octet, is_value_octet}
use Rattle.itip_lines.specs.Spelling.{ValuesThen, ParamThen, IsTail}
use Rattle.itip_lines.specs.Parts.{IsRun, begins, EndsParam, LacksValues, ReadsValues, WritesValues, LacksParam, ReadsParam, WritesParam}
use Rattle.itip_lines.specs.Parts.{LacksTail}
use Rattle.itip_lines.specs.declared.line.Param.{Param}
use Rattle.itip_lines.proofs.Runs.{one_run}
use Rattle.itip_lines.proofs.ValueLists.{one_values}
use Rattle.itip_lines.proofs.Written.{params_more}

pub same_param : (p q : Param) → p.name ≡ q.name → p.values ≡ q.values → p ≡ q
same_param p q e f = λ i. record { name = e i; values = f i }

-- a name followed by "="
pub name_run : (text spelled after : List ℕ) → IsTrue (list_all is_name_octet spelled) → text ≡ spelled ++ 61 ∷ after →
    IsRun is_name_octet text spelled (61 ∷ after)
name_run text spelled after h e = record { whole = e; passes = h; stops = refl }

tail_same : (x y : ℕ) (a b : List ℕ) → x ∷ a ≡ y ∷ b → a ≡ b
tail_same x y a b e = cc

-- the parameter that a text begins with is the only one
pub one_param : (text : List ℕ) (p : Param) (r : List ℕ) (q : Param) (s : List ℕ) → ParamThen text p r → EndsParam r → ParamThen text q s →
    EndsParam s → (p ≡ q) × (r ≡ s)
one_param text p r q s h e k f =
    let names = one_run is_name_octet text h.spelled (61 ∷ h.after) k.spelled (61 ∷ k.after)
    (name_run text h.spelled h.after h.named.octets h.whole) (name_run text k.spelled k.after k.named.octets k.whole) in
    let values = one_values h.after p.values r q.values s h.values e
    (subst (λ (t : List ℕ). ValuesThen t q.values s) (sym (tail_same 61 61 h.after k.after names.1)) k.values) f in
    (same_param p q (h.named.name_is ∙ ap upper names.0 ∙ sym k.named.name_is) values.0, values.1)
  where
    upper : List ℕ → List ℕ
    upper x = str_to_ascii_uppercase x

-- where no parameter begins
pub lacks_equals : (text spelled behind : List ℕ) → IsRun is_name_octet text spelled behind →
    ((after : List ℕ) → behind ≡ 61 ∷ after → ⊥) → LacksParam text
lacks_equals text spelled behind run none = λ p rest h ends.
    none h.after (one_run is_name_octet text spelled behind h.spelled (61 ∷ h.after) run
    (name_run text h.spelled h.after h.named.octets h.whole)).1

pub lacks_name : (text spelled behind : List ℕ) → IsRun is_name_octet text spelled behind → length spelled ≡ 0 → LacksParam text
lacks_name text spelled behind run empty = λ p rest h ends.
    let one = one_run is_name_octet text spelled behind h.spelled (61 ∷ h.after) run
    (name_run text h.spelled h.after h.named.octets h.whole) in
    absurd (omega (arith, h.named.some, empty, ap length one.0))

pub lacks_values : (text spelled behind after : List ℕ) → IsRun is_name_octet text spelled behind → behind ≡ 61 ∷ after →
    LacksValues after → LacksParam text
lacks_values text spelled behind after run equals lacks = λ p rest h ends.
    let one = one_run is_name_octet text spelled behind h.spelled (61 ∷ h.after) run
    (name_run text h.spelled h.after h.named.octets h.whole) in
    lacks p.values rest (subst (λ (t : List ℕ). ValuesThen t p.values rest) (sym (tail_same 61 61 after h.after (sym equals ∙ one.1)))
    h.values) ends

-- a name, "=" and values
pub param_read : (text spelled behind after : List ℕ) (values : List (List ℕ)) (rest : List ℕ) → IsRun is_name_octet text spelled behind →
    behind ≡ 61 ∷ after → 0 < length spelled → ReadsValues after values rest →
    ReadsParam text (record { name = str_to_ascii_uppercase spelled; values = values }) rest
param_read text spelled behind after values rest run equals some reads = record {
  is = record {
    spelled = spelled;
    after = after;
    whole = run.whole ∙ ap (λ t. spelled ++ t) equals;
    named = record { some = some; octets = run.passes; name_is = refl };
    values = reads.are;
  };
  ends = reads.ends;
  utf8 = reads.utf8;
  shorter = omega (arith, reads.shorter, ap length run.whole, length-append spelled behind, ap length equals);
}

-- the same where both are written
pub param_wrote : (text spelled behind after rest old at new : List ℕ) → IsRun is_name_octet text spelled behind → behind ≡ 61 ∷ after →
    0 < length spelled → at ≡ old ++ 59 ∷ (str_to_ascii_uppercase spelled ++ 61 ∷ []) → WritesValues after rest at new →
    WritesParam text rest old new
param_wrote text spelled behind after rest old at new run equals some named w = record {
  param = record { name = str_to_ascii_uppercase spelled; values = w.values };
  reads = param_read text spelled behind after w.values rest run equals some w.reads;
  wrote = w.wrote ∙ ap (λ t. t ++ values_text w.values) named
      ∙ append_assoc old (59 ∷ (str_to_ascii_uppercase spelled ++ 61 ∷ [])) (values_text w.values)
      ∙ ap (λ t. old ++ 59 ∷ t) (append_assoc (str_to_ascii_uppercase spelled) (61 ∷ []) (values_text w.values));
}

-- what follows a parameter, in a tail
pub tail_ends : (text : List ℕ) (ps : List Param) (value : List ℕ) → IsTail text ps value → EndsParam text
tail_ends text [] value h = rw h.0 refl
tail_ends text (p ∷ ps) value h = rw h.2 refl

-- `done` are the first parameters of the tail, and `rest` is left
pub record HasParams (text : List ℕ) (done : List Param) (rest : List ℕ) : Type 0 where
  pub onward : (ps : List Param) (value : List ℕ) → IsTail rest ps value → IsTail text (done ++ ps) value
  pub back : (ps : List Param) (value : List ℕ) → IsTail text ps value → (qs : List Param) × (ps ≡ done ++ qs) × IsTail rest qs value
  pub utf8 : IsUtf8 rest

pub no_params : (text : List ℕ) → IsUtf8 text → HasParams text [] text
no_params text u = record { onward = λ ps value h. h; back = λ ps value h. (ps, refl, h); utf8 = u }

colon_or_semicolon : (a b : List ℕ) → 58 ∷ a ≡ 59 ∷ b → ⊥
colon_or_semicolon a b e = let f : true ≡ false = ap (begins (λ x. x == 58)) e in cc

pub more_params : (text : List ℕ) (done : List Param) (rest after : List ℕ) (param : Param) (behind : List ℕ) → HasParams text done rest →
    rest ≡ 59 ∷ after → ReadsParam after param behind → HasParams text (done ++ param ∷ []) behind
more_params text done rest after param behind has semicolon reads = record {
  onward = λ ps value h. subst (λ (qs : List Param). IsTail text qs value) (sym (append_assoc done (param ∷ []) ps))
      (has.onward (param ∷ ps) value (after, behind, semicolon, reads.is, h));
  back = λ ps value h. off ps value (has.back ps value h);
  utf8 = reads.utf8;
}
  where
    off : (ps : List Param) (value : List ℕ) → ((qs : List Param) × (ps ≡ done ++ qs) × IsTail rest qs value) → (qs : List Param) ×
        (ps ≡ done ++ param ∷ [] ++ qs) × IsTail behind qs value
    off ps value ([], e, h) = absurd (colon_or_semicolon value after (sym h.0 ∙ semicolon))
    off ps value (q ∷ qs, e, h) =
        let same = tail_same 59 59 after h.0 (sym semicolon ∙ h.2) in
        let one = one_param after param behind q h.1 reads.is reads.ends (subst (λ (t : List ℕ). ParamThen t q h.1) (sym same) h.3)
        (tail_ends h.1 qs value h.4) in (
          qs,
          e ∙ ap (λ (x : Param). done ++ x ∷ qs) (sym one.0) ∙ sym (append_assoc done (param ∷ []) qs),
          subst (λ (t : List ℕ). IsTail t qs value) (sym one.1) h.4,
        )

-- there is no parameter where one has to be
pub lacks_next_param : (text : List ℕ) (done : List Param) (rest after : List ℕ) → HasParams text done rest → rest ≡ 59 ∷ after →
    LacksParam after → LacksTail text
lacks_next_param text done rest after has semicolon lacks = λ ps value h. none value (has.back ps value h)
  where
    none : {ps : List Param} (value : List ℕ) → ((qs : List Param) × (ps ≡ done ++ qs) × IsTail rest qs value) → ⊥
    none value ([], e, h) = colon_or_semicolon value after (sym h.0 ∙ semicolon)
    none value (q ∷ qs, e, h) =
        let same = tail_same 59 59 after h.0 (sym semicolon ∙ h.2) in
        lacks q h.1 (subst (λ (t : List ℕ). ParamThen t q h.1) (sym same) h.3) (tail_ends h.1 qs value h.4)

-- neither a parameter nor a value follows
pub lacks_colon : (text : List ℕ) (done : List Param) (rest : List ℕ) → HasParams text done rest →
    ((after : List ℕ) → rest ≡ 59 ∷ after → ⊥) → ((after : List ℕ) → rest ≡ 58 ∷ after → ⊥) → LacksTail text
lacks_colon text done rest has no_param no_value = λ ps value h. none value (has.back ps value h)
  where
    none : {ps : List Param} (value : List ℕ) → ((qs : List Param) × (ps ≡ done ++ qs) × IsTail rest qs value) → ⊥
    none value ([], e, h) = no_value value h.0
    none value (q ∷ qs, e, h) = no_param h.0 h.2

-- the value has an octet that no value has
pub lacks_value : (text : List ℕ) (done : List Param) (rest value : List ℕ) → HasParams text done rest → rest ≡ 58 ∷ value →
    list_all is_value_octet value ≡ false → LacksTail text
lacks_value text done rest value has colon bad = λ ps v h. none v (has.back ps v h)
  where
    none : {ps : List Param} (v : List ℕ) → ((qs : List Param) × (ps ≡ done ++ qs) × IsTail rest qs v) → ⊥
    none v ([], e, h) =
        let same = tail_same 58 58 value v (sym colon ∙ h.0) in
        let f : false ≡ true = sym bad ∙ ap (list_all is_value_octet) same ∙ h.1 in cc
    none v (q ∷ qs, e, h) = colon_or_semicolon value h.0 (sym colon ∙ h.2)

-- the value ends the tail
pub all_params : (text : List ℕ) (done : List Param) (rest value : List ℕ) → HasParams text done rest → rest ≡ 58 ∷ value →
    list_all is_value_octet value ≡ true → IsTail text done value
all_params text done rest value has colon good =
    subst (λ (ps : List Param). IsTail text ps value) (append-nil done) (has.onward [] value (colon, good))

-- the first parameters of the tail are read, and their text is `new`
pub record HasWrittenParams (text rest new : List ℕ) : Type 0 where
  pub done : List Param
  pub has : HasParams text done rest
  pub wrote : new ≡ params_text done

pub wrote_no_params : (text new : List ℕ) → IsUtf8 text → new ≡ [] → HasWrittenParams text text new
wrote_no_params text new u e = record { done = []; has = no_params text u; wrote = e }

pub wrote_more_params : (text rest after behind at new : List ℕ) → HasWrittenParams text rest at → rest ≡ 59 ∷ after →
    WritesParam after behind at new → HasWrittenParams text behind new
wrote_more_params text rest after behind at new h semicolon w = record {
  done = h.done ++ w.param ∷ [];
  has = more_params text h.done rest after w.param behind h.has semicolon w.reads;
  wrote = w.wrote ∙ ap (λ t. t ++ param_text w.param) h.wrote ∙ sym (params_more h.done w.param);
}

-- the tail is the only one
pub one_tail : (text : List ℕ) (ps : List Param) (v : List ℕ) (qs : List Param) (w : List ℕ) → IsTail text ps v → IsTail text qs w →
    (ps ≡ qs) × (v ≡ w)
one_tail text [] v [] w h k = (refl, tail_same 58 58 v w (sym h.0 ∙ k.0))
one_tail text [] v (q ∷ qs) w h k = absurd (colon_or_semicolon v k.0 (sym h.0 ∙ k.2))
one_tail text (p ∷ ps) v [] w h k = absurd (colon_or_semicolon w h.0 (sym k.0 ∙ h.2))
one_tail text (p ∷ ps) v (q ∷ qs) w h k =
    let same = tail_same 59 59 h.0 k.0 (sym h.2 ∙ k.2) in
    let one = one_param h.0 p h.1 q k.1 h.3 (tail_ends h.1 ps v h.4) (subst (λ (t : List ℕ). ParamThen t q k.1) (sym same) k.3)
    (tail_ends k.1 qs w k.4) in
    let more = one_tail h.1 ps v qs w h.4 (subst (λ (t : List ℕ). IsTail t qs w) (sym one.1) k.4) in
    (ap (λ (x : Param). x ∷ ps) one.0 ∙ ap (λ (xs : List Param). q ∷ xs) more.0, more.1)
