-- The values of a parameter, read one after another.
use Rattle.std.proofs.Common.{◌≡◌, ◌∙◌, sym, ap, refl, ℕ, ◌≤◌, true, false, List, [], ◌∷◌, ◌++◌, length, arith, subst, append_assoc}
use Rattle.std.proofs.Common.{length-append, append-nil}
use Rattle.std.specs.Str.{IsUtf8}
use Rattle.itip_lines.specs.Lawful.{value_text, values_text}
use Rattle.itip_lines.specs.Spelling.{ValueThen, ValuesThen}
use Rattle.itip_lines.specs.Parts.{begins, ends_param, EndsValue, EndsParam, CutsValue, LacksValue, LacksValues, ReadsValues}
use Rattle.itip_lines.specs.Parts.{WritesValues}
use Rattle.itip_lines.specs.Parts.CutsValue.{quoted, plain}
use Rattle.itip_lines.proofs.Values.{one_value, one_cut, cuts_from_then, then_from_cuts}
use Rattle.itip_lines.proofs.Utf8Parts.{utf8_value, utf8_behind}

pub param_ends_value : (rest : List ℕ) → EndsParam rest → EndsValue rest
param_ends_value [] e = e
param_ends_value (b ∷ rest) e = rw e refl

-- `done` are the first values of the text, with the commas after them, and `rest` is left
pub record HasValues (text : List ℕ) (done : List (List ℕ)) (rest : List ℕ) : Type 0 where
  pub onward : (vs : List (List ℕ)) (out : List ℕ) → ValuesThen rest vs out → ValuesThen text (done ++ vs) out
  pub back : (vs : List (List ℕ)) (out : List ℕ) → ValuesThen text vs out → EndsParam out → (us : List (List ℕ)) × (vs ≡ done ++ us) ×
      ValuesThen rest us out
  pub utf8 : IsUtf8 rest
  pub shorter : length rest ≤ length text

pub no_values : (text : List ℕ) → IsUtf8 text → HasValues text [] text
no_values text u = record { onward = λ vs out h. h; back = λ vs out h e. (vs, refl, h); utf8 = u; shorter = omega arith }

pub cut_shorter : (text value rest : List ℕ) → CutsValue text value rest → length rest ≤ length text
cut_shorter text value rest (quoted q e) = omega (arith, ap length e, length-append value (34 ∷ rest))
cut_shorter text value rest (plain r n) = omega (arith, ap length r.whole, length-append value rest)

-- one more value, with a comma after it
pub more_values : (text : List ℕ) (done : List (List ℕ)) (rest value behind more : List ℕ) → HasValues text done rest →
    CutsValue rest value behind → behind ≡ 44 ∷ more → HasValues text (done ++ value ∷ []) more
more_values text done rest value behind more has cut comma = record {
  onward = λ vs out h. subst (λ (ws : List (List ℕ)). ValuesThen text ws out) (sym (append_assoc done (value ∷ []) vs))
      (has.onward (value ∷ vs) out (on vs out h));
  back = λ vs out h ends. off vs out (has.back vs out h ends) ends;
  utf8 = utf8_behind 44 more (subst IsUtf8 comma (utf8_value rest value behind has.utf8 cut).1) (omega arith);
  shorter = omega (arith, has.shorter, cut_shorter rest value behind cut, ap length comma);
}
  where
    on : (vs : List (List ℕ)) (out : List ℕ) → ValuesThen more vs out → ValuesThen rest (value ∷ vs) out
    on [] out h = absurd h
    on (v ∷ vs) out h = (more, subst (λ (b : List ℕ). ValueThen rest value b) comma (then_from_cuts rest value behind cut), h)

    off : (vs : List (List ℕ)) (out : List ℕ) → ((us : List (List ℕ)) × (vs ≡ done ++ us) × ValuesThen rest us out) → EndsParam out →
        (us : List (List ℕ)) × (vs ≡ done ++ value ∷ [] ++ us) × ValuesThen more us out
    off vs out ([], e, h) ends = absurd h
    off vs out (u ∷ [], e, h) ends =
        let one = one_value rest value behind u out cut h (param_ends_value out ends) in
        absurd (let f : false ≡ true = subst (λ (b : List ℕ). begins ends_param b ≡ true) (sym one.1 ∙ comma) ends in cc)
    off vs out (u ∷ (w ∷ us), e, h) ends =
        let one = one_value rest value behind u (44 ∷ h.0) cut h.1 refl in
        let same : more ≡ h.0 = (let both : 44 ∷ more ≡ 44 ∷ h.0 = sym comma ∙ one.1 in cc) in (
          w ∷ us,
          e ∙ ap (λ (x : List ℕ). done ++ x ∷ (w ∷ us)) (sym one.0) ∙ sym (append_assoc done (value ∷ []) (w ∷ us)),
          subst (λ (b : List ℕ). ValuesThen b (w ∷ us) out) (sym same) h.2,
        )

-- the last value
pub all_values : (text : List ℕ) (done : List (List ℕ)) (rest value behind : List ℕ) → HasValues text done rest →
    CutsValue rest value behind → EndsParam behind → ReadsValues text (done ++ value ∷ []) behind
all_values text done rest value behind has cut ends = record {
  are = has.onward (value ∷ []) behind (then_from_cuts rest value behind cut);
  ends = ends;
  utf8 = (utf8_value rest value behind has.utf8 cut).1;
  shorter = omega (arith, has.shorter, cut_shorter rest value behind cut);
}

-- there is no value where one has to be
pub lacks_next : (text : List ℕ) (done : List (List ℕ)) (rest : List ℕ) → HasValues text done rest → LacksValue rest → LacksValues text
lacks_next text done rest has lacks = λ vs out h ends. none out (has.back vs out h ends) ends
  where
    none : {vs : List (List ℕ)} (out : List ℕ) → ((us : List (List ℕ)) × (vs ≡ done ++ us) × ValuesThen rest us out) → EndsParam out → ⊥
    none out ([], e, h) ends = h
    none out (u ∷ [], e, h) ends = lacks u out h (param_ends_value out ends)
    none out (u ∷ (w ∷ us), e, h) ends = lacks u (44 ∷ h.0) h.1 refl

-- what may follow a value does not follow it
pub lacks_end : (text : List ℕ) (done : List (List ℕ)) (rest value behind : List ℕ) → HasValues text done rest →
    CutsValue rest value behind → ((more : List ℕ) → behind ≡ 44 ∷ more → ⊥) → begins ends_param behind ≡ false → LacksValues text
lacks_end text done rest value behind has cut no_comma no_end = λ vs out h ends. none out (has.back vs out h ends) ends
  where
    none : {vs : List (List ℕ)} (out : List ℕ) → ((us : List (List ℕ)) × (vs ≡ done ++ us) × ValuesThen rest us out) → EndsParam out → ⊥
    none out ([], e, h) ends = h
    none out (u ∷ [], e, h) ends =
        let one = one_value rest value behind u out cut h (param_ends_value out ends) in
        let f : false ≡ true = sym (subst (λ (b : List ℕ). begins ends_param b ≡ false) one.1 no_end) ∙ ends in cc
    none out (u ∷ (w ∷ us), e, h) ends = no_comma h.0 (one_value rest value behind u (44 ∷ h.0) cut h.1 refl).1

-- ---- the same where the values are written on the way

-- values, each followed by a comma
abbrev pub closed_text : List (List ℕ) → List ℕ
closed_text [] = []
closed_text (v ∷ vs) = value_text v ++ 44 ∷ closed_text vs

closed_more : (vs : List (List ℕ)) (v : List ℕ) → closed_text (vs ++ v ∷ []) ≡ closed_text vs ++ (value_text v ++ 44 ∷ [])
closed_more [] v = refl
closed_more (w ∷ vs) v =
    ap (λ t. value_text w ++ 44 ∷ t) (closed_more vs v) ∙
    sym (append_assoc (value_text w) (44 ∷ closed_text vs) (value_text v ++ 44 ∷ []))

closed_last : (vs : List (List ℕ)) (v : List ℕ) → values_text (vs ++ v ∷ []) ≡ closed_text vs ++ value_text v
closed_last [] v = refl
closed_last (w ∷ []) v = sym (append_assoc (value_text w) (44 ∷ []) (value_text v))
closed_last (w ∷ (x ∷ vs)) v =
    ap (λ t. value_text w ++ 44 ∷ t) (closed_last (x ∷ vs) v) ∙
    sym (append_assoc (value_text w) (44 ∷ closed_text (x ∷ vs)) (value_text v))

-- the first values of the text are read and appended, each followed by a comma
pub record HasWritten (text rest old new : List ℕ) : Type 0 where
  pub done : List (List ℕ)
  pub has : HasValues text done rest
  pub wrote : new ≡ old ++ closed_text done

pub wrote_none : (text old : List ℕ) → IsUtf8 text → HasWritten text text old old
wrote_none text old u = record { done = []; has = no_values text u; wrote = sym (append-nil old) }

pub wrote_more : (text rest value behind more old at with_value new : List ℕ) → HasWritten text rest old at → CutsValue rest value behind →
    behind ≡ 44 ∷ more → with_value ≡ at ++ value_text value → new ≡ with_value ++ 44 ∷ [] → HasWritten text more old new
wrote_more text rest value behind more old at with_value new h cut comma first second = record {
  done = h.done ++ value ∷ [];
  has = more_values text h.done rest value behind more h.has cut comma;
  wrote = second ∙ ap (λ t. t ++ 44 ∷ []) (first ∙ ap (λ t. t ++ value_text value) h.wrote)
      ∙ append_assoc (old ++ closed_text h.done) (value_text value) (44 ∷ [])
      ∙ append_assoc old (closed_text h.done) (value_text value ++ 44 ∷ [])
      ∙ ap (λ t. old ++ t) (sym (closed_more h.done value));
}

pub wrote_all : (text rest value behind old at new : List ℕ) → HasWritten text rest old at → CutsValue rest value behind →
    EndsParam behind → new ≡ at ++ value_text value → WritesValues text behind old new
wrote_all text rest value behind old at new h cut ends last = record {
  values = h.done ++ value ∷ [];
  reads = all_values text h.done rest value behind h.has cut ends;
  wrote = last ∙ ap (λ t. t ++ value_text value) h.wrote ∙ append_assoc old (closed_text h.done) (value_text value)
      ∙ ap (λ t. old ++ t) (sym (closed_last h.done value));
}

-- the values of a parameter are the only ones
pub one_values : (text : List ℕ) (vs : List (List ℕ)) (r : List ℕ) (ws : List (List ℕ)) (s : List ℕ) → ValuesThen text vs r → EndsParam r →
    ValuesThen text ws s → EndsParam s → (vs ≡ ws) × (r ≡ s)
one_values text [] r ws s h e k f = absurd h
one_values text (v ∷ vs) r [] s h e k f = absurd k
one_values text (v ∷ []) r (w ∷ []) s h e k f =
    let one = one_cut text v r w s (cuts_from_then text v r h (param_ends_value r e)) (cuts_from_then text w s k (param_ends_value s f)) in
    (ap (λ x. x ∷ []) one.0, one.1)
one_values text (v ∷ []) r (w ∷ (x ∷ ws)) s h e k f =
    let one = one_cut text v r w (44 ∷ k.0) (cuts_from_then text v r h (param_ends_value r e)) (cuts_from_then text w (44 ∷ k.0) k.1 refl)
    in
    absurd (let g : false ≡ true = subst (λ (b : List ℕ). begins ends_param b ≡ true) one.1 e in cc)
one_values text (v ∷ (u ∷ vs)) r (w ∷ []) s h e k f =
    let one = one_cut text v (44 ∷ h.0) w s (cuts_from_then text v (44 ∷ h.0) h.1 refl) (cuts_from_then text w s k (param_ends_value s f))
    in
    absurd (let g : false ≡ true = subst (λ (b : List ℕ). begins ends_param b ≡ true) (sym one.1) f in cc)
one_values text (v ∷ (u ∷ vs)) r (w ∷ (x ∷ ws)) s h e k f =
    let one = one_cut text v (44 ∷ h.0) w (44 ∷ k.0) (cuts_from_then text v (44 ∷ h.0) h.1 refl)
    (cuts_from_then text w (44 ∷ k.0) k.1 refl) in
    let same : k.0 ≡ h.0 = (let both : 44 ∷ h.0 ≡ 44 ∷ k.0 = one.1 in cc) in
    let more = one_values h.0 (u ∷ vs) r (x ∷ ws) s h.2 e (subst (λ (t : List ℕ). ValuesThen t (x ∷ ws) s) same k.2) f in
    (ap (λ y. y ∷ (u ∷ vs)) one.0 ∙ ap (λ ys. w ∷ ys) more.0, more.1)
