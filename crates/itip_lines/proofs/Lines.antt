-- One line: it is spelled in one way, and it is lawful.
use Rattle.std.proofs.Common.{◌≡◌, ◌∙◌, sym, ap, refl, ℕ, ◌+◌, ◌≤◌, ◌<◌, Bool, true, false, cond, map, List, [], ◌∷◌, ◌++◌, length, arith}
use Rattle.std.proofs.Common.{subst, inl, inr, length-append}
use Rattle.std.specs.Prelude.{IsTrue}
use Rattle.std.specs.Char.{to_ascii_uppercase}
use Rattle.std.specs.Str.{IsUtf8, str_to_ascii_uppercase}
use Rattle.std.specs.List.{list_all, list_any, AllByRecursion}
use Rattle.std.proofs.lemmas.Bool.{and_parts}
use Rattle.std.proofs.lemmas.Bool.Decides.{nat_tests}
use Rattle.std.proofs.lemmas.List.{length-map}
use Rattle.itip_lines.specs.Octets.{is_upper_name_octet, is_name_octet, is_value_octet, is_quotable_octet, is_separator, is_plain_octet}
use Rattle.itip_lines.specs.Lawful.{line_limit, value_text, values_text, param_text, params_text, IsName, IsParamValue, IsLawfulParam}
use Rattle.itip_lines.specs.Lawful.{IsLawful}
use Rattle.itip_lines.specs.Spelling.{SpellsName, ValueThen, ValuesThen, IsTail, Spells}
use Rattle.itip_lines.specs.Parts.{IsRun, begins, ends_param, EndsParam, CutsValue, LacksTail, LacksLine}
use Rattle.itip_lines.specs.Parts.CutsValue.{quoted, plain}
use Rattle.itip_lines.specs.declared.line.Param.{Param}
use Rattle.itip_lines.proofs.Runs.{one_run}
use Rattle.itip_lines.proofs.OctetLemmas.{plain_quotable, upper_name}
use Rattle.itip_lines.proofs.Values.{cuts_from_then}
use Rattle.itip_lines.proofs.ValueLists.{param_ends_value}
use Rattle.itip_lines.proofs.Utf8Parts.{utf8_behind, utf8_past_name, utf8_value}
use Rattle.itip_lines.proofs.ParamLists.{tail_ends, one_tail}

-- ---- the name of a line

ends_no_name : (b : ℕ) → ends_param b ≡ true → is_name_octet b ≡ false
ends_no_name b h = grind (arith, nat_tests)

no_name : (rest : List ℕ) → EndsParam rest → begins is_name_octet rest ≡ false
no_name [] e = refl
no_name (b ∷ rest) e = ends_no_name b e

spelled_run : (text name : List ℕ) (params : List Param) (value : List ℕ) → (s : Spells text name params value) →
    IsRun is_name_octet text s.spelled s.tail
spelled_run text name params value s =
    record { whole = s.whole; passes = s.named.octets; stops = no_name s.tail (tail_ends s.tail params value s.tail_is) }

pub lacks_line_name : (text spelled tail : List ℕ) → IsRun is_name_octet text spelled tail → length spelled ≡ 0 → LacksLine text
lacks_line_name text spelled tail run empty = λ name params value s.
    let one = one_run is_name_octet text spelled tail s.spelled s.tail run (spelled_run text name params value s) in
    absurd (omega (arith, s.named.some, empty, ap length one.0))

pub lacks_tail : (text spelled tail : List ℕ) → IsRun is_name_octet text spelled tail → LacksTail tail → LacksLine text
lacks_tail text spelled tail run lacks = λ name params value s.
    let one = one_run is_name_octet text spelled tail s.spelled s.tail run (spelled_run text name params value s) in
    lacks params value (subst (λ (t : List ℕ). IsTail t params value) (sym one.1) s.tail_is)

pub spelled_line : (text spelled tail name : List ℕ) (params : List Param) (value : List ℕ) → IsRun is_name_octet text spelled tail →
    0 < length spelled → name ≡ str_to_ascii_uppercase spelled → IsTail tail params value → Spells text name params value
spelled_line text spelled tail name params value run some upper is = record {
  spelled = spelled;
  tail = tail;
  whole = run.whole;
  named = record { some = some; octets = run.passes; name_is = upper };
  tail_is = is;
}

-- the name, the parameters and the value of a text are the only ones
pub one_spelling : (text n : List ℕ) (ps : List Param) (v m : List ℕ) (qs : List Param) (w : List ℕ) → Spells text n ps v →
    Spells text m qs w → (n ≡ m) × (ps ≡ qs) × (v ≡ w)
one_spelling text n ps v m qs w s t =
    let one = one_run is_name_octet text s.spelled s.tail t.spelled t.tail (spelled_run text n ps v s) (spelled_run text m qs w t) in
    let tails = one_tail s.tail ps v qs w s.tail_is (subst (λ (x : List ℕ). IsTail x qs w) (sym one.1) t.tail_is) in
    (s.named.name_is ∙ ap upper one.0 ∙ sym t.named.name_is, tails.0, tails.1)
  where
    upper : List ℕ → List ℕ
    upper x = str_to_ascii_uppercase x

-- ---- what is spelled is lawful

upper_all : (text : List ℕ) → list_all is_name_octet text ≡ true → list_all is_upper_name_octet (map to_ascii_uppercase text) ≡ true
upper_all [] h = refl
upper_all (b ∷ bs) h = let p = and_parts _ _ h in rw (upper_name b p.0) (upper_all bs p.1)

lawful_name : (text name : List ℕ) → SpellsName text name → IsName name
lawful_name text name s = record {
  some = omega (arith, s.some, ap length s.name_is, length-map text to_ascii_uppercase);
  upper = ap (list_all is_upper_name_octet) s.name_is ∙ upper_all text s.octets;
}

pub quotable_all : (value : List ℕ) → list_all is_plain_octet value ≡ true → list_all is_quotable_octet value ≡ true
quotable_all [] h = refl
quotable_all (b ∷ bs) h = let p = and_parts _ _ h in rw (plain_quotable b p.0) (quotable_all bs p.1)

lawful_value : (text value rest : List ℕ) → IsUtf8 text → CutsValue text value rest → IsParamValue value
lawful_value text value rest u (quoted q e) = record { octets = q; utf8 = (utf8_value text value rest u (quoted q e)).0 }
lawful_value text value rest u (plain r n) =
    record { octets = quotable_all value r.passes; utf8 = (utf8_value text value rest u (plain r n)).0 }

lawful_values : (text : List ℕ) (vs : List (List ℕ)) (rest : List ℕ) → IsUtf8 text → ValuesThen text vs rest → EndsParam rest →
    (0 < length vs) × AllByRecursion IsParamValue vs × IsUtf8 rest
lawful_values text [] rest u h e = absurd h
lawful_values text (v ∷ []) rest u h e =
    let cut = cuts_from_then text v rest h (param_ends_value rest e) in
    (omega arith, (lawful_value text v rest u cut, tt), (utf8_value text v rest u cut).1)
lawful_values text (v ∷ (w ∷ vs)) rest u h e =
    let cut = cuts_from_then text v (44 ∷ h.0) h.1 refl in
    let more = lawful_values h.0 (w ∷ vs) rest (utf8_behind 44 h.0 (utf8_value text v (44 ∷ h.0) u cut).1 (omega arith)) h.2 e in
    (omega arith, (lawful_value text v (44 ∷ h.0) u cut, more.1), more.2)

pub lawful_tail : (text : List ℕ) (ps : List Param) (value : List ℕ) → IsUtf8 text → IsTail text ps value →
    AllByRecursion IsLawfulParam ps ×
    IsUtf8 value × IsTrue (list_all is_value_octet value)
lawful_tail text [] value u h = (tt, utf8_behind 58 value (subst IsUtf8 h.0 u) (omega arith), h.1)
lawful_tail text (p ∷ ps) value u h =
    let k = h.3 in
    let inside = utf8_past_name k.spelled (61 ∷ k.after) k.named.octets
    (subst IsUtf8 k.whole (utf8_behind 59 h.0 (subst IsUtf8 h.2 u) (omega arith))) in
    let values = lawful_values k.after p.values h.1 (utf8_behind 61 k.after inside (omega arith)) k.values (tail_ends h.1 ps value h.4) in
    let more = lawful_tail h.1 ps value values.2 h.4 in
    ((record { named = lawful_name k.spelled p.name k.named; some = values.0; values = values.1 }, more.0), more.1, more.2)

-- ---- what is written is no longer than what was read

pub plain_no_separator : (value : List ℕ) → list_all is_plain_octet value ≡ true → list_any is_separator value ≡ false
plain_no_separator [] h = refl
plain_no_separator (b ∷ bs) h = let p = and_parts _ _ h in rw (plain_octet_no_separator b p.0) (plain_no_separator bs p.1)
  where
    plain_octet_no_separator : (x : ℕ) → is_plain_octet x ≡ true → is_separator x ≡ false
    plain_octet_no_separator x k = grind (arith, nat_tests)

value_short : (text value rest : List ℕ) → ValueThen text value rest → length (value_text value) + length rest ≤ length text
value_short text value rest (inl h) =
    let quotes : length (value_text value) ≤ length value + 2 = bounded (list_any is_separator value) in
    omega (arith, quotes, ap length h.1, length-append value (34 ∷ rest))
  where
    bounded : (b : Bool) → length (cond b (34 ∷ (value ++ 34 ∷ [])) value) ≤ length value + 2
    bounded true = omega (arith, length-append value (34 ∷ []))
    bounded false = omega arith
value_short text value rest (inr h) =
    rw (plain_no_separator value h.0) (omega (arith, ap length h.1, length-append value rest))

values_short : (text : List ℕ) (vs : List (List ℕ)) (rest : List ℕ) → ValuesThen text vs rest →
    length (values_text vs) + length rest ≤ length text
values_short text [] rest h = absurd h
values_short text (v ∷ []) rest h = value_short text v rest h
values_short text (v ∷ (w ∷ vs)) rest h =
    omega (
      arith,
      value_short text v (44 ∷ h.0) h.1,
      values_short h.0 (w ∷ vs) rest h.2,
      length-append (value_text v) (44 ∷ values_text (w ∷ vs)),
    )

tail_short : (text : List ℕ) (ps : List Param) (value : List ℕ) → IsTail text ps value → length (params_text ps ++ 58 ∷ value) ≤ length text
tail_short text [] value h = omega (arith, ap length h.0)
tail_short text (p ∷ ps) value h =
    let k = h.3 in
    omega (
      arith,
      ap length h.2,
      ap length k.whole,
      ap length k.named.name_is,
      length-map k.spelled to_ascii_uppercase,
      length-append k.spelled (61 ∷ k.after),
      values_short k.after p.values h.1 k.values,
      tail_short h.1 ps value h.4,
      length-append (params_text ps) (58 ∷ value),
      length-append (param_text p ++ params_text ps) (58 ∷ value),
      length-append (param_text p) (params_text ps),
      length-append p.name (61 ∷ values_text p.values),
    )

pub lawful_line : (text name : List ℕ) (params : List Param) (value : List ℕ) → Spells text name params value → IsUtf8 text →
    length text ≤ line_limit → IsLawful name params value
lawful_line text name params value s u short =
    let tail = lawful_tail s.tail params value (utf8_past_name s.spelled s.tail s.named.octets (subst IsUtf8 s.whole u)) s.tail_is in
    record {
      named = lawful_name s.spelled name s.named;
      each_param = tail.0;
      octets = tail.2;
      utf8 = tail.1;
      short = omega (
        arith,
        short,
        ap length s.whole,
        length-append s.spelled s.tail,
        ap length s.named.name_is,
        length-map s.spelled to_ascii_uppercase,
        tail_short s.tail params value s.tail_is,
        length-append name (params_text params ++ 58 ∷ value),
      );
    }
