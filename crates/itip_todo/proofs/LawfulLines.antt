-- The lines that a read to-do is written as are lawful.
use Rattle.std.proofs.Common.{◌≡◌, ◌≢◌, ◌∙◌, cond, ℕ, ◌+◌, ◌%◌, ◌<◌, ◌≤◌, ◌^◌, Bool, true, false, ◌&&◌, List, [], ◌∷◌, ◌++◌, length}
use Rattle.std.proofs.Common.{length-append, map, get_or, append-nil, zero, suc, refl, sym, ap, subst, arith, Some}
use Rattle.std.specs.Prelude.{codes, ℤ}
use Rattle.std.specs.Fmt.{decimal}
use Rattle.std.specs.Char.{to_ascii_lowercase}
use Rattle.std.specs.List.{list_all, list_any, AllByRecursion}
use Rattle.std.specs.Str.{IsUtf8, str_eq_ignore_ascii_case}
use Rattle.std.proofs.lemmas.Bool.Decides.{nat_tests}
use Rattle.std.proofs.lemmas.List.{length-map}
use Rattle.std.proofs.lemmas.Fmt.{decimal_by_steps, length-decimal-le}
use Rattle.std.proofs.lemmas.Str.{IsUtf8-from_ascii}
use Rattle.itip_lines.specs.Lawful as line
use Rattle.itip_lines.specs.Octets.{is_value_octet, is_separator}
use Rattle.itip_moment.specs.Written.{stamp_text}
use Rattle.itip_moment.specs.declared.stamp.Stamp.{Stamp}
use Rattle.itip_moment.proofs.WrittenOctets.{is_stamp_octet, stamp_text_octets}
use Rattle.itip_lines.specs.Lawful.{params_text}
use Rattle.itip_lines.specs.declared.line.Param.{Param}
use Rattle.itip_moment.specs.Spelling.{IsDateText, IsLocalText}
use Rattle.itip_moment.specs.Written.{date_text, clock_text, local_text, moment_text}
use Rattle.itip_moment.specs.declared.day.Day.{Day}
use Rattle.itip_moment.specs.declared.moment.Moment.{Moment}
use Rattle.itip_moment.specs.declared.moment.Moment.TheVariants.{Date, Floating, Utc, Zoned}
use Rattle.itip_moment.proofs.ValueLaws.{date_text-IsDateText, local_text-IsLocalText}
use Rattle.itip_todo.specs.Participation.{same_text, param_value, first_value}
use Rattle.itip_todo.specs.StatusText.{status_text}
use Rattle.itip_todo.specs.Table.{sequence_limit}
use Rattle.itip_todo.specs.Values.{IsMomentText}
use Rattle.itip_todo.specs.Written.{moment_params, range_params}
use Rattle.itip_todo.specs.declared.status.Status.{Status}
use Rattle.itip_todo.specs.declared.status.Status.TheVariants as status
use Rattle.itip_todo.proofs.Names.{text_is}
use Rattle.itip_todo.proofs.Segments as segments

stamp_value_octet : (b : ℕ) → is_stamp_octet b ≡ true → (is_value_octet b ≡ true) × (b < 128)
stamp_value_octet b e = grind (arith, nat_tests)

both : (a b : Bool) → (a && b) ≡ true → (a ≡ true) × (b ≡ true)
both true b e = (refl, e)
both false b e = cc

both_hold : (a b : Bool) → a ≡ true → b ≡ true → (a && b) ≡ true
both_hold true b e f = f
both_hold false b e f = cc

plain_octets : (text : List ℕ) → list_all is_stamp_octet text ≡ true → list_all is_value_octet text ≡ true
plain_octets [] e = refl
plain_octets (b ∷ bs) e = let parts = both (is_stamp_octet b) (list_all is_stamp_octet bs) e in
    both_hold (is_value_octet b) (list_all is_value_octet bs) (stamp_value_octet b parts.0).0 (plain_octets bs parts.1)

plain_ascii : (text : List ℕ) → list_all is_stamp_octet text ≡ true → (i : ℕ) → get_or text i 0 < 128
plain_ascii [] e i = omega arith
plain_ascii (b ∷ bs) e zero = let parts = both (is_stamp_octet b) (list_all is_stamp_octet bs) e in (stamp_value_octet b parts.0).1
plain_ascii (b ∷ bs) e (suc i) = let parts = both (is_stamp_octet b) (list_all is_stamp_octet bs) e in plain_ascii bs parts.1 i

-- a text of digits, T and Z, not too long, is a lawful value
plain_lawful : (name text : List ℕ) → line.IsName name → length name ≤ 100 → list_all is_stamp_octet text ≡ true → length text ≤ 100 →
    line.IsLawful name [] text
plain_lawful name text named short_name octets short = record {
  named = named;
  each_param = tt;
  octets = plain_octets text octets;
  utf8 = IsUtf8-from_ascii text (plain_ascii text octets);
  short = omega (arith, short, short_name, length-append name (58 ∷ text));
}

pub stamp_lawful : (stamp : Stamp) → line.IsLawful (codes "DTSTAMP") [] (stamp_text stamp)
stamp_lawful stamp =
    let octets = stamp_text_octets stamp in
    plain_lawful (codes "DTSTAMP") (stamp_text stamp) (record { some = omega arith; upper = refl }) (omega arith) octets.0
    (omega (arith, octets.1))

all_append : (xs ys : List ℕ) → list_all is_stamp_octet xs ≡ true → list_all is_stamp_octet ys ≡ true →
    list_all is_stamp_octet (xs ++ ys) ≡ true
all_append [] ys p q = q
all_append (x ∷ xs) ys p q = let parts = both (is_stamp_octet x) (list_all is_stamp_octet xs) p in
    both_hold (is_stamp_octet x) (list_all is_stamp_octet (xs ++ ys)) parts.0 (all_append xs ys parts.1 q)

digit_octet : (d : ℕ) → d < 10 → is_stamp_octet (48 + d) ≡ true
digit_octet d h = grind (arith, nat_tests)

one_octet : (b : ℕ) → is_stamp_octet b ≡ true → list_all is_stamp_octet (b ∷ []) ≡ true
one_octet b e = both_hold (is_stamp_octet b) true e refl

decimal_octets : (n : ℕ) → n < 2 ^ 64 → list_all is_stamp_octet (decimal n) ≡ true
decimal_octets = decimal_by_steps (λ n ds. list_all is_stamp_octet ds ≡ true) (λ n h. one_octet (48 + n) (digit_octet n h))
    (λ n ds h before. all_append ds ((48 + n % 10) ∷ []) before (one_octet (48 + n % 10) (digit_octet (n % 10) (omega arith))))

pub number_lawful : (name : List ℕ) → line.IsName name → length name ≤ 100 → (n : ℕ) → n ≤ sequence_limit →
    line.IsLawful name [] (decimal n)
number_lawful name named short_name n small =
    let fits : n < 2 ^ 64 = omega (arith, small) in
    let short : length (decimal n) ≤ 20 = length-decimal-le 20 n (omega arith) (omega (arith, small)) fits in
    plain_lawful name (decimal n) named short_name (decimal_octets n fits) (omega (arith, short))

pub status_lawful : (s : Status) → line.IsLawful (codes "STATUS") [] (status_text s)
unfolding lib.Utf8.encode
status_lawful status.NeedsAction =
    record {
      named = record { some = omega arith; upper = refl };
      each_param = tt;
      octets = refl;
      utf8 =
          (codes "NEEDS-ACTION", (refl, refl));
      short = omega arith;
    }
status_lawful status.Completed =
    record {
      named = record { some = omega arith; upper = refl };
      each_param = tt;
      octets = refl;
      utf8 = (codes "COMPLETED", (refl, refl));
      short = omega arith;
    }
status_lawful status.InProcess =
    record {
      named = record { some = omega arith; upper = refl };
      each_param = tt;
      octets = refl;
      utf8 =
          (codes "IN-PROCESS", (refl, refl));
      short = omega arith;
    }
status_lawful status.Cancelled =
    record {
      named = record { some = omega arith; upper = refl };
      each_param = tt;
      octets = refl;
      utf8 = (codes "CANCELLED", (refl, refl));
      short = omega arith;
    }

-- the text of a moment is digits, and perhaps T and Z

front_octets : (xs ys : List ℕ) → list_all is_stamp_octet (xs ++ ys) ≡ true → list_all is_stamp_octet xs ≡ true
front_octets [] ys e = refl
front_octets (x ∷ xs) ys e = let parts = both (is_stamp_octet x) (list_all is_stamp_octet (xs ++ ys)) e in
    both_hold (is_stamp_octet x) (list_all is_stamp_octet xs) parts.0 (front_octets xs ys parts.1)

local_octets : (at : Stamp) → list_all is_stamp_octet (local_text at.day at.second) ≡ true
local_octets at = front_octets (local_text at.day at.second) (90 ∷ []) (stamp_text_octets at).0

date_octets : (day : Day) → list_all is_stamp_octet (date_text day.number) ≡ true
date_octets day =
    let at : Stamp = record { day = day.number; second = 0; in_years = day.in_years; in_day = omega arith } in
    front_octets (date_text day.number) (84 ∷ clock_text 0) (local_octets at)

moment_octets : (m : Moment) → list_all is_stamp_octet (moment_text m) ≡ true
moment_octets (Date day) = date_octets day
moment_octets (Floating at) = local_octets at
moment_octets (Utc at) = (stamp_text_octets at).0
moment_octets (Zoned zone at) = local_octets at

moment_utf8 : (m : Moment) → IsUtf8 (moment_text m)
moment_utf8 m = IsUtf8-from_ascii (moment_text m) (plain_ascii (moment_text m) (moment_octets m))

date_length : (text : List ℕ) (day : ℤ) → IsDateText text day → length text ≡ 8
date_length text day is = ap length is.spelt

local_length : (text : List ℕ) (day : ℤ) (second : ℕ) → IsLocalText text day second → length text ≡ 15
local_length text day second is =
    let clock : length is.clock ≡ 6 = ap length is.clock_is.spelt in
    let whole : length text ≡ length (is.date ++ 84 ∷ is.clock) = ap length is.parts in
    omega (arith, date_length is.date day is.date_is, length-append is.date (84 ∷ is.clock))

-- a parameter is as long as its name and its first value
first_long : (name : List ℕ) (values : List (List ℕ)) → first_value values ≢ [] →
    length name + length (line.value_text (first_value values)) + 2 ≤ length (59 ∷ (name ++ 61 ∷ line.values_text values))
first_long name [] some = absurd (some refl)
first_long name (v ∷ []) some = omega (arith, length-append name (61 ∷ line.value_text v))
first_long name (v ∷ (w ∷ vs)) some =
    omega (
      arith,
      length-append name (61 ∷ (line.value_text v ++ 44 ∷ line.values_text (w ∷ vs))),
      length-append (line.value_text v) (44 ∷ line.values_text (w ∷ vs)),
    )

-- a value that a parameter of this name has first
module _ (name value : List ℕ) (some : value ≢ []) where
  one_long : (p : Param) → same_text p.name name ≡ true → first_value p.values ≡ value →
      length name + length (line.value_text value) + 2 ≤ length (line.param_text p)
  one_long p named first =
      let long = first_long p.name p.values (λ none. some (sym first ∙ none)) in
      omega (arith, long, ap length (text_is p.name name named), ap (λ (z : List ℕ). length (line.value_text z)) first)

  one_value : (values : List (List ℕ)) → first_value values ≡ value → AllByRecursion line.IsParamValue values → line.IsParamValue value
  one_value [] first all = absurd (some (sym first))
  one_value (v ∷ vs) first all = subst (λ (z : List ℕ). line.IsParamValue z) first all.0

  -- it is lawful, and no longer than the parameters
  value_long : (params : List Param) → param_value name params ≡ value → AllByRecursion line.IsLawfulParam params →
      line.IsParamValue value × (length name + length (line.value_text value) + 2 ≤ length (line.params_text params))
  value_long [] e h = absurd (some (sym e))
  value_long (p ∷ ps) e h =
      elim (same_text p.name name) as (λ b. same_text p.name name ≡ b → cond b (first_value p.values) (param_value name ps) ≡ value →
      line.IsParamValue value × (length name + length (line.value_text value) + 2 ≤ length (line.params_text (p ∷ ps)))) [
        | true ↦ λ named first. (
          one_value p.values first h.0.values,
          omega (arith, one_long p named first, length-append (line.param_text p) (line.params_text ps)),
        )
        | false ↦ λ _ later. let rec = value_long ps later h.1 in
            (rec.0, omega (arith, rec.1, length-append (line.param_text p) (line.params_text ps)))
      ] refl e

-- ---- a zone and a range beside it

shown_long : (value : List ℕ) → length value ≤ length (line.value_text value)
shown_long value = by (list_any is_separator value)
  where
    by : (b : Bool) → length value ≤ length (cond b (34 ∷ (value ++ 34 ∷ [])) value)
    by true = omega (arith, length-append value (34 ∷ []))
    by false = omega arith

range_length : (value : List ℕ) → str_eq_ignore_ascii_case value (codes "THISANDFUTURE") ≡ true → length value ≡ 13
range_length value e =
    sym (length-map value to_ascii_lowercase) ∙
    ap length (text_is (map to_ascii_lowercase value) (map to_ascii_lowercase (codes "THISANDFUTURE")) e)

-- the parameters are as long as these two
abbrev HasRoom : List ℕ → List ℕ → List Param → Type 0
HasRoom zone range params = length (line.value_text zone) + length (line.value_text range) + 13 ≤ length (line.params_text params)

-- a zone and a range are of two parameters
pair_long : (zone range : List ℕ) → zone ≢ [] → range ≢ [] → (params : List Param) → param_value (codes "TZID") params ≡ zone →
    param_value (codes "RANGE") params ≡ range → AllByRecursion line.IsLawfulParam params → HasRoom zone range params
pair_long zone range some_zone some_range [] e f h = absurd (some_zone (sym e))
pair_long zone range some_zone some_range (p ∷ ps) e f h =
    elim (same_text p.name (codes "TZID")) as (λ b. same_text p.name (codes "TZID") ≡ b →
    cond b (first_value p.values) (param_value (codes "TZID") ps) ≡ zone → HasRoom zone range (p ∷ ps)) [
      | true ↦ λ named first.
          let later : param_value (codes "RANGE") ps ≡ range =
          ap (λ (n : List ℕ). cond (same_text n (codes "RANGE")) (first_value p.values) (param_value (codes "RANGE") ps))
          (sym (text_is p.name (codes "TZID") named)) ∙ f in
          omega (
            arith,
            one_long (codes "TZID") zone some_zone p named first,
            (value_long (codes "RANGE") range some_range ps later h.1).1,
            whole,
          )
      | false ↦ λ _ later. elim (same_text p.name (codes "RANGE")) as (λ b. same_text p.name (codes "RANGE") ≡ b →
          cond b (first_value p.values) (param_value (codes "RANGE") ps) ≡ range → HasRoom zone range (p ∷ ps)) [
            | true ↦ λ named first. omega (
              arith,
              one_long (codes "RANGE") range some_range p named first,
              (value_long (codes "TZID") zone some_zone ps later h.1).1,
              whole,
            )
            | false ↦ λ _ after. omega (arith, pair_long zone range some_zone some_range ps later after h.1, whole)
          ] refl f
    ] refl e
  where
    whole : length (line.params_text (p ∷ ps)) ≡ length (line.param_text p) + length (line.params_text ps)
    whole = length-append (line.param_text p) (line.params_text ps)

date_param : line.IsLawfulParam (record { name = codes "VALUE"; values = codes "DATE" ∷ [] })
unfolding lib.Utf8.encode
date_param = record {
  named = record { some = omega arith; upper = refl };
  some = omega arith;
  values =
      (record { octets = refl; utf8 = (codes "DATE", (refl, refl)) }, tt);
}

some_same : (a b : List ℕ) → Some a ≡ Some b → a ≡ b
some_same a b e = cc

-- the line of a moment that a lawful line spells is lawful
pub moment_lawful : (name : List ℕ) (params : List Param) (value text : List ℕ) (m : Moment) → line.IsLawful name params value →
    length name ≤ 100 → IsMomentText params text m → length text ≤ length value
    → line.IsLawful name (moment_params m) (moment_text m)
moment_lawful name params value text (Date day) h short_name is within = record {
  named = h.named;
  each_param = (date_param, tt);
  octets = plain_octets (date_text day.number) (date_octets day);
  utf8 = moment_utf8 (Date day);
  short = omega (
    arith,
    short_name,
    date_length (date_text day.number) day.number (date_text-IsDateText day.number day.in_years),
    length-append name (params_text (moment_params (Date day)) ++ 58 ∷ date_text day.number),
  );
}
moment_lawful name params value text (Floating at) h short_name is within = record {
  named = h.named;
  each_param = tt;
  octets = plain_octets (local_text at.day at.second) (local_octets at);
  utf8 = moment_utf8 (Floating at);
  short = omega (
    arith,
    short_name,
    local_length (local_text at.day at.second) at.day at.second (local_text-IsLocalText at),
    length-append name (58 ∷ local_text at.day at.second),
  );
}
moment_lawful name params value text (Utc at) h short_name is within = record {
  named = h.named;
  each_param = tt;
  octets = plain_octets (stamp_text at) (stamp_text_octets at).0;
  utf8 = moment_utf8 (Utc at);
  short = omega (arith, short_name, (stamp_text_octets at).1, length-append name (58 ∷ stamp_text at));
}
moment_lawful name params value text (Zoned zone at) h short_name is within =
    let value_is = value_long (codes "TZID") zone.bytes zone.not_empty params
    (some_same (param_value (codes "TZID") params) zone.bytes is.1) h.each_param in
    let long : length (local_text at.day at.second) ≡ 15 =
    local_length (local_text at.day at.second) at.day at.second (local_text-IsLocalText at) in
    let read : length text ≡ 15 = local_length text at.day at.second is.0 in
    record {
      named = h.named;
      each_param = (record { named = record { some = omega arith; upper = refl }; some = omega arith; values = (value_is.0, tt) }, tt);
      octets = plain_octets (local_text at.day at.second) (local_octets at);
      utf8 = moment_utf8 (Zoned zone at);
      short = omega (
        arith,
        value_is.1,
        long,
        read,
        within,
        h.short,
        length-append name (params_text params ++ 58 ∷ value),
        length-append (params_text params) (58 ∷ value),
        length-append name (params_text (moment_params (Zoned zone at)) ++ 58 ∷ local_text at.day at.second),
        length-append (params_text (moment_params (Zoned zone at))) (58 ∷ local_text at.day at.second),
        length-append (line.value_text zone.bytes) [],
      );
    }

range_param : line.IsLawfulParam (record { name = codes "RANGE"; values = codes "THISANDFUTURE" ∷ [] })
unfolding lib.Utf8.encode
range_param = record {
  named = record { some = omega arith; upper = refl };
  some = omega arith;
  values =
      (record { octets = refl; utf8 = (codes "THISANDFUTURE", (refl, refl)) }, tt);
}

-- a moment with a range is no longer than the line that spells it, or short
range_short : (name : List ℕ) (params : List Param) (value : List ℕ) (m : Moment) → line.IsLawful name params value → length name ≤ 100 →
    IsMomentText params value m → str_eq_ignore_ascii_case (param_value (codes "RANGE") params) (codes "THISANDFUTURE") ≡ true
    → length (line.line_text name (moment_params m ++ range_params true) (moment_text m)) ≤ line.line_limit
range_short name params value (Date day) h short_name is ranges =
    omega (
      arith,
      short_name,
      date_length (date_text day.number) day.number (date_text-IsDateText day.number day.in_years),
      length-append name (params_text (moment_params (Date day) ++ range_params true) ++ 58 ∷ date_text day.number),
    )
range_short name params value (Floating at) h short_name is ranges =
    omega (
      arith,
      short_name,
      local_length (local_text at.day at.second) at.day at.second (local_text-IsLocalText at),
      length-append name (params_text (range_params true) ++ 58 ∷ local_text at.day at.second),
    )
range_short name params value (Utc at) h short_name is ranges =
    omega (arith, short_name, (stamp_text_octets at).1, length-append name (params_text (range_params true) ++ 58 ∷ stamp_text at))
range_short name params value (Zoned zone at) h short_name is ranges =
    let range : List ℕ = param_value (codes "RANGE") params in
    let thirteen : length range ≡ 13 = range_length range ranges in
    let pair = pair_long zone.bytes range zone.not_empty (λ none. omega (arith, thirteen, ap length none)) params
    (some_same (param_value (codes "TZID") params) zone.bytes is.1) refl h.each_param in
    let long : length (local_text at.day at.second) ≡ 15 =
    local_length (local_text at.day at.second) at.day at.second (local_text-IsLocalText at) in
    let read : length value ≡ 15 = local_length value at.day at.second is.0 in
    omega (
      arith,
      pair,
      shown_long range,
      thirteen,
      long,
      read,
      h.short,
      length-append name (params_text params ++ 58 ∷ value),
      length-append (params_text params) (58 ∷ value),
      length-append name (params_text (moment_params (Zoned zone at) ++ range_params true) ++ 58 ∷ local_text at.day at.second),
      length-append (params_text (moment_params (Zoned zone at) ++ range_params true)) (58 ∷ local_text at.day at.second),
      length-append (line.value_text zone.bytes) (params_text (range_params true)),
    )

-- the line of RECURRENCE-ID that a lawful line spells, with its range, is lawful
pub rid_lawful : (name : List ℕ) (params : List Param) (value : List ℕ) (m : Moment) (b : Bool) → line.IsLawful name params value →
    length name ≤ 100 → IsMomentText params value m →
    b ≡ str_eq_ignore_ascii_case (param_value (codes "RANGE") params) (codes "THISANDFUTURE")
    → line.IsLawful name (moment_params m ++ range_params b) (moment_text m)
rid_lawful name params value m false h short_name is range =
    subst (λ (ps : List Param). line.IsLawful name ps (moment_text m)) (sym (append-nil (moment_params m)))
    (moment_lawful name params value value m h short_name is (omega arith))
rid_lawful name params value m true h short_name is range =
    let alone = moment_lawful name params value value m h short_name is (omega arith) in
    record {
      named = alone.named;
      each_param = segments.all_append line.IsLawfulParam (moment_params m) (range_params true) alone.each_param (range_param, tt);
      octets = alone.octets;
      utf8 = alone.utf8;
      short = range_short name params value m h short_name is (sym range);
    }
