-- The octets of a written stamp: digits, T and Z.
use Rattle.std.proofs.Common.{◌≡◌, ℕ, ◌+◌, ◌/◌, ◌%◌, ◌<◌, Bool, true, false, ◌&&◌, ◌||◌, ◌==◌, List, [], ◌∷◌, ◌++◌, length, length-append}
use Rattle.std.proofs.Common.{ℤ, refl, ap, ◌∙◌, arith}
use Rattle.std.specs.Prelude.{nat_le}
use Rattle.std.specs.List.{list_all}
use Rattle.std.proofs.lemmas.Bool.Decides.{nat_tests}
use Rattle.jiff_core.proofs.SignedLemmas.{signed_arith}
use Rattle.jiff_core.proofs.CalendarLemmas.{days_in_month_bounds}
use Rattle.itip_moment.specs.Digits.{two_digits, four_digits, date_digits, clock_digits}
use Rattle.itip_moment.specs.Spelling.{IsDateText, IsClockText, IsStampText}
use Rattle.itip_moment.specs.Written.{stamp_text}
use Rattle.itip_moment.specs.declared.stamp.Stamp.{Stamp}
use Rattle.itip_moment.proofs.ValueLaws.{stamp_text-IsStampText}

-- a digit, or T, or Z
abbrev pub is_stamp_octet : ℕ → Bool
is_stamp_octet b = (nat_le 48 b && nat_le b 57) || (b == 84 || b == 90)

all_append : (xs ys : List ℕ) → list_all is_stamp_octet xs ≡ true → list_all is_stamp_octet ys ≡ true →
    list_all is_stamp_octet (xs ++ ys) ≡ true
all_append [] ys p q = q
all_append (x ∷ xs) ys p q = let parts = both (is_stamp_octet x) (list_all is_stamp_octet xs) p in
    both_hold (is_stamp_octet x) (list_all is_stamp_octet (xs ++ ys)) parts.0 (all_append xs ys parts.1 q)
  where
    both : (a b : Bool) → (a && b) ≡ true → (a ≡ true) × (b ≡ true)
    both true b e = (refl, e)
    both false b e = cc

    both_hold : (a b : Bool) → a ≡ true → b ≡ true → (a && b) ≡ true
    both_hold true b e f = f
    both_hold false b e f = cc

digit_octet : (d : ℕ) → d < 10 → is_stamp_octet (48 + d) ≡ true
digit_octet d h = grind (arith, nat_tests)

join_tests : (a b : Bool) → a ≡ true → b ≡ true → (a && (b && true)) ≡ true
join_tests true true e f = refl
join_tests true false e f = cc
join_tests false b e f = cc

pub two_octets : (n : ℕ) → n < 100 → list_all is_stamp_octet (two_digits n) ≡ true
two_octets n h =
    let tens : n / 10 < 10 = omega arith in
    let ones : n % 10 < 10 = omega arith in
    join_tests (is_stamp_octet (48 + n / 10)) (is_stamp_octet (48 + n % 10)) (digit_octet (n / 10) tens) (digit_octet (n % 10) ones)

date_octets : (y m d : ℕ) → y < 10000 → m < 100 → d < 100 → list_all is_stamp_octet (date_digits y m d) ≡ true
date_octets y m d hy hm hd =
    let century : y / 100 < 100 = omega arith in
    let year : y % 100 < 100 = omega arith in
    all_append (four_digits y ++ two_digits m) (two_digits d)
    (all_append (four_digits y) (two_digits m)
    (all_append (two_digits (y / 100)) (two_digits (y % 100)) (two_octets (y / 100) century) (two_octets (y % 100) year))
    (two_octets m hm)) (two_octets d hd)

clock_octets : (h m s : ℕ) → h < 100 → m < 100 → s < 100 → list_all is_stamp_octet (clock_digits h m s) ≡ true
clock_octets h m s hh hm hs =
    all_append (two_digits h ++ two_digits m) (two_digits s) (all_append (two_digits h) (two_digits m) (two_octets h hh) (two_octets m hm))
    (two_octets s hs)

-- a text of a date is eight digits
date_text_octets : (text : List ℕ) (day : ℤ) → IsDateText text day → (list_all is_stamp_octet text ≡ true) × (length text ≡ 8)
date_text_octets text day is =
    let date = is.day_is.date in
    let same = is.day_is.parts in
    let long = days_in_month_bounds date.year date.month in
    let year : is.year < 10000 = omega (arith, signed_arith, same, date.year_in) in
    let month : is.month < 100 = omega (arith, signed_arith, same, date.month_in) in
    let day_of : is.day_of_month < 100 = omega (arith, signed_arith, same, date.day_in, long) in
    (ap (list_all is_stamp_octet) is.spelt ∙ date_octets is.year is.month is.day_of_month year month day_of, ap length is.spelt)

clock_text_octets : (text : List ℕ) (second : ℕ) → IsClockText text second → (list_all is_stamp_octet text ≡ true) × (length text ≡ 6)
clock_text_octets text second is =
    let hour : is.hour < 100 = omega (arith, is.hour_in) in
    let minute : is.minute < 100 = omega (arith, is.minute_in) in
    let sec : is.second_of_minute < 100 = omega (arith, is.second_in) in
    (ap (list_all is_stamp_octet) is.spelt ∙ clock_octets is.hour is.minute is.second_of_minute hour minute sec, ap length is.spelt)

pub stamp_text_octets : (stamp : Stamp) → (list_all is_stamp_octet (stamp_text stamp) ≡ true) × (length (stamp_text stamp) ≡ 16)
stamp_text_octets stamp =
    let is : IsStampText (stamp_text stamp) stamp = stamp_text-IsStampText stamp in
    let local = is.local_is in
    let date = date_text_octets local.date stamp.day local.date_is in
    let clock = clock_text_octets local.clock stamp.second local.clock_is in (
      ap (list_all is_stamp_octet) (is.marked ∙ ap (λ front. front ++ 90 ∷ []) local.parts) ∙
          all_append (local.date ++ 84 ∷ local.clock) (90 ∷ []) (all_append local.date (84 ∷ local.clock) date.0 clock.0) refl,
      ap length (is.marked ∙ ap (λ front. front ++ 90 ∷ []) local.parts) ∙ long local.date local.clock date.1 clock.1,
    )
  where
    long : (d c : List ℕ) → length d ≡ 8 → length c ≡ 6 → length ((d ++ 84 ∷ c) ++ 90 ∷ []) ≡ 16
    long d c hd hc = length-append (d ++ 84 ∷ c) (90 ∷ []) ∙ ap (λ n. n + 1) (length-append d (84 ∷ c)) ∙
        (let a : length d + length (84 ∷ c) ≡ 15 = omega (arith, hd, hc) in ap (λ n. n + 1) a)
