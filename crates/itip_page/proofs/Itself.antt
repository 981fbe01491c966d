-- Octets that a parser takes as themselves, in an element as in an attribute value: all but the ampersand, `<`, the quote, the null
-- and the carriage return. Numbers, days and words have no others.
use Rattle.std.proofs.Common.{◌≡◌, ℕ, zero, suc, ◌+◌, ◌/◌, ◌%◌, ◌<◌, Bool, true, false, cond, not, ◌&&◌, ◌==◌, List, [], ◌∷◌, ◌++◌}
use Rattle.std.proofs.Common.{refl, ap, sym, ◌∙◌, arith, codes, ℤ, pos, neg_ℤ, ◌-ℤ◌}
use Rattle.std.specs.Prelude.{◌≢◌, int_lt, Option, Some, None}
use Rattle.std.specs.Fmt.{decimal, digits, digits_onto, digit_glyph}
use Rattle.std.specs.List.{list_all}
use Rattle.std.proofs.lemmas.Bool.{true≢false, and_from, and_parts, not_from_false, ne_eqb, lt-ltb, cond_both}
use Rattle.std.proofs.lemmas.Int.{ints}
use Rattle.std.proofs.lemmas.List.Folds.{list_all-append}
use Rattle.itip_moment.specs.Digits.{two_digits, four_digits}
use Rattle.itip_moment.specs.Written.{date_of, date_text, clock_text, local_text}
use Rattle.itip_moment.specs.Years.{IsDayNumber}
use Rattle.itip_moment.specs.declared.stamp.Stamp.{Stamp}
use Rattle.itip_moment.proofs.WrittenOctets.{is_stamp_octet, stamp_text_octets}
use Rattle.itip_todo.specs.declared.attendee.PartStat.{PartStat}
use Rattle.itip_todo.specs.declared.attendee.PartStat.TheVariants as part
use Rattle.itip_todo.specs.declared.status.Status.{Status}
use Rattle.itip_todo.specs.declared.status.Status.TheVariants as status
use Rattle.itip_view.specs.declared.row.ShownAttendee.{ShownAttendee}
use Rattle.itip_view.specs.declared.window.Window.{Window}
use Rattle.itip_page.specs.Dates.{day_text, hour_text, second_text, local_markup}
use Rattle.itip_page.specs.Page.{nearest, days_text, count_text}
use Rattle.itip_page.specs.RowMarkup.{status_words, partstat_words, told_markup, answer_markup}

abbrev pub is_itself : ℕ → Bool
is_itself octet = not (octet == 38) && not (octet == 60) && not (octet == 34) && not (octet == 0) && not (octet == 13)

pub itself : (octet : ℕ) → octet ≢ 38 → octet ≢ 60 → octet ≢ 34 → octet ≢ 0 → octet ≢ 13 → is_itself octet ≡ true
itself octet ampersand less quote null carriage =
    and_from _ _
    (and_from _ _
    (and_from _ _
    (and_from _ _ (not_from_false _ (ne_eqb octet 38 ampersand)) (not_from_false _ (ne_eqb octet 60 less)))
    (not_from_false _ (ne_eqb octet 34 quote)))
    (not_from_false _ (ne_eqb octet 0 null)))
    (not_from_false _ (ne_eqb octet 13 carriage))

-- such an octet differs from each that fails the test
pub differs : (octet other : ℕ) → is_itself octet ≡ true → is_itself other ≡ false → octet ≢ other
differs octet other so fails = λ e. true≢false (sym so ∙ ap is_itself e ∙ fails)

-- ---- lists of them

module _ (p : ℕ → Bool) where
  pub both_all : (xs ys : List ℕ) → list_all p xs ≡ true → list_all p ys ≡ true → list_all p (xs ++ ys) ≡ true
  both_all xs ys first second = list_all-append p xs ys ∙ and_from (list_all p xs) (list_all p ys) first second

  parts_all : (xs ys : List ℕ) → list_all p (xs ++ ys) ≡ true → (list_all p xs ≡ true) × (list_all p ys ≡ true)
  parts_all xs ys whole = and_parts (list_all p xs) (list_all p ys) (sym (list_all-append p xs ys) ∙ whole)

all_so : (p q : ℕ → Bool) → ((octet : ℕ) → p octet ≡ true → q octet ≡ true) → (octets : List ℕ) → list_all p octets ≡ true →
    list_all q octets ≡ true
all_so p q so [] h = refl
all_so p q so (octet ∷ octets) h =
    let parts = and_parts (p octet) (list_all p octets) h in
    and_from (q octet) (list_all q octets) (so octet parts.0) (all_so p q so octets parts.1)

-- ---- numbers

digit_itself : (digit : ℕ) → digit < 10 → is_itself (48 + digit) ≡ true
digit_itself digit small =
    itself (48 + digit) (λ e. absurd (omega (arith, e, small))) (λ e. absurd (omega (arith, e, small)))
    (λ e. absurd (omega (arith, e, small))) (λ e. absurd (omega (arith, e, small))) (λ e. absurd (omega (arith, e, small)))

two_itself : (number : ℕ) → number < 100 → list_all is_itself (two_digits number) ≡ true
two_itself number small =
    and_from _ _ (digit_itself (number / 10) (omega arith))
    (and_from _ _ (digit_itself (number % 10) (omega arith)) refl)

glyph_itself : (digit : ℕ) → digit < 10 → is_itself (digit_glyph false digit) ≡ true
glyph_itself digit small =
    ap (λ (b : Bool). is_itself (cond b (48 + digit) (87 + digit))) (lt-ltb digit 10 small) ∙ digit_itself digit small

digits_itself : (k number : ℕ) (behind : List ℕ) → list_all is_itself behind ≡ true →
    list_all is_itself (digits_onto k 10 false number behind) ≡ true
digits_itself zero number behind so = so
digits_itself (suc k) number behind so =
    let glyph : ℕ = digit_glyph false (number % 10) in
    let more : list_all is_itself (glyph ∷ behind) ≡ true = and_from _ _ (glyph_itself (number % 10) (omega arith)) so in
    cond_both (number / 10 == 0) (glyph ∷ behind) (digits_onto k 10 false (number / 10) (glyph ∷ behind))
    (λ (t : List ℕ). list_all is_itself t ≡ true) (λ e. more) (λ e. digits_itself k (number / 10) (glyph ∷ behind) more)

pub decimal_itself : (number : ℕ) → list_all is_itself (decimal number) ≡ true
unfolding digits
decimal_itself number = digits_itself 64 number [] refl

pub count_itself : (number : ℕ) → list_all is_itself (count_text number) ≡ true
count_itself number =
    cond_both (number == 1) (codes "1 row.") (decimal number ++ codes " rows.") (λ (t : List ℕ). list_all is_itself t ≡ true)
    (λ e. refl) (λ e. both_all is_itself (decimal number) (codes " rows.") (decimal_itself number) refl)

-- ---- days and moments

stamp_itself : (octet : ℕ) → is_stamp_octet octet ≡ true → is_itself octet ≡ true
stamp_itself octet so = itself octet (other 38 refl) (other 60 refl) (other 34 refl) (other 0 refl) (other 13 refl)
  where
    other : (n : ℕ) → is_stamp_octet n ≡ false → octet ≢ n
    other n fails = λ e. true≢false (sym so ∙ ap is_stamp_octet e ∙ fails)

pub day_itself : (day : ℤ) → IsDayNumber day → list_all is_itself (day_text day) ≡ true
day_itself day within =
    let at : Stamp = record { day = day; second = 0; in_years = within; in_day = omega arith } in
    let year : List ℕ = four_digits (date_of day).year in
    let month : List ℕ = two_digits (date_of day).month in
    let number : List ℕ = two_digits (date_of day).day in
    let whole : list_all is_stamp_octet (local_text day 0 ++ 90 ∷ []) ≡ true = (stamp_text_octets at).0 in
    let local = (parts_all is_stamp_octet (local_text day 0) (90 ∷ []) whole).0 in
    let date : list_all is_stamp_octet ((year ++ month) ++ number) ≡ true =
    (parts_all is_stamp_octet (date_text day) (84 ∷ clock_text 0) local).0 in
    let last = parts_all is_stamp_octet (year ++ month) number date in
    let front = parts_all is_stamp_octet year month last.0 in
    both_all is_itself year (45 ∷ (month ++ (45 ∷ number))) (all_so is_stamp_octet is_itself stamp_itself year front.0)
    (both_all is_itself month (45 ∷ number) (all_so is_stamp_octet is_itself stamp_itself month front.1)
    (all_so is_stamp_octet is_itself stamp_itself number last.1))

hour_itself : (second : ℕ) → second < 86_400 → list_all is_itself (hour_text second) ≡ true
hour_itself second within =
    both_all is_itself (two_digits (second / 3600)) (58 ∷ two_digits (second / 60 % 60)) (two_itself (second / 3600) (omega arith))
    (two_itself (second / 60 % 60) (omega arith))

second_itself : (second : ℕ) → list_all is_itself (second_text second) ≡ true
second_itself second =
    cond_both (second % 60 == 0) [] (58 ∷ two_digits (second % 60)) (λ (t : List ℕ). list_all is_itself t ≡ true) (λ e. refl)
    (λ e. two_itself (second % 60) (omega arith))

pub local_itself : (stamp : Stamp) → list_all is_itself (local_markup stamp) ≡ true
local_itself stamp =
    both_all is_itself (day_text stamp.day) (hour_text stamp.second ++ second_text stamp.second)
    (day_itself stamp.day stamp.in_years)
    (both_all is_itself (hour_text stamp.second) (second_text stamp.second) (hour_itself stamp.second stamp.in_day)
    (second_itself stamp.second))

nearest_in_years : (day : ℤ) → IsDayNumber (nearest day)
nearest_in_years day = by (int_lt day (neg_ℤ (pos 719_528))) (int_lt (pos 2_932_896) day) refl refl
  where
    by : (low high : Bool) → int_lt day (neg_ℤ (pos 719_528)) ≡ low → int_lt (pos 2_932_896) day ≡ high →
        IsDayNumber (cond low (neg_ℤ (pos 719_528)) (cond high (pos 2_932_896) day))
    by true high e f = omega (arith, ints)
    by false true e f = omega (arith, ints)
    by false false e f = omega (arith, ints)

pub days_itself : (window : Window) → list_all is_itself (days_text window) ≡ true
days_itself window =
    both_all is_itself (day_text (nearest window.from)) (codes " to " ++ day_text (nearest (window.to -ℤ pos 1)))
    (day_itself (nearest window.from) (nearest_in_years window.from))
    (day_itself (nearest (window.to -ℤ pos 1)) (nearest_in_years (window.to -ℤ pos 1)))

-- ---- words

pub status_itself : (said : Option Status) → list_all is_itself (status_words said) ≡ true
status_itself None = refl
status_itself (Some status.NeedsAction) = refl
status_itself (Some status.Completed) = refl
status_itself (Some status.InProcess) = refl
status_itself (Some status.Cancelled) = refl

words_itself : (partstat : PartStat) → list_all is_itself (partstat_words partstat) ≡ true
words_itself part.NeedsAction = refl
words_itself part.Accepted = refl
words_itself part.Declined = refl
words_itself part.Tentative = refl
words_itself part.Delegated = refl
words_itself part.Completed = refl
words_itself part.InProcess = refl

told_itself : (percent : Option ℕ) → list_all is_itself (told_markup percent) ≡ true
told_itself None = refl
told_itself (Some percent) = both_all is_itself (decimal percent) (codes "%") (decimal_itself percent) refl

pub answer_itself : (attendee : ShownAttendee) → list_all is_itself (answer_markup attendee) ≡ true
answer_itself attendee =
    both_all is_itself (partstat_words attendee.partstat) (told_markup attendee.percent) (words_itself attendee.partstat)
    (told_itself attendee.percent)
