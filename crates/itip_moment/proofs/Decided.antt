-- Each text spells a date, a stamp or a moment, or it spells none.
use Rattle.std.proofs.Common.{◌≡◌, ◌∙◌, sym, ap, refl, subst, ℕ, ◌+◌, ◌-◌, ◌*◌, ◌/◌, ◌%◌, ◌<◌, ◌≤◌, List, [], ◌∷◌, ◌++◌, length, take}
use Rattle.std.proofs.Common.{drop, get_or, arith, inl, inr, ◌⊎◌, Option, Some, None, ℤ, pos, min, length-append, take-append-drop}
use Rattle.std.proofs.lemmas.Bool.Decides.{leb_tells, eqb_tells}
use Rattle.std.proofs.lemmas.List.{drop_more, drop_all, get_or_at}
use Rattle.jiff.specs.Types.{Date as CalendarDate}
use Rattle.jiff.specs.Words.{epoch_day, days_in_month}
use Rattle.jiff_core.proofs.SignedLemmas.{signed_arith}
use Rattle.itip_moment.specs.Digits.{two_digits, clock_digits}
use Rattle.itip_moment.specs.Spelling.{IsDayOf, IsDateText, IsClockText, IsLocalText, IsUtcText, IsStampText, MomentText}
use Rattle.itip_moment.specs.Years.{IsDayNumber}
use Rattle.itip_moment.specs.declared.moment.Moment.{Moment}
use Rattle.itip_moment.specs.declared.moment.Moment.TheVariants.{Date, Floating, Utc, Zoned}
use Rattle.itip_moment.specs.declared.stamp.Stamp.{Stamp}
use Rattle.itip_moment.proofs.Calendar.{epoch_day-in_years}
use Rattle.itip_moment.proofs.DigitLemmas.{AreDateDigits, date_text-found, date_text-only, clock_digits-one}
use Rattle.itip_moment.proofs.MomentLemmas.{no_moment}
use Rattle.itip_moment.proofs.TextLemmas.{local-clock, IsLocalText-date, IsUtcText-local}

-- there is one, or there is none
abbrev pub Decided : {A : Type 0} → (A → Type 0) → Type 0
Decided {A} P = ((a : A) × P a) ⊎ ((a : A) → P a → ⊥)

-- ---- digits

two_are : (k r : ℕ) → r < 10 → two_digits (k * 10 + r) ≡ (48 + k) ∷ (48 + r) ∷ []
two_are k r h =
    let tens : (k * 10 + r) / 10 ≡ k = omega arith in
    let ones : (k * 10 + r) % 10 ≡ r = omega arith in
    λ i. (48 + tens i) ∷ (48 + ones i) ∷ []

first_two : (a b c d : ℕ) → a ∷ b ∷ [] ≡ c ∷ d ∷ [] → (a ≡ c) × (b ≡ d)
first_two a b c d e = (cc, cc)

decide_two : (a b : ℕ) → Decided (λ n. a ∷ b ∷ [] ≡ two_digits n)
decide_two a b =
    elim (leb_tells 48 a) [
      | inr low ↦ inr (λ n e. let same = first_two a b (48 + n / 10) (48 + n % 10) e in omega (arith, low.1, same.0))
      | inl high ↦ elim (leb_tells 48 b) [
        | inr low ↦ inr (λ n e. let same = first_two a b (48 + n / 10) (48 + n % 10) e in omega (arith, low.1, same.1))
        | inl above ↦ elim (leb_tells b 57) [
          | inr over ↦ inr (λ n e. let same = first_two a b (48 + n / 10) (48 + n % 10) e in omega (arith, over.1, same.1))
          | inl below ↦
              let tens : 48 + (a - 48) ≡ a = omega (arith, high.1) in
              let ones : 48 + (b - 48) ≡ b = omega (arith, above.1) in
              inl (
                (a - 48) * 10 + (b - 48),
                sym (two_are (a - 48) (b - 48) (omega (arith, above.1, below.1)) ∙
                    (λ i. tens i ∷ ones i ∷ [])),
              )
        ]
      ]
    ]

-- ---- dates

decide_day : (y m d : ℕ) → Decided (IsDayOf y m d)
decide_day y m d =
    elim (leb_tells y 9999) [
      | inr over ↦ inr (λ n is. let year = is.parts.0 in omega (arith, signed_arith, over.1, is.date.year_in, year))
      | inl year ↦ elim (leb_tells 1 m) [
        | inr none ↦ inr (λ n is. let month = is.parts.1 in omega (arith, signed_arith, none.1, is.date.month_in, month))
        | inl low ↦ elim (leb_tells m 12) [
          | inr over ↦ inr (λ n is. let month = is.parts.1 in omega (arith, signed_arith, over.1, is.date.month_in, month))
          | inl high ↦ elim (leb_tells 1 d) [
            | inr none ↦ inr (λ n is. let day = is.parts.2 in omega (arith, signed_arith, none.1, is.date.day_in.0, day))
            | inl first ↦ elim (leb_tells d (days_in_month (pos y) m)) [
              | inr over ↦ inr (λ n is. too_late is.date is.parts.0 (same_number is.parts.1) (same_number is.parts.2) over.1)
              | inl last ↦
                  let date : CalendarDate =
                  record {
                    year = pos y;
                    month = m;
                    day = d;
                    year_in =
                        (omega (arith, signed_arith, year.1), omega (arith, signed_arith, year.1));
                    month_in = (low.1, high.1);
                    day_in =
                        (first.1, last.1);
                  } in
                  inl (epoch_day date, record { date = date; parts = (refl, refl, refl); number_is = refl })
            ]
          ]
        ]
      ]
    ]
  where
    same_number : {a b : ℕ} → pos a ≡ pos b → a ≡ b
    same_number e = cc

    too_late : (date : CalendarDate) → date.year ≡ pos y → date.month ≡ m → date.day ≡ d → days_in_month (pos y) m < d → ⊥
    too_late date year month day over =
        let within : d ≤ days_in_month (pos y) m =
        subst (λ (k : ℕ). k ≤ days_in_month (pos y) m) day
        (subst (λ (k : ℕ). date.day ≤ days_in_month (pos y) k) month
        (subst (λ (z : ℤ). date.day ≤ days_in_month z date.month) year date.day_in.1)) in
        omega (arith, over, within)

module _ (text : List ℕ) (c y m d : ℕ) (digits : AreDateDigits text c y m d) where
  dated : Decided (λ (n : ℤ). IsDateText text n)
  dated = elim (decide_day (c * 100 + y) m d) [
    | inl day ↦ inl (day.0, date_text-found text c y m d digits day.0 day.1)
    | inr none ↦ inr (λ n is. none n (date_text-only text c y m d digits n is))
  ]

below_hundred : (y n : ℕ) → two_digits y ≡ two_digits (n % 100) → y < 100
below_hundred y n e =
    let same = first_two (48 + y / 10) (48 + y % 10) (48 + n % 100 / 10) (48 + n % 100 % 10) e in
    omega (arith, same.0)

pub decide_date : (text : List ℕ) → Decided (λ (n : ℤ). IsDateText text n)
decide_date text =
    elim (eqb_tells (length text) 8) [
      | inr other ↦ inr (λ n is. other.1 (ap length is.spelt))
      | inl long ↦ elim (decide_two (get_or text 0 0) (get_or text 1 0)) [
        | inr none ↦ inr (λ n is. none (is.year / 100) (ap (λ t. get_or t 0 0 ∷ get_or t 1 0 ∷ []) is.spelt))
        | inl century ↦ elim (decide_two (get_or text 2 0) (get_or text 3 0)) [
          | inr none ↦ inr (λ n is. none (is.year % 100) (ap (λ t. get_or t 2 0 ∷ get_or t 3 0 ∷ []) is.spelt))
          | inl year ↦ elim (decide_two (get_or text 4 0) (get_or text 5 0)) [
            | inr none ↦ inr (λ n is. none is.month (ap (λ t. get_or t 4 0 ∷ get_or t 5 0 ∷ []) is.spelt))
            | inl month ↦ elim (decide_two (get_or text 6 0) (get_or text 7 0)) [
              | inr none ↦ inr (λ n is. none is.day_of_month (ap (λ t. get_or t 6 0 ∷ get_or t 7 0 ∷ []) is.spelt))
              | inl day ↦ elim (leb_tells 100 year.0) [
                | inl over ↦ inr (λ n is. let below =
                    below_hundred year.0 is.year (sym year.1 ∙ ap (λ t. get_or t 2 0 ∷ get_or t 3 0 ∷ []) is.spelt) in
                    omega (arith, over.1, below))
                | inr small ↦ dated text century.0 year.0 month.0 day.0
                    (record {
                      eight_long = long.1;
                      century_is = century.1;
                      year_is = year.1;
                      month_is = month.1;
                      day_is = day.1;
                      year_in =
                          small.1;
                    })
              ]
            ]
          ]
        ]
      ]
    ]

-- ---- times

six : (xs : List ℕ) → length xs ≡ 6 → xs ≡ get_or xs 0 0 ∷ get_or xs 1 0 ∷ get_or xs 2 0 ∷ get_or xs 3 0 ∷ get_or xs 4 0 ∷ get_or xs 5 0 ∷
    []
six (a ∷ b ∷ c ∷ d ∷ e ∷ f ∷ []) len = refl
six [] len = absurd (omega arith)
six (a ∷ []) len = absurd (omega arith)
six (a ∷ b ∷ []) len = absurd (omega arith)
six (a ∷ b ∷ c ∷ []) len = absurd (omega arith)
six (a ∷ b ∷ c ∷ d ∷ []) len = absurd (omega arith)
six (a ∷ b ∷ c ∷ d ∷ e ∷ []) len = absurd (omega arith)
six (a ∷ b ∷ c ∷ d ∷ e ∷ f ∷ g ∷ xs) len = absurd (omega arith)

decide_hour : (text : List ℕ) (h m s : ℕ) → text ≡ clock_digits h m s → Decided (IsClockText text)
decide_hour text h m s spelt =
    elim (leb_tells h 23) [
      | inr over ↦ inr (λ n is. let same = clock_digits-one h m s is.hour is.minute is.second_of_minute (sym spelt ∙ is.spelt) in
          omega (arith, over.1, same.0, is.hour_in))
      | inl hour ↦ elim (leb_tells m 59) [
        | inr over ↦ inr (λ n is. let same = clock_digits-one h m s is.hour is.minute is.second_of_minute (sym spelt ∙ is.spelt) in
            omega (arith, over.1, same.1, is.minute_in))
        | inl minute ↦ elim (leb_tells s 60) [
          | inr over ↦ inr (λ n is. let same = clock_digits-one h m s is.hour is.minute is.second_of_minute (sym spelt ∙ is.spelt) in
              omega (arith, over.1, same.2, is.second_in))
          | inl second ↦ inl (
            3600 * h + 60 * m + min s 59,
            record {
              hour = h;
              minute = m;
              second_of_minute = s;
              hour_in = omega (arith, hour.1);
              minute_in = omega (arith, minute.1);
              second_in = second.1;
              spelt = spelt;
              number = refl;
            },
          )
        ]
      ]
    ]

six_digits : (text : List ℕ) (h m s : ℕ) → length text ≡ 6 → get_or text 0 0 ∷ get_or text 1 0 ∷ [] ≡ two_digits h → get_or text 2 0 ∷
    get_or text 3 0 ∷ [] ≡ two_digits m → get_or text 4 0 ∷ get_or text 5 0 ∷ [] ≡ two_digits s
    → text ≡ clock_digits h m s
six_digits text h m s long hour minute second = let all = six text long in cc

decide_clock : (text : List ℕ) → Decided (IsClockText text)
decide_clock text =
    elim (eqb_tells (length text) 6) [
      | inr other ↦ inr (λ n is. other.1 (ap length is.spelt))
      | inl long ↦ elim (decide_two (get_or text 0 0) (get_or text 1 0)) [
        | inr none ↦ inr (λ n is. none is.hour (ap (λ t. get_or t 0 0 ∷ get_or t 1 0 ∷ []) is.spelt))
        | inl hour ↦ elim (decide_two (get_or text 2 0) (get_or text 3 0)) [
          | inr none ↦ inr (λ n is. none is.minute (ap (λ t. get_or t 2 0 ∷ get_or t 3 0 ∷ []) is.spelt))
          | inl minute ↦ elim (decide_two (get_or text 4 0) (get_or text 5 0)) [
            | inr none ↦ inr (λ n is. none is.second_of_minute (ap (λ t. get_or t 4 0 ∷ get_or t 5 0 ∷ []) is.spelt))
            | inl second ↦ decide_hour text hour.0 minute.0 second.0
                (six_digits text hour.0 minute.0 second.0 long.1 hour.1 minute.1 second.1)
          ]
        ]
      ]
    ]

-- a day and a second of it
record IsLocal (text : List ℕ) : Type 0 where
  day : ℤ
  second : ℕ
  is : IsLocalText text day second

NoLocal : List ℕ → Type 0
NoLocal text = (day : ℤ) (second : ℕ) → IsLocalText text day second → ⊥

date_long : (text : List ℕ) (day : ℤ) (second : ℕ) → (is : IsLocalText text day second) → 8 < length text
date_long text day second is = omega (arith, ap length is.parts, length-append is.date (84 ∷ is.clock), ap length is.date_is.spelt)

local_mark : (text : List ℕ) (day : ℤ) (second : ℕ) → (is : IsLocalText text day second) → get_or text 8 0 ≡ 84
local_mark text day second is = ap (λ t. get_or t 8 0) (is.parts ∙ ap (λ d. d ++ 84 ∷ is.clock) is.date_is.spelt)

local_parts : (text : List ℕ) → 8 < length text → get_or text 8 0 ≡ 84 → text ≡ take 8 text ++ 84 ∷ drop 9 text
local_parts text long mark =
    sym (take-append-drop 8 text) ∙ ap (λ rest. take 8 text ++ rest) (drop_more text 8 0 long ∙ ap (λ b. b ∷ drop 9 text) mark)

decide_local : (text : List ℕ) → IsLocal text ⊎ NoLocal text
unfolding NoLocal
decide_local text =
    elim (leb_tells 9 (length text)) [
      | inr short ↦ inr (λ day second is. let long = date_long text day second is in omega (arith, short.1, long))
      | inl long ↦ elim (eqb_tells (get_or text 8 0) 84) [
        | inr other ↦ inr (λ day second is. other.1 (local_mark text day second is))
        | inl mark ↦ elim (decide_date (take 8 text)) [
          | inr none ↦ inr (λ day second is. none day (IsLocalText-date text day second is))
          | inl date ↦ elim (decide_clock (drop 9 text)) [
            | inr none ↦ inr (λ day second is. none second
                (subst (λ (t : List ℕ). IsClockText t second) (sym (local-clock text day second is)) is.clock_is))
            | inl clock ↦ inl (record {
              day = date.0;
              second = clock.0;
              is = record {
                date = take 8 text;
                clock = drop 9 text;
                parts = local_parts text (omega (arith, long.1)) mark.1;
                date_is =
                    date.1;
                clock_is = clock.1;
              };
            })
          ]
        ]
      ]
    ]

-- the same, and a final Z
record IsUtc (text : List ℕ) : Type 0 where
  day : ℤ
  second : ℕ
  is : IsUtcText text day second

NoUtc : List ℕ → Type 0
NoUtc text = (day : ℤ) (second : ℕ) → IsUtcText text day second → ⊥

utc_some : (text : List ℕ) (day : ℤ) (second : ℕ) → IsUtcText text day second → 0 < length text
utc_some text day second is = omega (arith, ap length is.marked, length-append is.local (90 ∷ []))

utc_mark : (text : List ℕ) (day : ℤ) (second : ℕ) → (is : IsUtcText text day second) → get_or text (length text - 1) 0 ≡ 90
utc_mark text day second is =
    let long : length is.local ≡ length text - 1 = omega (arith, ap length is.marked, length-append is.local (90 ∷ [])) in
    ap (λ t. get_or t (length text - 1) 0) is.marked ∙ get_or_at is.local 90 [] 0 (length text - 1) long

utc_parts : (text : List ℕ) → 0 < length text → get_or text (length text - 1) 0 ≡ 90 → text ≡ take (length text - 1) text ++ 90 ∷ []
utc_parts text some mark =
    sym (take-append-drop (length text - 1) text)
    ∙ ap (λ rest. take (length text - 1) text ++ rest)
    (drop_more text (length text - 1) 0 (omega (arith, some)) ∙ (λ i. mark i ∷ drop_all (length text - 1 + 1) text (omega (arith, some)) i))

decide_utc : (text : List ℕ) → IsUtc text ⊎ NoUtc text
unfolding NoLocal NoUtc
decide_utc text =
    elim (leb_tells 1 (length text)) [
      | inr none ↦ inr (λ day second is. let some = utc_some text day second is in omega (arith, none.1, some))
      | inl some ↦ elim (eqb_tells (get_or text (length text - 1) 0) 90) [
        | inr other ↦ inr (λ day second is. other.1 (utc_mark text day second is))
        | inl mark ↦ elim (decide_local (take (length text - 1) text)) [
          | inr none ↦ inr (λ day second is. none day second (IsUtcText-local text day second is))
          | inl local ↦ inl (record {
            day = local.day;
            second = local.second;
            is =
                record { local = take (length text - 1) text; marked = utc_parts text (omega (arith, some.1)) mark.1; local_is = local.is };
          })
        ]
      ]
    ]

-- ---- stamps and moments

day_in_years : (text : List ℕ) (day : ℤ) → IsDateText text day → IsDayNumber day
day_in_years text day is = subst IsDayNumber (sym is.day_is.number_is) (epoch_day-in_years is.day_is.date is.year is.day_is.parts.0)

second_in_day : (text : List ℕ) (second : ℕ) → IsClockText text second → second < 86400
second_in_day text second is = omega (arith, is.number, is.hour_in, is.minute_in)

stamp_at : (text : List ℕ) (day : ℤ) (second : ℕ) → IsLocalText text day second → Stamp
stamp_at text day second is =
    record {
      day = day;
      second = second;
      in_years = day_in_years is.date day is.date_is;
      in_day =
          second_in_day is.clock second is.clock_is;
    }

pub decide_stamp : (text : List ℕ) → Decided (λ (s : Stamp). IsStampText text s)
unfolding NoUtc stamp_at
decide_stamp text =
    elim (decide_utc text) [
      | inl utc ↦ inl (stamp_at utc.is.local utc.day utc.second utc.is.local_is, utc.is)
      | inr none ↦ inr (λ s is. none s.day s.second is)
    ]

local_moment : (text : List ℕ) (tzid : Option (List ℕ)) → IsLocal text → (m : Moment) × MomentText text tzid m
unfolding stamp_at
local_moment text None local = (Floating (stamp_at text local.day local.second local.is), (local.is, refl))
local_moment text (Some []) local = (Floating (stamp_at text local.day local.second local.is), (local.is, refl))
local_moment text (Some (b ∷ zone)) local =
    (Zoned (record { bytes = b ∷ zone; not_empty = λ e. cc }) (stamp_at text local.day local.second local.is), (local.is, refl))

pub decide_moment : (text : List ℕ) (tzid : Option (List ℕ)) → Decided (MomentText text tzid)
unfolding NoLocal NoUtc stamp_at
decide_moment text tzid =
    elim (decide_date text) [
      | inl date ↦ inl (Date (record { number = date.0; in_years = day_in_years text date.0 date.1 }), date.1)
      | inr no_date ↦ elim (decide_utc text) [
        | inl utc ↦ inl (Utc (stamp_at utc.is.local utc.day utc.second utc.is.local_is), utc.is)
        | inr no_utc ↦ elim (decide_local text) [
          | inl local ↦ inl (local_moment text tzid local)
          | inr no_local ↦ inr (no_moment text tzid no_date no_utc no_local)
        ]
      ]
    ]
