-- Which text is which rule: the profile of RFC 5545 3.3.10 that is expanded (the choice of its parts is our own).
use Rattle.std.specs.Prelude.{◌≡◌, ℕ, ◌≤◌, ◌⊎◌, ◌==◌, ◌&&◌, nat_lt, nat_le, if◌then◌else◌, length, map, List, [], ◌∷◌, ◌++◌, IsTrue, Bool}
use Rattle.std.specs.Prelude.{Option, Some, None, MatchOption, codes, count_by}
use Rattle.std.specs.Char.{to_ascii_lowercase}
use Rattle.std.specs.Cmp.Lexicographic.{pointwise}
use Rattle.std.specs.List.{AllZip, slice_split, position_or_len, before_first, after_first, find, list_all, list_any}
use Rattle.std.specs.Option.{option_and_then}
use Rattle.std.specs.Str.{str_to_ascii_uppercase}
use Rattle.std.specs.Str.Parse.{digits_value, IsNumeral}
use Rattle.std.specs.Prelude.{nat_eq}
use Rattle.jiff_core.specs.declared.civil.weekday.Weekday.{Weekday}
use Rattle.jiff_core.specs.declared.civil.weekday.Weekday.TheVariants.{Monday, Tuesday, Wednesday, Thursday, Friday, Saturday, Sunday}
use Rattle.itip_moment.specs.Spelling.{MomentText}
use Rattle.itip_recur.specs.declared.rule.Rule.{Rule}
use Rattle.itip_recur.specs.declared.rule.Frequency.{Frequency}
use Rattle.itip_recur.specs.declared.rule.Frequency.TheVariants.{Daily, Weekly, Monthly, Yearly}
use Rattle.itip_recur.specs.declared.rule.WeekDays.{WeekDays}
use Rattle.itip_recur.specs.declared.rule.WeekDays.TheVariants as week
use Rattle.itip_recur.specs.declared.rule.MonthDays.{MonthDays}
use Rattle.itip_recur.specs.declared.rule.MonthDays.TheVariants as month
use Rattle.itip_recur.specs.declared.rule.YearDays.{YearDays}
use Rattle.itip_recur.specs.declared.rule.YearDays.TheVariants as year
use Rattle.itip_recur.specs.declared.rule.Place.{Place}
use Rattle.itip_recur.specs.declared.rule.Place.TheVariants.{FromFirst, FromLast}
use Rattle.itip_recur.specs.declared.rule.MonthWeekday.{MonthWeekday}
use Rattle.itip_recur.specs.declared.rule.MonthWeekday.TheVariants.{Every, Nth}
use Rattle.itip_recur.specs.declared.rule.End.{End}
use Rattle.itip_recur.specs.declared.rule.End.TheVariants.{Never, Count, Until}

-- the parts of a rule, separated by ';'
abbrev pub rule_parts : List ℕ → List (List ℕ)
rule_parts text = slice_split (λ c. c == 59) text

-- the elements of a list, separated by ','
abbrev pub elements : List ℕ → List (List ℕ)
elements value = slice_split (λ c. c == 44) value

-- the names that a part may have
abbrev pub part_names : List (List ℕ)
part_names = codes "FREQ" ∷ codes "INTERVAL" ∷ codes "COUNT" ∷ codes "UNTIL" ∷ codes "WKST" ∷ codes "BYDAY" ∷ codes "BYMONTHDAY" ∷
    codes "BYMONTH" ∷ []

-- the text before the first '=' of the part is the name, in either case
abbrev pub has_name : List ℕ → List ℕ → Bool
has_name name part = nat_lt (position_or_len (λ c. c == 61) part) (length part) &&
    pointwise nat_eq (map to_ascii_lowercase (before_first (λ c. c == 61) part)) (map to_ascii_lowercase name)

-- the text after the first '=' of a part, if it has one
abbrev pub part_value : List ℕ → Option (List ℕ)
part_value part = if nat_lt (position_or_len (λ c. c == 61) part) (length part) then Some (after_first (λ c. c == 61) part) else None

-- the value of the part with this name, if there is one
abbrev pub value_of : List ℕ → List (List ℕ) → Option (List ℕ)
value_of name parts = option_and_then part_value (find (has_name name) parts)

-- each part has one of the names, and no name appears twice
abbrev pub are_parts : List (List ℕ) → Bool
are_parts parts =
    list_all (λ part. list_any (λ name. has_name name part) part_names) parts
    && list_all (λ name. nat_le (count_by (has_name name) parts) 1) part_names

-- the text is this word, in either case
abbrev pub IsWord : List ℕ → List ℕ → Type 0
IsWord word text = map to_ascii_lowercase text ≡ map to_ascii_lowercase word

abbrev pub weekday_word : Weekday → List ℕ
weekday_word Monday = codes "MO"
weekday_word Tuesday = codes "TU"
weekday_word Wednesday = codes "WE"
weekday_word Thursday = codes "TH"
weekday_word Friday = codes "FR"
weekday_word Saturday = codes "SA"
weekday_word Sunday = codes "SU"

abbrev pub IsWeekdayText : List ℕ → Weekday → Type 0
IsWeekdayText text weekday = str_to_ascii_uppercase text ≡ weekday_word weekday

-- one or more digits that spell a number from 1 to the limit
pub record IsNumberText (limit : ℕ) (text : List ℕ) (n : ℕ) : Type 0 where
  pub digits : IsNumeral 10 text
  pub value : n ≡ digits_value 10 text
  pub positive : 1 ≤ n
  pub small : n ≤ limit

-- a number, counted from the front without a sign or after '+', and from the end after '-'
abbrev pub IsPlaceText : ℕ → List ℕ → Place → Type 0
IsPlaceText limit text (FromFirst n) = IsNumberText limit text n ⊎ ((rest : List ℕ) × (text ≡ 43 ∷ rest) × IsNumberText limit rest n)
IsPlaceText limit text (FromLast n) = (rest : List ℕ) × (text ≡ 45 ∷ rest) × IsNumberText limit rest n

-- a place up to 5, followed by a weekday
pub record IsNthText (text : List ℕ) (place : Place) (weekday : Weekday) : Type 0 where
  pub front : List ℕ
  pub back : List ℕ
  pub whole : text ≡ front ++ back
  pub place_is : IsPlaceText 5 front place
  pub weekday_is : IsWeekdayText back weekday

abbrev pub IsMonthWeekdayText : List ℕ → MonthWeekday → Type 0
IsMonthWeekdayText text (Every weekday) = IsWeekdayText text weekday
IsMonthWeekdayText text (Nth place weekday) = IsNthText text place weekday

abbrev pub AreWeekdays : List ℕ → List Weekday → Type 0
AreWeekdays value weekdays = AllZip IsWeekdayText (elements value) weekdays

abbrev pub AreMonthWeekdays : List ℕ → List MonthWeekday → Type 0
AreMonthWeekdays value weekdays = AllZip IsMonthWeekdayText (elements value) weekdays

abbrev pub AreMonthDays : List ℕ → List Place → Type 0
AreMonthDays value places = AllZip (IsPlaceText 31) (elements value) places

abbrev pub AreMonths : List ℕ → List ℕ → Type 0
AreMonths value months = AllZip (IsNumberText 12) (elements value) months

-- a part that is absent
abbrev pub IsAbsent : Option (List ℕ) → Type 0
IsAbsent part = part ≡ None

-- a part that is present, with a value for which P holds
abbrev pub IsGiven : (List ℕ → Type 0) → Option (List ℕ) → Type 0
IsGiven P part = MatchOption part ⊥ P

-- BYDAY of a weekly rule
abbrev pub IsWeekPart : Option (List ℕ) → WeekDays → Type 0
IsWeekPart by_day week.OfStart = IsAbsent by_day
IsWeekPart by_day (week.Listed days) = IsGiven (λ value. AreWeekdays value days) by_day

-- BYMONTHDAY or BYDAY of a monthly rule
abbrev pub AreMonthParts : Option (List ℕ) → Option (List ℕ) → MonthDays → Type 0
AreMonthParts by_month_day by_day month.OfStart = IsAbsent by_month_day × IsAbsent by_day
AreMonthParts by_month_day by_day (month.Listed days) = IsGiven (λ value. AreMonthDays value days) by_month_day × IsAbsent by_day
AreMonthParts by_month_day by_day (month.Weekdays days) = IsAbsent by_month_day × IsGiven (λ value. AreMonthWeekdays value days) by_day

-- BYMONTH and BYMONTHDAY of a yearly rule: both or neither
abbrev pub AreYearParts : Option (List ℕ) → Option (List ℕ) → YearDays → Type 0
AreYearParts by_month by_month_day year.OfStart = IsAbsent by_month × IsAbsent by_month_day
AreYearParts by_month by_month_day (year.Listed months days) = IsGiven (λ value. AreMonths value months) by_month ×
    IsGiven (λ value. AreMonthDays value days) by_month_day

-- FREQ, and the parts that it allows
abbrev pub IsFrequencyOf : List (List ℕ) → Frequency → Type 0
IsFrequencyOf parts Daily =
    IsGiven (IsWord (codes "DAILY")) (value_of (codes "FREQ") parts)
    × IsAbsent (value_of (codes "BYDAY") parts) × IsAbsent (value_of (codes "BYMONTHDAY") parts) ×
    IsAbsent (value_of (codes "BYMONTH") parts)
IsFrequencyOf parts (Weekly days) =
    IsGiven (IsWord (codes "WEEKLY")) (value_of (codes "FREQ") parts)
    × IsWeekPart (value_of (codes "BYDAY") parts) days × IsAbsent (value_of (codes "BYMONTHDAY") parts) ×
    IsAbsent (value_of (codes "BYMONTH") parts)
IsFrequencyOf parts (Monthly days) =
    IsGiven (IsWord (codes "MONTHLY")) (value_of (codes "FREQ") parts)
    × AreMonthParts (value_of (codes "BYMONTHDAY") parts) (value_of (codes "BYDAY") parts) days ×
    IsAbsent (value_of (codes "BYMONTH") parts)
IsFrequencyOf parts (Yearly days) =
    IsGiven (IsWord (codes "YEARLY")) (value_of (codes "FREQ") parts)
    × AreYearParts (value_of (codes "BYMONTH") parts) (value_of (codes "BYMONTHDAY") parts) days × IsAbsent (value_of (codes "BYDAY") parts)

-- INTERVAL, or 1 if it is absent
abbrev pub IsInterval : Option (List ℕ) → ℕ → Type 0
IsInterval part n = MatchOption part (n ≡ 1) (λ value. IsNumberText 10_000 value n)

-- WKST, or Monday if it is absent
abbrev pub IsWeekStart : Option (List ℕ) → Weekday → Type 0
IsWeekStart part weekday = MatchOption part (weekday ≡ Monday) (λ value. IsWeekdayText value weekday)

-- COUNT or UNTIL, not both; UNTIL is a date, a local time or a time in UTC
abbrev pub IsEndOf : Option (List ℕ) → Option (List ℕ) → End → Type 0
IsEndOf count until Never = IsAbsent count × IsAbsent until
IsEndOf count until (Count n) = IsGiven (λ value. IsNumberText 4_294_967_295 value n) count × IsAbsent until
IsEndOf count until (Until last) = IsAbsent count × IsGiven (λ value. MomentText value None last) until

-- the parts are those of the rule
pub record IsRuleOfParts (parts : List (List ℕ)) (rule : Rule) : Type 0 where
  pub lawful : IsTrue (are_parts parts)
  pub frequency : IsFrequencyOf parts rule.frequency
  pub interval : IsInterval (value_of (codes "INTERVAL") parts) rule.interval
  pub end : IsEndOf (value_of (codes "COUNT") parts) (value_of (codes "UNTIL") parts) rule.end
  pub week_start : IsWeekStart (value_of (codes "WKST") parts) rule.week_start

-- the text is the rule
abbrev pub RuleText : List ℕ → Rule → Type 0
RuleText text rule = IsRuleOfParts (rule_parts text) rule

-- the text is no rule of the profile
abbrev pub IsOpaqueText : List ℕ → Type 0
IsOpaqueText text = (rule : Rule) → RuleText text rule → ⊥
